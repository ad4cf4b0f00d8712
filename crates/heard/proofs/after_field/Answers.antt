-- `heard::after_field` meets its contract.
use Rattle.std.proofs.Common.{◌∙◌}
use Rattle.heard.proofs.Scanning.{field_ended}
use Rattle.heard.proofs.after_field.Goals as goal

pub returns-in-Bad : goal.returns-in-Bad
returns-in-Bad c =
    let t = c.in-Bad.ensures in
    (t.0, c.lost.ensures _ ∙ field_ended c.args.s c.args.named.now _ c.requires.in_number t.1)

pub returns-in-Slot : goal.returns-in-Slot
returns-in-Slot c =
    let t = c.in-Slot.ensures in
    (t.0, rw c.next_low-low.ensures (field_ended c.args.s c.args.named.now _ c.requires.in_number t.1))
