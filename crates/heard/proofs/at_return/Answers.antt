-- `heard::at_return` meets its contract.
use Rattle.std.proofs.Common.{◌∙◌}
use Rattle.feeds.specs.LineScan.{at_return, scan_byte}
use Rattle.heard.proofs.Scanning.{return_heard}
use Rattle.heard.proofs.at_return.Goals as goal

pub returns-in-Returned : goal.returns-in-Returned
unfolding scan_byte at_return
returns-in-Returned c = (c.requires, rw c.in-Returned.is (c.lost-wrong.ensures _))

pub returns-in-Bad : goal.returns-in-Bad
returns-in-Bad c =
    let t = c.in-Bad.ensures in
    (t.0, c.lost-wrong.ensures _ ∙ return_heard c.args.s c.args.named.now _ c.in_default.not-Returned t.1)

pub returns-in-Slot : goal.returns-in-Slot
returns-in-Slot c =
    let t = c.in-Slot.ensures in
    (t.0, return_heard c.args.s c.args.named.now _ c.in_default.not-Returned t.1)
