-- `heard::scan_byte` meets its contract.
use mathlib.Core.Path.{◌∙◌}
use Rattle.heard.specs.Scans.{scan_as}
use Rattle.heard.proofs.Scanning.{wrong_on, scan_other}
use Rattle.heard.proofs.scan_byte.Goals as goal

pub returns-in-Word : goal.returns-in-Word
returns-in-Word c =
    let now = c.args.named.now in
    (c.requires.named_len, c.word_byte.ensures now ∙ scan_other (scan_as c.args.s now) c.args.b c.if-b-eq13.false)

pub returns-in-Time : goal.returns-in-Time
returns-in-Time c =
    let t = c.number_byte.ensures in
    (t.0, t.1 ∙ scan_other (scan_as c.args.s c.args.named.now) c.args.b c.if-b-eq13.false)

pub returns-in-Wrong : goal.returns-in-Wrong
returns-in-Wrong c =
    let s = c.args.s in
    let now = c.args.named.now in (
      c.requires.named_len,
      c.lost.ensures _ ∙ wrong_on s.phase s.digits s.value s.time s.low s.rises s.names _ c.args.b c.in-Wrong.is
          ∙ scan_other (scan_as s now) c.args.b c.if-b-eq13.false,
    )
