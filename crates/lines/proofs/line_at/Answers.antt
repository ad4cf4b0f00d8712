-- `lines::line_at` meets its contract: the line ends at its newline, and the next starts behind that.
use Rattle.std.proofs.Common.{refl, arith}
use Rattle.std.proofs.lemmas.Fn.{says_at}
use Rattle.lines.proofs.Unread.{ended, last}
use Rattle.lines.proofs.line_at.Goals as goal

pub returns-then-end-text : goal.returns-then-end-text
returns-then-end-text g c =
    ended _ _ _ c.line_end-end.ensures _ _ c.if-end-text.true c.line.ensures
    (c.requires.tells _ _ (says_at g.F.Fn c.says-kind.ensures refl))

pub returns : goal.returns
returns g c = last _ _ _ c.line_end-end.ensures (omega arith) c.if-end-text.false
