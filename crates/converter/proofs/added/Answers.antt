-- `converter::added` meets its contract: the line has eleven bytes.
use mathlib.Core.Path.{sym}
use Rattle.conversion.specs.Conversion.{line_long}
use Rattle.converter.proofs.added.Goals as goal

pub returns-else-given : goal.returns-else-given
returns-else-given c = rw c.if-given.false (sym line_long)
