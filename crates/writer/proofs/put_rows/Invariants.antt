-- `writer::put_rows` meets its contract: the rows passed are laid, each in the part from the present end on.
use mathlib.Core.Path.{◌≡◌}
use lib.ListN.{length}
use Rattle.puts.specs.Laid.{Laid}
use Rattle.writer.specs.Rows.{rows_text}
use Rattle.writer.proofs.put_rows.Given as goal

abbrev pub invariant-loop-i : goal.invariant-loop-i
invariant-loop-i l =
    (length l.out ≡ length l.initial.out) × Laid l.at (rows_text l.word l.width l.vs l.i) l.initial.out l.out l.end
