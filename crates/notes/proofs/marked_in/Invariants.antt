-- `notes::marked_in` meets its contract.
use mathlib.Core.Path.{◌≡◌}
use Prim.Native.Nat.{◌*◌, ◌≤◌}
use lib.ListN.{get_or}
use lib.Dec.{eqb}
use Rattle.rules.specs.Words.{count_in}
use Rattle.rules.specs.Limits.{record_width}
use Rattle.notes.proofs.marked_in.Given as goal

abbrev pub invariant-loop-j : goal.invariant-loop-j
invariant-loop-j l = (l.s ≤ l.j) × (l.s ≡ count_in (λ j. eqb (get_or l.out (j * record_width) 0) l.v) 0 l.j)
