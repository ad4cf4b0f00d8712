-- `counts::count_of` meets its contract.
use mathlib.Core.Path.{◌≡◌}
use Prim.Native.Nat.{◌*◌, ◌≤◌}
use Rattle.rules.specs.Words.{sum}
use Rattle.rules.specs.Case.{period, deadline}
use Rattle.rules.specs.Counts.{availability}
use Rattle.counts.specs.Needs.{max_availability}
use Rattle.counts.proofs.count_of.Given as goal

abbrev pub invariant-loop-i : goal.invariant-loop-i
invariant-loop-i l = (l.sum ≤ l.i * max_availability)
    × (l.sum ≡ sum (λ i. availability (period l.table i) (deadline l.table i) l.slots) 0 l.i)
