-- `slots::keep_places` meets its contract.
use mathlib.Core.Path.{◌≡◌}
use Rattle.slots.specs.Walks.{places}
use Rattle.slots.proofs.keep_places.Given as goal

abbrev pub invariant-loop-k : goal.invariant-loop-k
invariant-loop-k l = l.place ≡ places l.trace l.k
