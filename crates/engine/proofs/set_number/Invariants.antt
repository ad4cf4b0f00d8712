-- `engine::set_number` meets its contract.
use mathlib.Core.Bool.{false}
use lib.ListN.{get_or}
use Rattle.engine.proofs.Powers.{Doubling}
use Rattle.engine.proofs.set_number.Given as goal

abbrev pub invariant-loop-runs : goal.invariant-loop-runs
invariant-loop-runs l = Doubling (λ j. get_or l.fn.set j false) l.runs-index l.power l.number
