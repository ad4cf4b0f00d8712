-- `lowest::tasks_fault` meets its contract.
use mathlib.Core.Path.{◌≡◌}
use Rattle.rules.specs.Refusals.{first_of, task_fault}
use Rattle.lowest.proofs.tasks_fault.Given as goal

abbrev pub invariant-loop-i : goal.invariant-loop-i
invariant-loop-i l = (first_of (task_fault l.table) l.i).number ≡ 0
