-- `lowest::absences_fault` meets its contract.
use mathlib.Core.Path.{◌≡◌}
use Rattle.rules.specs.Refusals.{first_of}
use Rattle.lowest.specs.Needs.{unkept_fault}
use Rattle.lowest.proofs.absences_fault.Given as goal

abbrev pub invariant-loop-k : goal.invariant-loop-k
invariant-loop-k l = (first_of (unkept_fault l.last) l.k).number ≡ 0
