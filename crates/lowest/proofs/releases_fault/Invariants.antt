-- `lowest::releases_fault` meets its contract.
use Rattle.lowest.proofs.Walk.{Checked}
use Rattle.lowest.proofs.releases_fault.Given as goal

abbrev pub invariant-loop-j : goal.invariant-loop-j
invariant-loop-j l = Checked l.table l.end l.trace l.last l.j
