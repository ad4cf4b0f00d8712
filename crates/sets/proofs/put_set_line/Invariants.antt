-- `sets::put_set_line` meets its contract: the slot and the tasks of those passed that are in the set stand in front.
use Rattle.sets.proofs.Tasks.{Gathered}
use Rattle.sets.proofs.put_set_line.Given as goal

abbrev pub invariant-loop-i : goal.invariant-loop-i
invariant-loop-i g l = Gathered (goal.F-post g l.is_in) l.slot l.i l.n l.numbers
