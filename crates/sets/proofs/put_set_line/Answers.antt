-- `sets::put_set_line` meets its contract: it is a line of numbers, the slot first and then the tasks for which the calls answered true.
use mathlib.Core.Path.{refl}
use mathlib.Core.Bool.{false}
use native.Mathlib.Omega.{arith}
use Rattle.rules.specs.Slot.{tasks_from}
use Rattle.prints.proofs.Lines.{line_within, line_printed}
use Rattle.sets.proofs.Tasks.{gathered_in, gathered_out, gathered_few, gathered_all}
use Rattle.sets.proofs.put_set_line.Goals as goal
use Rattle.sets.proofs.put_set_line.Goals.{then-is_in, else-is_in}

pub loop-i-init : goal.loop-i-init
unfolding tasks_from
loop-i-init g c = record { members = λ j. false; told = λ j h. absurd (omega arith); few = omega arith; room = refl; front = refl }

pub loop-i-preserved : goal.loop-i-preserved
loop-i-preserved g c =
    elim c.if-is_in.branch [
      | then-is_in w ↦ rw (w.n-is, w.numbers-is) (gathered_in c.loop-i.invariant (omega arith) (rw w.if-is_in.true at c.is_in.ensures))
      | else-is_in w ↦ rw (w.n-is, w.numbers-is) (gathered_out c.loop-i.invariant (rw w.if-is_in.false at c.is_in.ensures))
    ]

pub put_line-requires : goal.put_line-requires
put_line-requires g c = line_within _ _ _ (gathered_few c.loop-i.invariant (omega arith)) c.requires.room

pub returns : goal.returns
returns g c =
    let gathered = c.loop-i.invariant in
    let printed = line_printed _ _ _ (gathered_few gathered (omega arith)) c.put_line.ensures in
    (gathered.members, λ i h. gathered.told i (omega arith), rw (gathered_all gathered (omega arith)) at printed)
