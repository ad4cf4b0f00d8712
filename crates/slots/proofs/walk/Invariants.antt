-- `slots::walk` meets its contract: each slot goes on from the one before it, and a slot that rests is passed over.
use Rattle.slots.proofs.Going.{Going}
use Rattle.slots.proofs.walk.Given as goal

abbrev pub invariant-loop-clock : goal.invariant-loop-clock
invariant-loop-clock l =
    Going l.accepted l.until l.noting l.initial.out l.clock l.run l.place l.next l.jobs l.ran l.out
