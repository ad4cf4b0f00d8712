-- `ownlog::put_slots` meets its contract: each slot goes on from the one before it, and its line stands behind the others.
use Prim.Native.Nat.{◌-◌}
use Rattle.ownlog.proofs.Writing.{Writing}
use Rattle.ownlog.proofs.put_slots.Given as goal

abbrev pub invariant-loop-clock : goal.invariant-loop-clock
invariant-loop-clock l = Writing l.accepted l.initial.clock l.initial.out l.run l.next l.clock l.at l.out

abbrev pub decreases-loop-clock : goal.decreases-loop-clock
decreases-loop-clock l = l.case-inside.end - l.clock
