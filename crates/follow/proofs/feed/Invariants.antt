-- `follow::feed` meets its contract: what the state stood for before the piece it stands for, fed with what is read of it.
use Prim.Native.Nat.{◌-◌}
use lib.ListN.{length}
use Rattle.follow.specs.Follows.{log_of, Followed}
use Rattle.follow.proofs.Following.{Feeding}
use Rattle.follow.proofs.feed.Given as goal

abbrev pub invariant-loop-i : goal.invariant-loop-i
invariant-loop-i l = record {
  fed : Feeding l.accepted l.piece l.fn.log l.i (log_of l.s.run l.s.named l.scan l.lines l.next l.jobs l.calm l.number);
  some : Followed l.accepted (log_of l.s.run l.s.named l.scan l.lines l.next l.jobs l.calm l.number);
}

abbrev pub decreases-loop-i : goal.decreases-loop-i
decreases-loop-i l = length l.piece - l.i
