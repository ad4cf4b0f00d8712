-- What is put is our own replay, and goes on by a slot at least; what is written are the lines of the slots before its clock.
use Rattle.std.proofs.Common.{◌-◌, ◌≡◌, List, ℕ, length}
use Rattle.std.specs.Io.KnownBytes.{Appends}
use Rattle.ownlog.specs.Pieces.{Plays}
use Rattle.ownlog.specs.Whole.{Told}
use Rattle.program.proofs.write_slots.Given as goal

abbrev pub invariant-loop-play : goal.invariant-loop-play
invariant-loop-play g l = record {
  long : length l.piece ≡ 65536;
  plays : Plays l.accepted l.play;
  text : List ℕ;
  told : Told l.accepted l.play.clock text;
  wrote : Appends (g.O.Write.contents l.initial.out) (g.O.Write.contents l.out) text;
}

abbrev pub decreases-loop-play : goal.decreases-loop-play
decreases-loop-play g l = l.accepted.end - l.play.clock
