-- What is fed stands for some fed state, piece after piece.
use Rattle.std.proofs.Common.{◌≡◌, length}
use Rattle.follow.specs.Follows.{Followed}
use Rattle.program.proofs.follow_file.Given as goal

abbrev pub invariant-loop : goal.invariant-loop
invariant-loop g l = record {
  long : length l.piece ≡ 65536;
  followed : Followed l.accepted l.log;
}
