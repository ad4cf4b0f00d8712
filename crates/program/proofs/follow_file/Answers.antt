-- A piece takes the state that stands for what is fed to the one that stands for it with the piece.
use Rattle.std.proofs.Common.{refl}
use Rattle.program.proofs.follow_file.Goals as goal

pub loop-init : goal.loop-init
loop-init g c = record { long = refl; followed = record { fed = _; follows = c.open_log-log.ensures _ } }

pub returns-then-log-ne0 : goal.returns-then-log-ne0
returns-then-log-ne0 g c = record { fed = _; follows = c.feed-log.ensures _ c.loop.invariant.followed.follows }

pub loop-preserved : goal.loop-preserved
loop-preserved g c = record {
  long = c.if-n-eq0.array_long;
  followed = record { fed = _; follows = c.feed-log.ensures _ c.loop.invariant.followed.follows };
}
