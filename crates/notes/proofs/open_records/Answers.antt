-- `notes::open_records` meets its contract.
use native.Mathlib.Omega.{arith}
use mathlib.Core.Path.{refl}
use Rattle.rules.specs.Words.{tab}
use Rattle.rules.specs.Replay.{numbers}
use Rattle.notes.proofs.Room.{open_next}
use Rattle.notes.proofs.open_records.Goals as goal

pub loop-j-init : goal.loop-j-init
unfolding tab numbers
loop-j-init c = refl

pub loop-j-preserved : goal.loop-j-preserved
loop-j-preserved c = rw c.loop-j.invariant (open_next _ _ (omega arith))
