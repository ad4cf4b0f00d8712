-- What is known of a run before its slot, from the pass that worked the slot before: whether steps 1 to 3 can be left out (bridge, Quiet).
-- Told to the check of a log, most of whose slots are of this kind.
use Rattle.std.specs.Prelude.{◌≡◌, Bool, true, ℕ}
use Rattle.rules.specs.Slot.{jobs_now}
use Rattle.rules.specs.declared.Run.{Run}
use Rattle.bridge.specs.Quiet.{Calm}

-- before the slot at t: how many jobs the run has, and whether it is surely calm
pub record Ahead (policy t : ℕ) (r : Run) (n : ℕ) (calm : Bool) : Type 0 where
  pub jobs : n ≡ jobs_now r
  pub stays : calm ≡ true → Calm policy t r
