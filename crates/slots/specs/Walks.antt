-- What the walk over the slots asks and says, beside the definitions of "What happens at time t": where each task was released last, a
-- slot that rests, the set that ran last, and the records in the lent room before a time.
use Rattle.std.specs.Prelude.{◌≡◌, Bool, false, List, ◌++◌, ℕ, suc, ◌*◌, drop}
use Rattle.rules.specs.Words.{tab}
use Rattle.rules.specs.Limits.{max_tasks, record_width}
use Rattle.rules.specs.Case.{Case, release_count}
use Rattle.rules.specs.Replay.{ran_at, record_by, numbers}
use Rattle.bridge.specs.Turn.{last_place}
use Rattle.traces.specs.Traces.{due}

-- the place of each task's last release among the first k
abbrev pub places : List ℕ → ℕ → List ℕ
places rs k = tab (λ i. last_place rs k (suc i)) 0 max_tasks

-- the slot at t has nothing to do: every task is idle, and the next release is not of this time
pub record Rests (rs : List ℕ) (next jobs t : ℕ) : Type 0 where
  pub idle : jobs ≡ 0
  pub later : due rs next t ≡ false

-- the set that ran in the last slot before a time
abbrev pub LastRan : Case → ℕ → List Bool → Type 0
LastRan c until rs = (t : ℕ) → until ≡ suc t → rs ≡ tab (ran_at c t) 0 max_tasks

-- ---- the records in the lent room
-- the room with the records as they stand at t; what is past them stays
abbrev pub room_at : Case → ℕ → List ℕ → List ℕ
room_at c t xs = numbers (tab (record_by c t) 0 (release_count c.trace)) ++ drop (release_count c.trace * record_width) xs
