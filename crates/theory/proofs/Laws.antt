-- Laws over specs/Laws.
use Rattle.std.specs.Prelude.{◌≡◌, true, false, ℕ, ◌<◌}
use Rattle.rules.specs.Limits.{max_tasks}
use Rattle.rules.specs.Case.{Case}
use Rattle.rules.specs.Policies.{demoting}
use Rattle.rules.specs.Slot.{job_at, is_demoted, left_of, free_of, present}
use Rattle.rules.specs.Replay.{setup_in}
use Rattle.bridge.specs.Steps.{readied_full}
use Rattle.bridge.specs.Stands.{state_full}
use Rattle.theory.specs.Laws.{counted_at, above_count}

-- so in each slot of a case
pub slot_above_count : (c : Case) → demoting c.policy ≡ true → (t i : ℕ) → i < max_tasks
    → present (counted_at c t) i ≡ true → is_demoted (job_at (counted_at c t) i) ≡ false
    → free_of (job_at (counted_at c t) i) < left_of (job_at (counted_at c t) i)
slot_above_count c cf t = above_count (setup_in c) cf _ (readied_full _ _ _ _ (state_full c t))
