-- Step 4 lowers free counts and nothing else: it keeps what the order of step 5 and the last unit look at. So a set may be chosen, or a
-- named one judged, before the free counts are lowered or after.
use Rattle.std.specs.Prelude.{◌≡◌, refl, Bool, true, false, ◌&&◌, ℕ, ◌<◌, length}
use Rattle.std.proofs.Common.{ap, sym, ◌∙◌, arith}
use Rattle.rules.specs.Words.{pick}
use Rattle.rules.specs.Limits.{max_tasks}
use Rattle.rules.specs.Policies.{demoting}
use Rattle.rules.specs.Slot.{Setup, no_task, run_of, with_job, job_at, is_present, left_of, due_of, kind, each_task, contention_free}
use Rattle.rules.specs.Slot.{lowered_task, lowered}
use Rattle.rules.specs.declared.Job.{Job}
use Rattle.rules.specs.declared.Job.TheVariants.{Idle, Normal, Demoted}
use Rattle.rules.specs.declared.Task.{Task}
use Rattle.rules.specs.declared.Run.{Run}
use Rattle.lists.specs.Lists.{map_at_at}
use Rattle.lists.specs.Fuse.{keep_all}
use Rattle.jobs.specs.Tasks.{lowered_if}

pub record Alike (policy now : ℕ) (j k : Job) : Type 0 where
  pub there : is_present k ≡ is_present j
  pub sort : kind policy now k ≡ kind policy now j
  pub due : due_of k ≡ due_of j
  pub left : left_of k ≡ left_of j

alike : (policy now : ℕ) (lowers : Bool) (j : Job) → Alike policy now j (lowered_if lowers j)
alike policy now false j = record { there = refl; sort = refl; due = refl; left = refl }
alike policy now true Idle = record { there = refl; sort = refl; due = refl; left = refl }
alike policy now true (Normal l f d) = record { there = refl; sort = refl; due = refl; left = refl }
alike policy now true (Demoted l d) = record { there = refl; sort = refl; due = refl; left = refl }

abbrev pub lowers_task : Bool → Task → Task
lowers_task lowers t = with_job t (lowered_if lowers t.job)

-- whether step 4 lowers the free counts
abbrev pub lowers_in : Setup → Run → Bool
lowers_in g d = demoting g.policy && contention_free g d

module _ (g : Setup) (d : Run) where
  lower : (b : Bool) → pick b (each_task (λ i t. lowered_task t) d) d ≡ each_task (λ i t. lowers_task b t) d
  lower true = refl
  lower false = sym (ap run_of (keep_all d.tasks))

  pub lowered_each : lowered g d ≡ each_task (λ i t. lowers_task (lowers_in g d) t) d
  unfolding lowered
  lowered_each = lower (lowers_in g d)

  module _ (full : length d.tasks ≡ max_tasks) (i : ℕ) (l : i < max_tasks) where
    pub lowered_at : job_at (lowered g d) i ≡ lowered_if (lowers_in g d) (job_at d i)
    lowered_at =
        ap (λ (x : Run). job_at x i) lowered_each ∙ ap (λ (t : Task). t.job)
        (map_at_at (λ i t. lowers_task (lowers_in g d) t) d.tasks i no_task (omega arith))

    pub lowered_alike : (now : ℕ) → Alike g.policy now (job_at d i) (job_at (lowered g d) i)
    lowered_alike now = rw lowered_at (alike g.policy now (lowers_in g d) (job_at d i))
