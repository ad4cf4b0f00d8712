-- Slots in which steps have nothing to do. A calm run, of which steps 1 and 3 would change no job: where nothing is released it is its own
-- run after step 3. A run in which no task has a job is calm, and the other steps leave it as it is too; and a slot that has no job after
-- step 3 leaves none. For whoever leaves out steps or passes over slots: the replay and the check of a log.
use Rattle.std.specs.Prelude.{◌≡◌, Bool, ◌&&◌, ◌||◌, ℕ, ◌<◌, get_or}
use Rattle.std.proofs.Math.Path.{refl}
use Rattle.std.proofs.Common.{ap, sym, ◌∙◌, arith}
use Rattle.std.proofs.Math.Bool.{true, false, and-false}
use Rattle.rules.specs.declared.Job.{Job}
use Rattle.rules.specs.declared.Job.TheVariants.{Idle}
use Rattle.rules.specs.declared.Task.{Task}
use Rattle.rules.specs.declared.Run.{Run}
use Rattle.rules.specs.Words.{pick}
use Rattle.rules.specs.Limits.{max_tasks}
use Rattle.rules.specs.Policies.{demoting}
use Rattle.rules.specs.Slot.{Setup, TaskSet, no_task, run_of, with_job, job_at, present, each_task, is_missed, judged, joined}
use Rattle.rules.specs.Slot.{is_demoted_now}
use Rattle.rules.specs.Slot.{demoted_task, demoted}
use Rattle.rules.specs.Slot.{readied, jobs_now, contention_free, lowered_task, lowered, opened, chosen, worked_task, worked, after}
use Rattle.lists.specs.Sums.{count_none, none_counted}
use Rattle.lists.specs.Tests.{or_left, or_right}
use Rattle.lists.specs.Fuse.{keep_all, same_each}
use Rattle.bridge.specs.Steps.{Full, demoted_full, readied_full}
use Rattle.bridge.specs.Jobs.{idle_now}

abbrev pub Jobless : Run → Type 0
Jobless r = (i : ℕ) → i < max_tasks → job_at r i ≡ Idle

-- ---- N of such a run
pub none_there : (r : Run) → Jobless r → (i : ℕ) → i < max_tasks → present r i ≡ false
unfolding present
none_there r idle i l = rw (idle i l)

pub no_jobs : (r : Run) → Jobless r → jobs_now r ≡ 0
unfolding jobs_now
no_jobs r idle = count_none (present r) 0 max_tasks (λ i p q. none_there r idle i (omega arith))

pub jobless : (r : Run) → jobs_now r ≡ 0 → Jobless r
unfolding jobs_now present
jobless r n i l = idle_now (job_at r i) (none_counted (present r) max_tasks i n l)

-- ---- a change that leaves each task as it is leaves the run
still : (f : ℕ → Task → Task) (r : Run) → Full r
    → ((i : ℕ) → i < max_tasks → f i (get_or r.tasks i no_task) ≡ get_or r.tasks i no_task)
    → each_task f r ≡ r
still f r full h = ap run_of (same_each f (λ i t. t) r.tasks no_task (λ i l. h i (omega arith)) ∙ keep_all r.tasks)

-- ---- a calm run
-- step 1 or step 3 of time t would change the job
abbrev pub changes : ℕ → ℕ → Job → Bool
changes policy t j = is_missed t j || (demoting policy && is_demoted_now j)

abbrev pub Calm : ℕ → ℕ → Run → Type 0
Calm policy t r = (i : ℕ) → i < max_tasks → changes policy t (job_at r i) ≡ false

pub jobless_calm : (policy t : ℕ) (r : Run) → Jobless r → Calm policy t r
jobless_calm policy t r idle i l = rw (idle i l) (and-false (demoting policy))

pub calm_settled : (g : Setup) (t : ℕ) (s : TaskSet) (r : Run) → Full r → ((i : ℕ) → i < max_tasks → s i ≡ false)
    → Calm g.policy t r → demoted g (readied g t s r) ≡ r
calm_settled g t s r full none calm = rw (judged-same, joined_same) demoted-same
  where
    judged-same : judged t r ≡ r
    judged-same = unfold judged in still _ r full (λ i l. rw (or_left (is_missed t (job_at r i)) _ (calm i l)))

    joined_same : joined g t s r ≡ r
    joined_same = unfold joined in still _ r full (λ i l. rw (none i l))

    demoted-same : demoted g r ≡ r
    demoted-same = unfold demoted in go (demoting g.policy) refl
      where
        go : (b : Bool) → demoting g.policy ≡ b → pick b (each_task (λ i t. demoted_task t) r) r ≡ r
        go true e = still _ r full (λ i l. rw (rw e at (or_right (is_missed t (job_at r i)) _ (calm i l))))
        go false e = refl

-- ---- a run without jobs
module _ (g : Setup) (r : Run) (full : Full r) (idle : Jobless r) where
  -- an idle task is its own task with no job
  same_task : (t : Task) → t.job ≡ Idle → with_job t Idle ≡ t
  same_task t e = ap (with_job t) (sym e)

  still_lowered : lowered g r ≡ r
  unfolding lowered
  still_lowered = go (demoting g.policy && contention_free g r)
    where
      go : (b : Bool) → pick b (each_task (λ i t. lowered_task t) r) r ≡ r
      go true = still _ r full (λ i l. rw (idle i l) (same_task _ (idle i l)))
      go false = refl

  still_worked : (runs : TaskSet) → worked runs r ≡ r
  unfolding worked
  still_worked runs = still _ r full (λ i l. go (runs i) (get_or r.tasks i no_task) (idle i l))
    where
      go : (b : Bool) (t : Task) → t.job ≡ Idle → pick b (worked_task t) t ≡ t
      go true t e = rw e
      go false t e = refl

  -- steps 4 to 6, whatever set is worked
  pub still_closed : (runs : TaskSet) → worked runs (lowered g r) ≡ r
  still_closed runs = rw still_lowered (still_worked runs)

  module _ (now : ℕ) (s : TaskSet) (none : (i : ℕ) → i < max_tasks → s i ≡ false) where
    pub still_opened : opened g now s r ≡ r
    unfolding opened
    still_opened = rw (calm_settled g now s r full none (jobless_calm g.policy now r idle)) still_lowered

    -- the work of any set
    pub still_slot : (runs : TaskSet) → worked runs (opened g now s r) ≡ r
    still_slot runs = rw still_opened (still_worked runs)

    pub still_after : after g now s r ≡ r
    unfolding after
    still_after = still_slot (chosen g now (opened g now s r))

-- ---- where N is 0 after step 3 the slot leaves no job
pub none_after : (g : Setup) (now : ℕ) (s : TaskSet) (r : Run) → Full r → jobs_now (demoted g (readied g now s r)) ≡ 0
    → Jobless (after g now s r)
unfolding after opened
none_after g now s r full n i l =
    let R = demoted g (readied g now s r) in
    let idle = jobless R n in
    ap (λ (x : Run). job_at x i)
    (still_closed g R (demoted_full g (readied g now s r) (readied_full g now s r full)) idle (chosen g now (lowered g R))) ∙ idle i l
