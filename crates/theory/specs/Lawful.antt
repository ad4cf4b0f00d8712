-- What the theorems ask of a course: that its releases are lawful, and that it attends to contention-free slots. The replay does both.
use Rattle.std.specs.Prelude.{◌≡◌, true, ◌&&◌, ◌||◌, ℕ, ◌+◌, ◌≤◌, ◌<◌}
use Rattle.std.proofs.Math.Path.{ap, sym}
use Rattle.std.proofs.Common.{◌∙◌, arith, leb-true}
use Rattle.rules.specs.Words.{count_in}
use Rattle.rules.specs.Limits.{max_tasks}
use Rattle.rules.specs.Case.{Case, task_count, period, execution, deadline}
use Rattle.rules.specs.Policies.{demoting}
use Rattle.rules.specs.Slot.{is_present, is_demoted, present, is_demoted_now, readied, contention_free, jobs_now, ran}
use Rattle.rules.specs.Replay.{setup_in, ran_at, contention_free_at}
use Rattle.lists.specs.Sums.{count_cong}
use Rattle.bridge.specs.Steps.{readied_full, readied_at, demoted_at_lem, demoted_job}
use Rattle.bridge.specs.Jobs.{Kept, kept-demoted, kept-opened}
use Rattle.bridge.specs.Course.{Course, state_in, opened_in, counted_in, contention_free_in, found_in, open_in, course_full, open_in_lem}
use Rattle.bridge.specs.Stands.{replay_of, replay_state}
use Rattle.legal.specs.Legal.{Good}
use Rattle.theory.specs.Order.{chosen_all}

-- before time e, every job that is there in a contention-free slot is worked in it: all that parts 1 and 2 ask of a scheduler
abbrev pub Attends : Course → ℕ → Type 0
Attends k e = (t i : ℕ) → t < e → i < max_tasks → contention_free_in k t ≡ true → present (opened_in k t) i ≡ true
    → k.works t i ≡ true

-- the releases are of tasks of a good table, and those of one task are at least T apart
pub record Lawful (k : Course) : Type 0 where
  pub tasks_few : task_count k.setup.table ≤ max_tasks
  pub good : (i : ℕ) → i < task_count k.setup.table
      → Good (period k.setup.table i) (execution k.setup.table i) (deadline k.setup.table i)
  pub named : (t i : ℕ) → k.released t i ≡ true → i < task_count k.setup.table
  pub separate : (i u v : ℕ) → k.released u i ≡ true → k.released v i ≡ true → u < v → u + period k.setup.table i ≤ v

-- ---- the jobs of a slot
module _ (k : Course) where
  module _ (t i : ℕ) (l : i < max_tasks) where
    pub kept_in : Kept (found_in k t i) (open_in k t i)
        (is_demoted (found_in k t i) || (demoting k.setup.policy && is_demoted_now (found_in k t i)))
    kept_in = kept-opened (demoting k.setup.policy) (demoting k.setup.policy && contention_free_in k t) (found_in k t i)

    pub present_in : present (opened_in k t) i ≡ is_present (found_in k t i)
    unfolding present
    present_in = ap is_present (open_in_lem k t i l) ∙ kept_in.there

    pub counted_in_lem : present (counted_in k t) i ≡ is_present (found_in k t i)
    unfolding present
    counted_in_lem =
        ap is_present (demoted_at_lem i l k.setup (readied k.setup t (k.released t) (state_in k t))
        (readied_full _ _ _ _ (course_full k t)) ∙
        ap (demoted_job (demoting k.setup.policy)) (readied_at i l k.setup t (k.released t) (state_in k t) (course_full k t))) ∙
        (kept-demoted (demoting k.setup.policy) (found_in k t i)).there

  -- steps 3 and 4 change no job's presence: N is the number of jobs that steps 1 and 2 leave, and of those that step 5 sees
  pub jobs_found : (t : ℕ) → jobs_now (counted_in k t) ≡ count_in (λ i. is_present (found_in k t i)) 0 max_tasks
  unfolding jobs_now
  jobs_found t = count_cong _ _ 0 max_tasks (λ i x y. counted_in_lem t i (omega arith))

  pub jobs_opened : (t : ℕ) → jobs_now (opened_in k t) ≡ jobs_now (counted_in k t)
  unfolding jobs_now
  jobs_opened t = count_cong _ _ 0 max_tasks (λ i x y. present_in t i (omega arith) ∙ sym (counted_in_lem t i (omega arith)))

-- ---- the replay
pub replay_free : (c : Case) (t : ℕ) → contention_free_in (replay_of c) t ≡ contention_free_at c t
unfolding contention_free_in contention_free_at
replay_free c t = rw (replay_state c t)

-- the replay attends to every contention-free slot
pub replay_attends : (c : Case) (e : ℕ) → Attends (replay_of c) e
unfolding contention_free_in contention_free ran_at ran
replay_attends c e t i h l f p =
    let counted : jobs_now (counted_in (replay_of c) t) ≤ c.procs = leb-true _ _ f in
    let few : jobs_now (opened_in (replay_of c) t) ≤ c.procs = omega (arith, jobs_opened (replay_of c) t) in
    rw (replay_state c t) at (chosen_all (setup_in c) t (opened_in (replay_of c) t) i l few p)
