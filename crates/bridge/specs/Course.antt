-- A course: slots in which some set of tasks is worked, chosen by anyone; and how the job of a release stands from slot to slot of one.
-- The replay is the course whose sets are those of step 5; a log of another scheduler is one too. Document 01's steps 1 to 4 are taken
-- as they are, so the states are not a second model.
use Rattle.std.specs.Prelude.{◌≡◌, Bool, true, false, ◌&&◌, eqb}
use Rattle.std.proofs.Math.Path.{refl}
use Rattle.std.proofs.Common.{ap, ◌∙◌, inl, inr, add-zero, add-suc, arith, ne_eqb}
use Prim.Native.Nat.{ℕ, zero, suc, ◌+◌, ◌<◌}
use Rattle.rules.specs.declared.Job.{Job}
use Rattle.rules.specs.declared.Job.TheVariants.{Idle}
use Rattle.rules.specs.declared.Task.{Task}
use Rattle.rules.specs.declared.Run.{Run}
use Rattle.rules.specs.Words.{pick, first_in}
use Rattle.rules.specs.Limits.{max_tasks}
use Rattle.rules.specs.Case.{deadline}
use Rattle.rules.specs.Policies.{demoting}
use Rattle.rules.specs.Slot.{Setup, TaskSet, no_task, job_at, is_present, due_of, present, is_demoted_now, readied, demoted}
use Rattle.rules.specs.Slot.{contention_free}
use Rattle.rules.specs.Slot.{opened, worked, worked_job, demoted_now, is_last}
use Rattle.rules.specs.Replay.{fresh, idle_task}
use Rattle.lists.specs.Lists.{tab_at, tab_long}
use Rattle.bridge.specs.Steps.{Full, opened_full, worked_full, readied_at, opened_at_lem, worked_at_lem, readied_job, judged_job}
use Rattle.bridge.specs.Steps.{opened_job}
use Rattle.bridge.specs.Jobs.{Stand, slot_stand, work_absent}

-- what stays the same, the set released at each time, and the set worked in each slot
pub record Course : Type 0 where
  pub setup : Setup
  pub released : ℕ → TaskSet
  pub works : ℕ → TaskSet

-- the state at time t, before step 1 of t: every task idle at 0, and then slot by slot steps 1 to 4 and the work of the set
unfoldable pub state_in : Course → ℕ → Run
state_in k zero = fresh
state_in k (suc t) = worked (k.works t) (opened k.setup t (k.released t) (state_in k t))

-- the state that steps 1 to 4 of t make
abbrev pub opened_in : Course → ℕ → Run
opened_in k t = opened k.setup t (k.released t) (state_in k t)

-- the jobs that step 4 of t counts
abbrev pub counted_in : Course → ℕ → Run
counted_in k t = demoted k.setup (readied k.setup t (k.released t) (state_in k t))

-- whether the slot at t is contention-free
unfoldable pub contention_free_in : Course → ℕ → Bool
contention_free_in k t = contention_free k.setup (counted_in k t)

-- the tasks that step 3 of t demotes
unfoldable pub demoted_in : Course → ℕ → TaskSet
demoted_in k t = demoted_now k.setup t (k.released t) (state_in k t)

-- the tasks whose job has its last unit worked in the slot at t
unfoldable pub finished_in : Course → ℕ → TaskSet
finished_in k t i = present (opened_in k t) i && k.works t i && is_last (job_at (opened_in k t) i)

-- the job of the task at i released at a: one more than the first slot before its deadline in which it finishes; 0 where none
unfoldable pub finish_in : Course → ℕ → ℕ → ℕ
finish_in k i a = first_in (λ t. finished_in k t i) a (deadline k.setup.table i)

-- and one more than the first in which it is demoted; 0 where none
unfoldable pub demotion_in : Course → ℕ → ℕ → ℕ
demotion_in k i a = first_in (λ t. demoted_in k t i) a (deadline k.setup.table i)

-- ---- one job of a course, slot by slot
-- what steps 1 and 2 of t leave of the task at i
abbrev pub found_in : Course → ℕ → ℕ → Job
found_in k t i = readied_job k.setup t (k.released t) (state_in k t) i

-- what steps 3 and 4 make of it
abbrev pub open_in : Course → ℕ → ℕ → Job
open_in k t i = opened_job (demoting k.setup.policy) (demoting k.setup.policy && contention_free_in k t) (found_in k t i)

-- before the first slot every task is idle
pub fresh_idle : (i : ℕ) → i < max_tasks → job_at fresh i ≡ Idle
fresh_idle i l = ap (λ (t : Task). t.job) (tab_at idle_task max_tasks i no_task l)

module _ (k : Course) where
  pub course_full : (t : ℕ) → Full (state_in k t)
  unfolding state_in
  course_full zero = tab_long _ 0 max_tasks
  course_full (suc t) = worked_full _ _ (opened_full _ _ _ _ (course_full t))

  pub course_first : (i : ℕ) → i < max_tasks → job_at (state_in k 0) i ≡ Idle
  unfolding state_in
  course_first i l = fresh_idle i l

  module _ (t i : ℕ) (l : i < max_tasks) where
    pub open_in_lem : job_at (opened_in k t) i ≡ open_in k t i
    unfolding contention_free_in
    open_in_lem = opened_at_lem i l k.setup t (k.released t) (state_in k t) (course_full t)

    pub next_in : job_at (state_in k (suc t)) i ≡ pick (k.works t i) (worked_job (open_in k t i)) (open_in k t i)
    unfolding state_in
    next_in =
        worked_at_lem i l (k.works t) (opened_in k t) (opened_full k.setup t (k.released t) (state_in k t) (course_full t)) ∙ rw open_in_lem

    pub demoted_in_lem : demoted_in k t i ≡ (demoting k.setup.policy && is_demoted_now (found_in k t i))
    unfolding demoted_in demoted_now
    demoted_in_lem = rw (readied_at i l k.setup t (k.released t) (state_in k t) (course_full t))

    pub finished_in_lem : finished_in k t i ≡ (is_present (open_in k t i) && k.works t i && is_last (open_in k t i))
    unfolding finished_in present
    finished_in_lem = rw open_in_lem

-- ---- a release of the task at i at time a that is the only one of the task until that job's deadline
pub record Sole (k : Course) (i a : ℕ) : Type 0 where
  pub task : i < max_tasks
  pub released : k.released a i ≡ true
  pub alone : (u : ℕ) → a < u → u < a + deadline k.setup.table i → k.released u i ≡ false

-- step 1 leaves a job whose deadline is ahead
not-due : (f d due t : ℕ) (j : Job) → t < due → Stand f d due j → judged_job t j ≡ j
not-due f d due t j h (inl (e, v)) =
    let n : eqb (due_of j) t ≡ false = ne_eqb (due_of j) t (λ q. omega (arith, v.its)) in
    rw (v.there, n)
not-due f d due t j h (inr (p, e)) = rw e

module _ (k : Course) (i a : ℕ) (s : Sole k i a) where
  abbrev D : ℕ
  D = deadline k.setup.table i

  -- the finish and the demotion in the first n slots from the release
  abbrev fin : ℕ → ℕ
  fin n = first_in (λ t. finished_in k t i) a n

  abbrev dem : ℕ → ℕ
  dem n = first_in (λ t. demoted_in k t i) a n

  stand_next : (n : ℕ) → Stand (fin n) (dem n) (a + D) (found_in k (a + n) i)
      → Stand (fin (suc n)) (dem (suc n)) (a + D) (job_at (state_in k (suc (a + n))) i)
  unfolding first_in
  stand_next n h =
      let t = a + n in
      let l = s.task in
      let o = open_in k t i in
      rw (finished_in_lem k t i l, demoted_in_lem k t i l, next_in k t i l ∙ work_absent o (k.works t i))
      (slot_stand (demoting k.setup.policy) (demoting k.setup.policy && contention_free_in k t)
      (is_present o && k.works t i) (fin n) (dem n) (a + D) t (found_in k t i) (λ e. rw e) h)

  -- between release and deadline a slot finds what the slot before it left
  found_after : (n : ℕ) → suc n < D
      → Stand (fin (suc n)) (dem (suc n)) (a + D) (job_at (state_in k (suc (a + n))) i)
      → found_in k (suc (a + n)) i ≡ job_at (state_in k (suc (a + n))) i
  found_after n h v = rw (s.alone (suc (a + n)) (omega arith) (omega arith)) (not-due _ _ (a + D) (suc (a + n)) _ (omega arith) v)

  -- how the job stands after steps 1 and 2 of each of its slots
  pub found_stands : (n : ℕ) → n < deadline k.setup.table i
      → Stand (first_in (λ t. finished_in k t i) a n) (first_in (λ t. demoted_in k t i) a n)
      (a + deadline k.setup.table i) (found_in k (a + n) i)
  unfolding first_in
  found_stands zero h = rw (add-zero a, s.released) (inl (refl, record { there = refl; its = refl; demoted = refl }))
  found_stands (suc n) h =
      let v = stand_next n (found_stands n (omega arith)) in
      rw (add-suc a n, found_after n h v) v

  -- and before step 1 of each time after its release, its deadline included
  pub left_stands : (n : ℕ) → n < deadline k.setup.table i
      → Stand (first_in (λ t. finished_in k t i) a (suc n)) (first_in (λ t. demoted_in k t i) a (suc n))
      (a + deadline k.setup.table i) (job_at (state_in k (suc (a + n))) i)
  left_stands n h = stand_next n (found_stands n h)

  pub found_next : (n : ℕ) → suc n < deadline k.setup.table i → found_in k (suc (a + n)) i ≡ job_at (state_in k (suc (a + n))) i
  found_next n h = found_after n h (left_stands n (omega arith))
