-- Demand 3, proved of the definitions of rules: what document 01's steps promise of every accepted case and of every job whose deadline is
-- not after the end. The statements are about the slots and records of the replay itself; parts 1 and 2 stand first for any course.
use Rattle.std.specs.Prelude.{◌≡◌, refl, Bool, true, ℕ, ◌+◌, ◌≤◌, ◌<◌, leb}
use Rattle.std.proofs.Common.{ap, sym, ◌∙◌, true≢false, inl, inr, arith}
use Rattle.rules.specs.declared.Job.{Job}
use Rattle.rules.specs.declared.Job.TheVariants.{Idle, Normal}
use Rattle.rules.specs.Words.{count_in}
use Rattle.rules.specs.Case.{Case, under, deadline, release_count, time_of}
use Rattle.rules.specs.Counts.{count}
use Rattle.rules.specs.Refusals.{Accepted}
use Rattle.rules.specs.Policies.{edf, edf_cf, demoting}
use Rattle.rules.specs.Slot.{job_at, is_present, is_demoted, free_count_in}
use Rattle.rules.specs.Replay.{setup_in, state_at, contention_free_at, finish_by, demotion_by, verdict_by, verdict_of, record_by}
use Rattle.lists.specs.Tests.{never_false}
use Rattle.lists.specs.Sums.{count_cong}
use Rattle.bridge.specs.Jobs.{Stand}
use Rattle.bridge.specs.Course.{Course, contention_free_in, finished_in, finish_in, demotion_in}
use Rattle.bridge.specs.Stands.{replay_of}
use Rattle.legal.specs.Legal.{Legal, legal}
use Rattle.bridge.specs.Records.{task_at, sole}
use Rattle.theory.specs.Counting.{first_in_lem}
use Rattle.theory.specs.Lawful.{Lawful, Attends, replay_free, replay_attends}
use Rattle.theory.specs.Enough.{enough, never_over}
use Rattle.theory.specs.Story.{story, Attended, story_finishes}
use Rattle.theory.specs.Demoted.{Alone, demoted_finishes}
use Rattle.theory.specs.Dominance.{Dom, dominated}
use Rattle.theory.specs.Accept.{alone, lawful, accepted_under, finish_same, demotion_same, stand_due, none_demoted_due}
use Rattle.theory.specs.Verdicts.{met_by_finish, finish_of_met}

-- ---- one job

-- 2 for one job with any free count. A job is released at a with execution C ≥ 1 and free count F, and its slots go by steps 3 to 6 of a
-- policy that demotes. If F is at most the number of contention-free slots among its first D, and it is worked in each of these that
-- finds it there, then, once demoted, it is finished after D slots. How F comes about is not asked, nor what the other jobs do.
pub any_count_finishes : (calm works : ℕ → Bool) (a C F due D : ℕ)
    → 1 ≤ C
    → Attended calm works a (Normal C F due) D
    → F ≤ count_in calm a D
    → (n : ℕ) → n ≤ D → is_demoted (story calm works a (Normal C F due) n) ≡ true
    → story calm works a (Normal C F due) D ≡ Idle
any_count_finishes calm works a C F due D some att enough n h dem = story_finishes calm works a C F due D some att enough n h dem

-- ---- any course: slots in which any sets are worked

-- 1 for a course. In any window of l slots, at least the count for l of them are contention-free. Nothing is asked of the scheduler.
pub course_free_slots : (k : Course) → Lawful k
    → (a l : ℕ) → count k.setup.procs k.setup.table l ≤ count_in (contention_free_in k) a l
course_free_slots k g a l = enough k g a l

-- 2 for a course. A job of the task at i is released at a, and nothing more of the task before that job's deadline. If its free count is
-- at most the number of contention-free slots from release to deadline, and every job that is there in a contention-free slot is worked
-- in it, then the job, once demoted, finishes by its deadline. What the other tasks release is not asked.
pub course_demoted_finishes : (k : Course) (e i a : ℕ)
    → Alone k i a
    → demoting k.setup.policy ≡ true
    → Attends k e
    → a + deadline k.setup.table i ≤ e
    → free_count_in k.setup i ≤ count_in (contention_free_in k) a (deadline k.setup.table i)
    → 0 < demotion_in k i a
    → (a < finish_in k i a) × (finish_in k i a ≤ a + deadline k.setup.table i)
unfolding finish_in
course_demoted_finishes k e i a s cf att come enough d =
    first_in_lem (λ t. finished_in k t i) a (deadline k.setup.table i) (demoted_finishes k i a s cf e att come enough d)

-- 2 for a course with lawful releases: by part 1 document 01's count is never too high
pub course_demoted_meets : (k : Course) (e i a : ℕ)
    → Lawful k
    → demoting k.setup.policy ≡ true
    → Attends k e
    → k.released a i ≡ true
    → a + deadline k.setup.table i ≤ e
    → 0 < demotion_in k i a
    → (a < finish_in k i a) × (finish_in k i a ≤ a + deadline k.setup.table i)
course_demoted_meets k e i a g cf att r come d = course_demoted_finishes k e i a (alone k g i a r) cf att come (never_over k g i a) d

-- ---- the replay

-- the deadline of release j
abbrev pub due_at : Case → ℕ → ℕ
due_at c j = time_of c.trace j + deadline c.table (task_at c j)

-- j is a release whose deadline is not after the end
abbrev pub Judged : Case → ℕ → Type 0
Judged c j = (j < release_count c.trace) × (due_at c j ≤ c.end)

-- 1. Of an accepted case, under its policy, whichever that is: of the slots from a job's release to its deadline, at least the free count
-- that the policy gives it are contention-free.
pub free_slots : (c : Case) → Accepted c → (j : ℕ) → Judged c j
    → free_count_in (setup_in c) (task_at c j) ≤ count_in (contention_free_at c) (time_of c.trace j) (deadline c.table (task_at c j))
free_slots c ok j h =
    let a = time_of c.trace j in
    let D = deadline c.table (task_at c j) in
    omega (
      arith,
      never_over (replay_of c) (lawful c (legal c ok)) (task_at c j) a,
      count_cong (contention_free_in (replay_of c)) (contention_free_at c) a D (λ t x y. replay_free c t),
    )

-- 2. Of an accepted case under a policy that demotes, whatever the other tasks release: a job whose record says that it was demoted has a
-- record that says met, with a finish after its release and not after its deadline.
pub demoted_meets : (c : Case) → Accepted c → demoting c.policy ≡ true
    → (j : ℕ) → Judged c j → 0 < (record_by c c.end j).demotion
    → ((record_by c c.end j).verdict ≡ 1) × (time_of c.trace j < (record_by c c.end j).finish)
    × ((record_by c c.end j).finish ≤ due_at c j)
unfolding record_by verdict_by
demoted_meets c ok cf j h d =
    let i = task_at c j in
    let a = time_of c.trace j in
    let g = legal c ok in
    let f = finish_same c i a c.end h.1 in
    let p : 0 < demotion_in (replay_of c) i a = omega (arith, demotion_same c i a c.end h.1) in
    let r = course_demoted_meets (replay_of c) c.end i a (lawful c g) cf (replay_attends c c.end)
    (sole c g j h.0).released h.1 p in
    let some : 0 < finish_by c i a c.end = omega (arith, f, r.0) in
    (met_by_finish _ _ some, omega (arith, f, r.0), omega (arith, f, r.1))

-- 3. Of an accepted case under a policy that demotes: a job whose record under EDF says met has a record that says met.
pub edf_met_stays_met : (c : Case) → Accepted c → demoting c.policy ≡ true
    → (j : ℕ) → Judged c j → (record_by (under edf c) c.end j).verdict ≡ 1
    → (record_by c c.end j).verdict ≡ 1
unfolding record_by verdict_by
edf_met_stays_met c ok cf j h e = go (stand_due E e_legal j h.0 c.end h.1) (stand_due c c_legal j h.0 c.end h.1)
  where
    E : Case
    E = under edf c

    e_legal : Legal (under edf c)
    e_legal = legal (under edf c) (accepted_under c ok edf (omega arith))

    c_legal : Legal c
    c_legal = legal c ok

    i : ℕ
    i = task_at c j

    a : ℕ
    a = time_of c.trace j

    due : ℕ
    due = a + deadline c.table i

    -- what is idle under EDF and there under the policy is demoted
    only_demoted : (x y : Job) → Dom x y → x ≡ Idle → is_present y ≡ true → is_demoted y ≡ true
    only_demoted x y d z p = never_false (is_demoted y) (λ q. true≢false (sym (d p q).there ∙ ap is_present z))

    go : Stand (finish_by E i a c.end) (demotion_by E i a c.end) due (job_at (state_at E due) i)
        → Stand (finish_by c i a c.end) (demotion_by c i a c.end) due (job_at (state_at c due) i)
        → verdict_of (finish_by c i a c.end) (leb due c.end) ≡ 1
    go (inl (z, v)) y =
        let some : 0 < finish_by E i a c.end = finish_of_met _ _ e in
        absurd (omega arith)
    go (inr (p, z)) (inr (q, y)) = met_by_finish _ _ q
    go (inr (p, z)) (inl (y, v)) =
        absurd (none_demoted_due c c_legal j h.0 c.end h.1 cf
        (only_demoted (job_at (state_at E due) i) (job_at (state_at c due) i)
        (dominated c cf due i (sole c c_legal j h.0).task) z v.there))

-- 3 of document 01's two policies, whatever the case's own: met under EDF is met under EDF-CF
pub edf_met_stays_met_cf : (c : Case) → Accepted c
    → (j : ℕ) → Judged c j → (record_by (under edf c) c.end j).verdict ≡ 1
    → (record_by (under edf_cf c) c.end j).verdict ≡ 1
edf_met_stays_met_cf c ok j h e = edf_met_stays_met (under edf_cf c) (accepted_under c ok edf_cf (omega arith)) refl j h e
