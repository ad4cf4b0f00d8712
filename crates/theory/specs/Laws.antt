-- Further laws of the definitions of rules, Slot and Replay (document 01, "What happens at time t, in this order"): what step 3 leaves, how
-- many run, the totals, where a finish lies, who runs before whom, what a record depends on, and what missed and open mean for the states.
use Rattle.std.specs.Prelude.{◌≡◌, true, false, ◌↔◌, List, ℕ, ◌+◌, ◌-◌, min, ◌≤◌, ◌<◌}
use Rattle.std.proofs.Common.{ap, ◌∙◌, arith}
use Rattle.rules.specs.declared.Run.{Run}
use Rattle.rules.specs.Words.{count_in}
use Rattle.rules.specs.Limits.{max_tasks}
use Rattle.rules.specs.Case.{Case, deadline, release_count, time_of, name_of}
use Rattle.rules.specs.Refusals.{Accepted}
use Rattle.rules.specs.Policies.{demoting}
use Rattle.rules.specs.Slot.{Setup, job_at, is_demoted, left_of, free_of, due_of, present, readied, demoted, jobs_now, opened, ran}
use Rattle.rules.specs.Replay.{setup_in, released_at, state_at, closing, ran_at, finished_at, missed_at, slots_by, finish_by, verdict_by}
use Rattle.rules.specs.Replay.{record_by}
use Rattle.rules.specs.Replay.{met_jobs, missed_jobs, open_jobs}
use Rattle.bridge.specs.Steps.{Full, demoted_at_lem}
use Rattle.bridge.specs.Jobs.{normal_above}
use Rattle.bridge.specs.Stands.{replay_of, replay_state}
use Rattle.legal.specs.Legal.{legal}
use Rattle.bridge.specs.Records.{task_at}
use Rattle.theory.specs.Counting.{first_in_lem}
use Rattle.theory.specs.Order.{chosen_exactly, demoted_last}
use Rattle.theory.specs.Lawful.{jobs_opened}
use Rattle.theory.specs.Verdicts.{met_by_finish, finish_of_met, all_marked, marked-count}
use Rattle.theory.specs.Past.{retraced, job_same}
use Rattle.theory.specs.Endings.{missed_removed, removed_missed, open_left, left_open, removed_release, left_release, open_count}
use Rattle.theory.specs.Demand3.{due_at}

-- the jobs of the slot at t that step 4 counts, and those that step 5 sees
abbrev pub counted_at : Case → ℕ → Run
counted_at c t = demoted (setup_in c) (readied (setup_in c) t (released_at c t) (state_at c t))

abbrev pub opened_at : Case → ℕ → Run
opened_at c t = opened (setup_in c) t (released_at c t) (state_at c t)

-- ---- step 3
-- from any state of 32 tasks, under a policy that demotes: every normal job that step 3 leaves has more left than its free count
pub above_count : (g : Setup) → demoting g.policy ≡ true → (r : Run) → Full r → (i : ℕ) → i < max_tasks
    → present (demoted g r) i ≡ true → is_demoted (job_at (demoted g r) i) ≡ false
    → free_of (job_at (demoted g r) i) < left_of (job_at (demoted g r) i)
unfolding present
above_count g cf r full i l = rw (demoted_at_lem i l g r full, cf) (normal_above (job_at r i))

-- ---- how many run
-- in each slot exactly min(m, N) tasks run
pub exactly_run : (c : Case) (t : ℕ) → count_in (ran_at c t) 0 max_tasks ≡ min c.procs (jobs_now (counted_at c t))
unfolding ran_at ran
exactly_run c t =
    let n : jobs_now (opened_at c t) ≡ jobs_now (counted_at c t) = rw (replay_state c t) at (jobs_opened (replay_of c) t) in
    chosen_exactly (setup_in c) t (opened_at c t) ∙ ap (min c.procs) n

-- so at most m do
pub at_most_run : (c : Case) (t : ℕ) → count_in (ran_at c t) 0 max_tasks ≤ c.procs
at_most_run c t = omega (arith, exactly_run c t)

-- where a demoted job runs, every normal job that is there runs too
pub normal_first : (c : Case) (t i j : ℕ) → j < max_tasks
    → ran_at c t i ≡ true → is_demoted (job_at (opened_at c t) i) ≡ true
    → present (opened_at c t) j ≡ true → is_demoted (job_at (opened_at c t) j) ≡ false
    → ran_at c t j ≡ true
unfolding ran_at ran
normal_first c t i j l e dem there norm = demoted_last (setup_in c) t (opened_at c t) j i l e dem there norm

-- ---- totals
-- every release is met, missed or open
pub totals : (c : Case) → met_jobs c + missed_jobs c + open_jobs c ≡ release_count c.trace
totals c = all_marked c c.end 0 (release_count c.trace)

-- ---- finishes
-- a finish lies after the release, and not after the deadline or the end
pub finish_lies : (c : Case) (j : ℕ) → 0 < (record_by c c.end j).finish
    → (time_of c.trace j < (record_by c c.end j).finish) × ((record_by c c.end j).finish ≤ due_at c j)
    × ((record_by c c.end j).finish ≤ c.end)
unfolding record_by finish_by slots_by
finish_lies c j h =
    let r = first_in_lem (λ t. finished_at c t (task_at c j)) (time_of c.trace j)
    (min (deadline c.table (task_at c j)) (c.end - time_of c.trace j)) h in
    (r.0, omega (arith, r.1), omega (arith, r.0, r.1))

-- met is: finished
pub met_is_finished : (c : Case) (j : ℕ) → ((record_by c c.end j).verdict ≡ 1) ↔ (0 < (record_by c c.end j).finish)
unfolding record_by verdict_by
met_is_finished c j = (finish_of_met _ _, met_by_finish _ _)

-- ---- what a record depends on
-- a job's record does not depend on what is released at or after its deadline: two traces with the same sets released before it, the job
-- among them, give it the same record at the end
pub later_releases : (c : Case) (rs : List ℕ) (j k : ℕ)
    → time_of rs k ≡ time_of c.trace j → name_of rs k ≡ name_of c.trace j
    → ((t i : ℕ) → t < due_at c j → released_at c t i ≡ released_at (retraced rs c) t i)
    → record_by (retraced rs c) c.end k ≡ record_by c c.end j
unfolding record_by
later_releases c rs j k time name same =
    rw (time, name) (job_same c rs (due_at c j) same (task_at c j) (time_of c.trace j) c.end (omega arith))

-- ---- missed and open, by the states
-- missed is: removed by step 1 at a deadline that is not after the end
pub missed_is_removed : (c : Case) → Accepted c → (j : ℕ) → j < release_count c.trace
    → ((record_by c c.end j).verdict ≡ 2) ↔ ((due_at c j ≤ c.end) × (missed_at c (due_at c j) (task_at c j) ≡ true))
unfolding record_by verdict_by
missed_is_removed c ok j h = (missed_removed c (legal c ok) j h, λ e. removed_missed c (legal c ok) j h e.0 e.1)

-- and whatever step 1 removes up to the end is the job of such a release
pub removed_is_missed : (c : Case) → Accepted c → (t i : ℕ) → t ≤ c.end → i < max_tasks → missed_at c t i ≡ true
    → (j : ℕ) × ((j < release_count c.trace) × (task_at c j ≡ i) × (due_at c j ≡ t) × ((record_by c c.end j).verdict ≡ 2))
removed_is_missed c ok t i come l e =
    let r = removed_release c (legal c ok) i l t e in
    let d : due_at c r.0 ≡ t = rw r.1.1 r.1.2 in
    (r.0, (r.1.0, r.1.1, d, (missed_is_removed c ok r.0 r.1.0).1 (omega (arith, d), rw (d, r.1.1) e)))

-- open is: there, with its deadline, when step 1 of the end is done
pub open_is_left : (c : Case) → Accepted c → (j : ℕ) → j < release_count c.trace
    → ((record_by c c.end j).verdict ≡ 3)
    ↔ ((present (closing c) (task_at c j) ≡ true) × (due_of (job_at (closing c) (task_at c j)) ≡ due_at c j))
unfolding record_by verdict_by present
open_is_left c ok j h = (open_left c (legal c ok) j h, λ e. left_open c (legal c ok) j h e.0 e.1)

-- and whatever is there then is the job of such a release
pub left_is_open : (c : Case) → Accepted c → (i : ℕ) → i < max_tasks → present (closing c) i ≡ true
    → (j : ℕ) × ((j < release_count c.trace) × (task_at c j ≡ i) × ((record_by c c.end j).verdict ≡ 3))
unfolding present
left_is_open c ok i l e =
    let r = left_release c (legal c ok) i l e in
    (r.0, (r.1.0, r.1.1, (open_is_left c ok r.0 r.1.0).1 (rw r.1.1 e, rw r.1.1 r.1.2)))

-- so the open total is the number of jobs then left
pub open_total : (c : Case) → Accepted c → open_jobs c ≡ jobs_now (closing c)
open_total c ok = marked-count c c.end 3 0 (release_count c.trace) ∙ open_count c (legal c ok)
