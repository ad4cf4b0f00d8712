-- Demand 3 is not empty: computed cases in which its promises are kept with nothing to spare, and in which none is made. One of them,
-- `demoted_later`, tells an error of document 01's "Errors that look right" that no entry of "Worked by hand" tells.
use Rattle.std.specs.Prelude.{◌≡◌, refl, false, List, [], ◌∷◌, ℕ, zero, suc, ltb}
use Rattle.std.proofs.Common.{sym, ◌∙◌, arith, lt-ltb}
use Rattle.std.proofs.lemmas.Bool.{false≢true}
use Rattle.rules.specs.Words.{sum, count_in, first_in, tab, map_from}
use Rattle.rules.specs.Case.{Case, case_of}
use Rattle.rules.specs.Policies.{edf, edf_cf}
use Rattle.rules.specs.Counts.{availability, availabilities, count, free_count}
use Rattle.rules.specs.Refusals.{or_next, first_of, procs_fault, policy_fault, table_fault, task_fault, end_fault, trace_fault, in_order}
use Rattle.rules.specs.Refusals.{last_before}
use Rattle.rules.specs.Refusals.{fault_of, release_fault, absent_fault, case_fault, Accepted}
use Rattle.rules.specs.Slot.{present, judged, joined, demoted, jobs_now, contention_free, lowered, opened, job_before, rank, chosen, worked}
use Rattle.rules.specs.Slot.{after, ran, finished, demoted_now}
use Rattle.rules.specs.Replay.{setup_in, released_in, released_at, state_from, state_at, ran_at, finished_at, demoted_at}
use Rattle.rules.specs.Replay.{contention_free_at}
use Rattle.rules.specs.Replay.{slots_by}
use Rattle.rules.specs.Replay.{finish_by, demotion_by, verdict_by, record_of, record_by}
use Rattle.bridge.specs.Course.{Course, state_in, contention_free_in, demoted_in, finished_in, finish_in, demotion_in}
use Rattle.legal.specs.Legal.{legal}
use Rattle.theory.specs.Lawful.{Lawful, Attends}
use Rattle.theory.specs.Accept.{lawful}

-- document 01's set A, m = 2: all three tasks released at 0
abbrev pub case_a : ℕ → ℕ → Case
case_a policy end = case_of 2 policy (10 ∷ 1 ∷ 4 ∷ 10 ∷ 1 ∷ 1 ∷ 10 ∷ 5 ∷ 5 ∷ []) end (0 ∷ 1 ∷ 0 ∷ 2 ∷ 0 ∷ 3
    ∷ [])

-- m = 1, tasks (4, 1, 4) and (4, 3, 3), both released at 0: task 1 has one contention-free slot, the last before its deadline
abbrev pub tight : ℕ → Case
tight policy = case_of 1 policy (4 ∷ 1 ∷ 4 ∷ 4 ∷ 3 ∷ 3 ∷ []) 4 (0 ∷ 1 ∷ 0 ∷ 2 ∷ [])

-- m = 2, tasks (10, 2, 6), (10, 2, 3) and (10, 3, 7), all released at 0: task 1 runs in slot 0, where N = m + 1
abbrev pub crowded : Case
crowded = case_of 2 edf_cf (10 ∷ 2 ∷ 6 ∷ 10 ∷ 2 ∷ 3 ∷ 10 ∷ 3 ∷ 7 ∷ []) 10 (0 ∷ 1 ∷ 0 ∷ 2 ∷ 0 ∷ 3 ∷ [])

-- set A with deadline 5 for task 1
abbrev pub later_a : ℕ → ℕ → Case
later_a policy end = case_of 2 policy (10 ∷ 1 ∷ 5 ∷ 10 ∷ 1 ∷ 1 ∷ 10 ∷ 5 ∷ 5 ∷ []) end (case_a policy end).trace

-- set A with other releases
abbrev pub released_a : List ℕ → Case
released_a trace = case_of 2 edf_cf (case_a edf_cf 10).table 10 trace

-- the lowest task without a release is the place: where one has none, where two, where all three; a release at fault comes before it
abbrev pub LowestOfA : Type 0
LowestOfA =
    (case_fault (released_a (0 ∷ 1 ∷ 0 ∷ 2 ∷ [])) ≡ fault_of 16 3) ×
    (case_fault (released_a (0 ∷ 1 ∷ [])) ≡ fault_of 16 2) ×
    (case_fault (released_a []) ≡ fault_of 16 1) ×
    (case_fault (released_a (0 ∷ 1 ∷ 0 ∷ 1 ∷ [])) ≡ fault_of 9 2)

-- the cases are accepted: the tests are computed
tested : Accepted (case_a edf_cf 10) × Accepted (case_a edf_cf 1) × Accepted (tight edf_cf) × Accepted crowded
    × Accepted (later_a edf_cf 10)
unfolding Accepted case_fault or_next first_of procs_fault policy_fault table_fault task_fault end_fault trace_fault in_order last_before
    release_fault
    sum absent_fault
tested = (refl, refl, refl, refl, refl)

pub accepted_A : Accepted (case_a edf_cf 10)
accepted_A = tested.0

pub accepted_A_cut : Accepted (case_a edf_cf 1)
accepted_A_cut = tested.1

pub accepted_tight : Accepted (tight edf_cf)
accepted_tight = tested.2

pub accepted_crowded : Accepted crowded
accepted_crowded = tested.3

pub accepted_later_A : Accepted (later_a edf_cf 10)
accepted_later_A = tested.4

-- and set A is refused where it lacks releases
pub lowest_of_A : LowestOfA
unfolding Accepted case_fault or_next first_of procs_fault policy_fault table_fault task_fault end_fault trace_fault in_order last_before
    release_fault
    sum absent_fault
lowest_of_A = (refl, refl, refl, refl)

-- set A: task 3 is missed under EDF and met under EDF-CF; task 1 is demoted at 0 and met at 2, where EDF meets it at 1
pub set_A : (record_by (case_a edf 10) 10 2 ≡ record_of 2 0 0) × (record_by (case_a edf_cf 10) 10 2 ≡ record_of 1 5 0)
    × (record_by (case_a edf_cf 10) 10 0 ≡ record_of 1 2 1) × (record_by (case_a edf 10) 10 0 ≡ record_of 1 1 0)
unfolding sum first_in tab map_from availability availabilities count free_count
    present judged joined demoted jobs_now contention_free lowered opened job_before rank chosen worked after ran finished demoted_now
    released_in state_from state_at ran_at finished_at demoted_at slots_by finish_by demotion_by verdict_by record_by
set_A = (refl, refl, refl, refl)

-- the free count is reached exactly: task 1's is 1, and of its 4 slots just 1 is contention-free, under either policy. The job is demoted
-- at its release and finishes at its deadline.
pub exactly_reached : (free_count 1 (tight edf_cf).table 0 ≡ 1) × (count_in (contention_free_at (tight edf)) 0 4 ≡ 1)
    × (count_in (contention_free_at (tight edf_cf)) 0 4 ≡ 1) × (record_by (tight edf_cf) 4 0 ≡ record_of 1 4 1)
unfolding sum first_in tab map_from availability availabilities count free_count
    present judged joined demoted jobs_now contention_free lowered opened job_before rank chosen worked after ran finished demoted_now
    released_in state_from state_at ran_at finished_at demoted_at contention_free_at slots_by finish_by demotion_by verdict_by record_by
exactly_reached = (refl, refl, refl, refl)

-- a job is demoted after its release, and meets: task 1 has free count 1 and execution 2, and having run in a slot with contention it has
-- 1 left at time 1. A free count lowered in that slot would be 0 by then, and the job not demoted.
pub demoted_later : (free_count 2 crowded.table 0 ≡ 1) × (record_by crowded 10 0 ≡ record_of 1 3 2)
unfolding sum first_in tab map_from availability availabilities count free_count
    present judged joined demoted jobs_now contention_free lowered opened job_before rank chosen worked after ran finished demoted_now
    released_in state_from state_at ran_at finished_at demoted_at slots_by finish_by demotion_by verdict_by record_by
demoted_later = (refl, refl)

-- a free count larger than what is left demotes too (request P3): task 1 has free count 2 and execution 1, is demoted at its release and
-- makes way for task 3, which EDF misses. Demoted only where the two are equal it would stay normal, and task 3 be missed.
pub larger_count : (free_count 2 (later_a edf_cf 10).table 0 ≡ 2) × (record_by (later_a edf_cf 10) 10 0 ≡ record_of 1 2 1)
    × (record_by (later_a edf_cf 10) 10 2 ≡ record_of 1 5 0) × (record_by (later_a edf 10) 10 2 ≡ record_of 2 0 0)
unfolding sum first_in tab map_from availability availabilities count free_count
    present judged joined demoted jobs_now contention_free lowered opened job_before rank chosen worked after ran finished demoted_now
    released_in state_from state_at ran_at finished_at demoted_at slots_by finish_by demotion_by verdict_by record_by
larger_count = (refl, refl, refl, refl)

-- set A cut at time 1: task 1, whose deadline is 4, is met under EDF, and under EDF-CF demoted and open. Nothing is promised of a job
-- whose deadline is after the end, and parts 2 and 3 would be false of it.
pub stays_open : (record_by (case_a edf 1) 1 0 ≡ record_of 1 1 0) × (record_by (case_a edf_cf 1) 1 0 ≡ record_of 3 0 1)
unfolding sum first_in tab map_from availability availabilities count free_count
    present judged joined demoted jobs_now contention_free lowered opened job_before rank chosen worked after ran finished demoted_now
    released_in state_from state_at ran_at finished_at demoted_at slots_by finish_by demotion_by verdict_by record_by
stays_open = (refl, refl)

-- ---- a course that is no replay: set A with a scheduler that works nothing in slot 0, the only one with contention
abbrev pub idler : Course
idler = record { setup = setup_in (case_a edf_cf 10); released = released_at (case_a edf_cf 10); works = λ t i. ltb 0 t }

pub idler_lawful : Lawful idler
idler_lawful =
    let g = lawful (case_a edf_cf 10) (legal (case_a edf_cf 10) accepted_A) in
    record { tasks_few = g.tasks_few; good = g.good; named = g.named; separate = g.separate }

idler_busy : contention_free_in idler 0 ≡ false
unfolding sum tab map_from availability availabilities count free_count present judged joined demoted jobs_now contention_free released_in
    state_in contention_free_in
idler_busy = refl

pub idler_attends : Attends idler 10
idler_attends zero i h l f p = absurd (false≢true (sym idler_busy ∙ f))
idler_attends (suc t) i h l f p = lt-ltb 0 (suc t) (omega arith)

-- task 1 is demoted at 0 and finishes at 2 all the same; task 3, which is not demoted, does not finish
pub idler-keeps : (demotion_in idler 0 0 ≡ 1) × (finish_in idler 0 0 ≡ 2) × (demotion_in idler 2 0 ≡ 0) × (finish_in idler 2 0 ≡ 0)
unfolding sum first_in tab map_from availability availabilities count free_count
    present judged joined demoted jobs_now contention_free lowered opened worked demoted_now
    released_in state_in demoted_in finished_in finish_in demotion_in
idler-keeps = (refl, refl, refl, refl)
