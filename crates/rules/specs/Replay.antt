-- The replay (document 01, "What happens at time t, in this order"): the state at each time, the sets of each slot, the record of each
-- release, the totals, the running set of a slot. A record is read off the sets of the slots, at any time e; the answer is e = end.
use Rattle.std.specs.Prelude.{ℕ, zero, suc, ◌+◌, ◌-◌, min, Bool, true, false, ◌&&◌, ◌||◌, List, [], ◌∷◌, eqb, leb}
use Rattle.rules.specs.Words.{bit, first_in, tab}
use Rattle.rules.specs.Limits.{max_tasks}
use Rattle.rules.specs.Case.{Case, deadline, release_count, time_of, name_of}
use Rattle.rules.specs.Slot.{Setup, TaskSet, setup_of, run_of, judged, readied, demoted, contention_free, after, ran, finished}
use Rattle.rules.specs.Slot.{missed, demoted_now, set_number}
use Rattle.rules.specs.declared.Job.TheVariants.{Idle}
use Rattle.rules.specs.declared.Task.{Task}
use Rattle.rules.specs.declared.Run.{Run}

abbrev pub setup_in : Case → Setup
setup_in c = setup_of c.procs c.policy c.table

-- ---- the trace
-- the first n releases have one of the task at i at time t
unfoldable pub released_in : List ℕ → ℕ → ℕ → TaskSet
released_in rs zero t i = false
released_in rs (suc n) t i = released_in rs n t i || (eqb (time_of rs n) t && eqb (name_of rs n) (suc i))

-- the set released at t
abbrev pub released_at : Case → ℕ → TaskSet
released_at c t i = released_in c.trace (release_count c.trace) t i

-- ---- states
-- every task idle and never released
abbrev pub idle_task : ℕ → Task
idle_task i = record { number = suc i; last = 0; job = Idle }

abbrev pub fresh : Run
fresh = run_of (tab idle_task 0 max_tasks)

-- the state at time a + l that the state r at time a comes to, with the set released at each time
unfoldable pub state_from : Setup → (ℕ → TaskSet) → ℕ → Run → ℕ → Run
state_from g released a r zero = r
state_from g released a r (suc l) = after g (a + l) (released (a + l)) (state_from g released a r l)

-- the state at time t, before step 1 of t
unfoldable pub state_at : Case → ℕ → Run
state_at c t = state_from (setup_in c) (released_at c) 0 fresh t

-- at time end step 1 is done and no other; the jobs then left are open
unfoldable pub closing : Case → Run
closing c = judged c.end (state_at c c.end)

-- ---- the sets of the slot at t, and whether it is contention-free
unfoldable pub ran_at : Case → ℕ → TaskSet
ran_at c t = ran (setup_in c) t (released_at c t) (state_at c t)

unfoldable pub finished_at : Case → ℕ → TaskSet
finished_at c t = finished (setup_in c) t (released_at c t) (state_at c t)

unfoldable pub missed_at : Case → ℕ → TaskSet
missed_at c t = missed (setup_in c) t (released_at c t) (state_at c t)

unfoldable pub demoted_at : Case → ℕ → TaskSet
demoted_at c t = demoted_now (setup_in c) t (released_at c t) (state_at c t)

unfoldable pub contention_free_at : Case → ℕ → Bool
contention_free_at c t = contention_free (setup_in c) (demoted (setup_in c) (readied (setup_in c) t (released_at c t) (state_at c t)))

-- ---- records
-- verdict; finish time, or 0 where there is none; demotion time + 1, or 0 where never demoted
pub record Record : Type 0 where
  pub verdict : ℕ
  pub finish : ℕ
  pub demotion : ℕ

abbrev pub record_of : ℕ → ℕ → ℕ → Record
record_of v f d = record { verdict = v; finish = f; demotion = d }

-- met (1), finished; missed (2), unfinished at a deadline that has come; open (3), unfinished with a later deadline
abbrev pub verdict_of : ℕ → Bool → ℕ
verdict_of zero true = 2
verdict_of zero false = 3
verdict_of (suc f) come = 1

-- the job of the task at i released at a, as it stands at time e. Its slots are those from a up to its deadline and before e
unfoldable pub slots_by : Case → ℕ → ℕ → ℕ → ℕ
slots_by c i a e = min (deadline c.table i) (e - a)

-- it is finished at t + 1 where t is the first of its slots in which its task finishes
unfoldable pub finish_by : Case → ℕ → ℕ → ℕ → ℕ
finish_by c i a e = first_in (λ t. finished_at c t i) a (slots_by c i a e)

-- its demotion is written t + 1 where t is the first of its slots in which its task is demoted
unfoldable pub demotion_by : Case → ℕ → ℕ → ℕ → ℕ
demotion_by c i a e = first_in (λ t. demoted_at c t i) a (slots_by c i a e)

-- its verdict, by its finish and whether its deadline has come
unfoldable pub verdict_by : Case → ℕ → ℕ → ℕ → ℕ
verdict_by c i a e = verdict_of (finish_by c i a e) (leb (a + deadline c.table i) e)

abbrev pub job_record : Case → ℕ → ℕ → ℕ → Record
job_record c i a e = record_of (verdict_by c i a e) (finish_by c i a e) (demotion_by c i a e)

-- the record of release j as it stands at time e
unfoldable pub record_by : Case → ℕ → ℕ → Record
record_by c e j = job_record c (name_of c.trace j - 1) (time_of c.trace j) e

-- the records of all releases at the end, in trace order
abbrev pub records : Case → List Record
records c = tab (record_by c c.end) 0 (release_count c.trace)

-- three numbers a release
unfoldable pub numbers : List Record → List ℕ
numbers [] = []
numbers (r ∷ rs) = r.verdict ∷ r.finish ∷ r.demotion ∷ numbers rs

-- ---- totals: the number of records so marked
unfoldable pub marked : ℕ → List Record → ℕ
marked v [] = 0
marked v (r ∷ rs) = bit (eqb r.verdict v) + marked v rs

abbrev pub met_jobs : Case → ℕ
met_jobs c = marked 1 (records c)

abbrev pub missed_jobs : Case → ℕ
missed_jobs c = marked 2 (records c)

abbrev pub open_jobs : Case → ℕ
open_jobs c = marked 3 (records c)

-- ---- the running set of slot s
abbrev pub running_set : Case → ℕ → ℕ
running_set c s = set_number (ran_at c s)
