-- One slot, from any state: the six steps of document 01, "What happens at time t, in this order", the third as request P3 reads it, under
-- each policy, and the sets of tasks that run, finish, are removed as missed and are demoted in it; also jobs and states, from "The model".
-- A slot takes the set of tasks released now and not the trace, so a log or a live run can go through the same steps.
use Rattle.std.specs.Prelude.{ℕ, zero, suc, ◌+◌, ◌*◌, ◌-◌, ◌^◌, Bool, true, false, ◌&&◌, ◌||◌, List, [], ◌∷◌, eqb, ltb, leb, get_or}
use Rattle.rules.specs.Words.{pick, bit, sum, count_in, map_at}
use Rattle.rules.specs.Limits.{max_tasks}
use Rattle.rules.specs.Case.{execution, deadline}
use Rattle.rules.specs.Policies.{demoting, free_count_under}
use Rattle.rules.specs.declared.Job.{Job}
use Rattle.rules.specs.declared.Job.TheVariants.{Idle, Normal, Demoted}
use Rattle.rules.specs.declared.Task.{Task}
use Rattle.rules.specs.declared.Run.{Run}

-- what stays the same from slot to slot: processors, policy, table
pub record Setup : Type 0 where
  pub procs : ℕ
  pub policy : ℕ
  pub table : List ℕ

abbrev pub setup_of : ℕ → ℕ → List ℕ → Setup
setup_of m p ts = record { procs = m; policy = p; table = ts }

-- the free count that a job of the task at i has at its release
abbrev pub free_count_in : Setup → ℕ → ℕ
free_count_in g i = free_count_under g.policy g.procs g.table i

-- ---- jobs and states
-- a set of tasks: which of the indices 0 to 31 are in it
abbrev pub TaskSet : Type 0
TaskSet = ℕ → Bool

abbrev pub no_task : Task
no_task = record { number = 0; last = 0; job = Idle }

abbrev pub run_of : List Task → Run
run_of ts = record { tasks = ts }

abbrev pub with_job : Task → Job → Task
with_job t j = record { number = t.number; last = t.last; job = j }

-- the state of the task at index i
abbrev pub job_at : Run → ℕ → Job
job_at r i = (get_or r.tasks i no_task).job

-- normal or demoted
abbrev pub is_present : Job → Bool
is_present Idle = false
is_present (Normal left free due) = true
is_present (Demoted left due) = true

abbrev pub is_demoted : Job → Bool
is_demoted Idle = false
is_demoted (Normal left free due) = false
is_demoted (Demoted left due) = true

-- the remaining execution
abbrev pub left_of : Job → ℕ
left_of Idle = 0
left_of (Normal left free due) = left
left_of (Demoted left due) = left

-- the remaining free count: a demoted job carries none
abbrev pub free_of : Job → ℕ
free_of Idle = 0
free_of (Normal left free due) = free
free_of (Demoted left due) = 0

-- the absolute deadline
abbrev pub due_of : Job → ℕ
due_of Idle = 0
due_of (Normal left free due) = due
due_of (Demoted left due) = due

-- the tasks that have a job
unfoldable pub present : Run → TaskSet
present r i = is_present (job_at r i)

-- each task of the run, at its index, changed
abbrev pub each_task : (ℕ → Task → Task) → Run → Run
each_task f r = run_of (map_at f r.tasks)

-- ---- step 1: an unfinished job whose deadline is t is removed as missed
abbrev pub is_missed : ℕ → Job → Bool
is_missed now j = is_present j && eqb (due_of j) now

abbrev pub judged_task : ℕ → Task → Task
judged_task now t = pick (is_missed now t.job) (with_job t Idle) t

unfoldable pub judged : ℕ → Run → Run
judged now r = each_task (λ i t. judged_task now t) r

-- ---- step 2: each job released at t becomes normal with remaining execution C, its task's free count, and deadline t + D
abbrev pub released_job : Setup → ℕ → ℕ → Job
released_job g now i = Normal (execution g.table i) (free_count_in g i) (now + deadline g.table i)

-- the task keeps one more than the time of its last release
abbrev pub released_task : Setup → ℕ → ℕ → Task → Task
released_task g now i t = record { number = t.number; last = suc now; job = released_job g now i }

abbrev pub joined_task : Setup → ℕ → TaskSet → ℕ → Task → Task
joined_task g now released i t = pick (released i) (released_task g now i t) t

unfoldable pub joined : Setup → ℕ → TaskSet → Run → Run
joined g now released r = each_task (joined_task g now released) r

-- ---- step 3, EDF-CF only: a normal job whose remaining free count is at least its remaining execution becomes demoted
abbrev pub demotes : ℕ → ℕ → Bool
demotes free left = leb left free

abbrev pub is_demoted_now : Job → Bool
is_demoted_now Idle = false
is_demoted_now (Normal left free due) = demotes free left
is_demoted_now (Demoted left due) = false

abbrev pub demoted_task : Task → Task
demoted_task t = pick (is_demoted_now t.job) (with_job t (Demoted (left_of t.job) (due_of t.job))) t

unfoldable pub demoted : Setup → Run → Run
demoted g r = pick (demoting g.policy) (each_task (λ i t. demoted_task t) r) r

-- ---- step 4: N is the number of normal and demoted jobs now
unfoldable pub jobs_now : Run → ℕ
jobs_now r = count_in (present r) 0 max_tasks

-- the slot is contention-free when N ≤ m
unfoldable pub contention_free : Setup → Run → Bool
contention_free g r = leb (jobs_now r) g.procs

-- in EDF-CF, in such a slot, each normal job's free count goes down by 1, but not below 0
abbrev pub lowered_job : Job → Job
lowered_job Idle = Idle
lowered_job (Normal left free due) = Normal left (free - 1) due
lowered_job (Demoted left due) = Demoted left due

abbrev pub lowered_task : Task → Task
lowered_task t = with_job t (lowered_job t.job)

unfoldable pub lowered : Setup → Run → Run
lowered g r = pick (demoting g.policy && contention_free g r) (each_task (λ i t. lowered_task t) r) r

-- ---- a slot is opened: steps 1 to 4, in this order
abbrev pub readied : Setup → ℕ → TaskSet → Run → Run
readied g now released r = joined g now released (judged now r)

unfoldable pub opened : Setup → ℕ → TaskSet → Run → Run
opened g now released r = lowered g (demoted g (readied g now released r))

-- ---- step 5: normal jobs come before demoted ones; within each kind, earlier deadline first,
-- and on equal deadlines the lower task number
-- the kind of a job under a policy at a time: the lower kind comes first (an idle task has none and stands last)
abbrev pub kind : ℕ → ℕ → Job → ℕ
kind policy now (Normal left free due) = 0
kind policy now (Demoted left due) = 1
kind policy now Idle = 2

-- a before b, or equal and `later` decides
abbrev pub in_turn : ℕ → ℕ → Bool → Bool
in_turn a b later = ltb a b || (eqb a b && later)

-- whether the job a of the task at j comes before the job b of the task at i
unfoldable pub job_before : ℕ → ℕ → Job → ℕ → Job → ℕ → Bool
job_before policy now a j b i =
    is_present a && in_turn (kind policy now a) (kind policy now b) (in_turn (due_of a) (due_of b) (ltb j i))

abbrev pub comes_before : Setup → ℕ → Run → ℕ → ℕ → Bool
comes_before g now r j i = job_before g.policy now (job_at r j) j (job_at r i) i

-- how many jobs come before that of the task at i
unfoldable pub rank : Setup → ℕ → Run → ℕ → ℕ
rank g now r i = count_in (λ j. comes_before g now r j i) 0 max_tasks

-- the first min(m, N) run: those before which fewer than m come
unfoldable pub chosen : Setup → ℕ → Run → TaskSet
chosen g now r i = present r i && ltb (rank g now r i) g.procs

-- ---- steps 5 and 6: the jobs of a set run one unit, and one with nothing remaining is finished: its task is idle
abbrev pub last_unit : ℕ → Bool
last_unit left = leb left 1

-- whether the job's next unit is its last
abbrev pub is_last : Job → Bool
is_last j = last_unit (left_of j)

abbrev pub worked_job : Job → Job
worked_job Idle = Idle
worked_job (Normal left free due) = pick (last_unit left) Idle (Normal (left - 1) free due)
worked_job (Demoted left due) = pick (last_unit left) Idle (Demoted (left - 1) due)

abbrev pub worked_task : Task → Task
worked_task t = with_job t (worked_job t.job)

unfoldable pub worked : TaskSet → Run → Run
worked runs r = each_task (λ i t. pick (runs i) (worked_task t) t) r

-- ---- the slot: what it leaves, and the sets that ran, finished, were removed as missed and were demoted
unfoldable pub after : Setup → ℕ → TaskSet → Run → Run
after g now released r = worked (chosen g now (opened g now released r)) (opened g now released r)

unfoldable pub ran : Setup → ℕ → TaskSet → Run → TaskSet
ran g now released r i = chosen g now (opened g now released r) i

unfoldable pub finished : Setup → ℕ → TaskSet → Run → TaskSet
finished g now released r i = ran g now released r i && is_last (job_at (opened g now released r) i)

unfoldable pub missed : Setup → ℕ → TaskSet → Run → TaskSet
missed g now released r i = is_missed now (job_at r i)

unfoldable pub demoted_now : Setup → ℕ → TaskSet → Run → TaskSet
demoted_now g now released r i = demoting g.policy && is_demoted_now (job_at (readied g now released r) i)

-- a set as a number: bit (task − 1) for each task in it
unfoldable pub set_number : TaskSet → ℕ
set_number s = sum (λ i. bit (s i) * 2 ^ i) 0 max_tasks

-- the tasks of a set among the n from index k on, in rising order
unfoldable pub tasks_from : TaskSet → ℕ → ℕ → List ℕ
tasks_from s k zero = []
tasks_from s k (suc n) = pick (s k) (suc k ∷ tasks_from s (suc k) n) (tasks_from s (suc k) n)

-- all its tasks
unfoldable pub tasks_in : TaskSet → List ℕ
tasks_in s = tasks_from s 0 max_tasks
