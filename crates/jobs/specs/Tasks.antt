-- What the steps of a slot make of one job and of one task, beside the definitions of rules, Slot, which speak of a whole run; and what
-- step 2 needs of the table.
use Rattle.std.specs.Prelude.{ℕ, suc, ◌+◌, ◌≤◌, ◌<◌, Bool, List}
use Rattle.rules.specs.Words.{pick}
use Rattle.rules.specs.Limits.{max_period}
use Rattle.rules.specs.Case.{task_count, execution, deadline}
use Rattle.rules.specs.Slot.{left_of, due_of, with_job, judged_task, lowered_job, worked_job}
use Rattle.rules.specs.declared.Job.{Job}
use Rattle.rules.specs.declared.Job.TheVariants.{Normal, Demoted}
use Rattle.rules.specs.declared.Task.{Task}

-- a time so early that neither the next time nor a deadline is past 32 bits
abbrev pub Early : ℕ → Type 0
Early now = now ≤ 4000000000

-- the task at i stands in the table, and what its job starts with is small
pub record Startable (table : List ℕ) (i free : ℕ) : Type 0 where
  pub inside : i < task_count table
  pub short : deadline table i ≤ max_period
  pub brief : execution table i ≤ max_period
  pub few : free ≤ max_period

-- a task with the job that step 2 gives it, its free count told
abbrev pub started_task : List ℕ → ℕ → ℕ → ℕ → Task → Task
started_task table i free now t = record {
  number = t.number;
  last = suc now;
  job =
      Normal (execution table i) free (now + deadline table i);
}

-- steps 1 and 2
abbrev pub readied_task : List ℕ → ℕ → ℕ → Bool → ℕ → Task → Task
readied_task table i free released now t = pick released (started_task table i free now t) (judged_task now t)

-- step 3, where it is told whether the job is demoted
abbrev pub demoted_job : Job → Job
demoted_job j = Demoted (left_of j) (due_of j)

abbrev pub demoted_if : Bool → Task → Task
demoted_if is t = pick is (with_job t (demoted_job t.job)) t

-- step 4, where it is told whether free counts go down
abbrev pub lowered_if : Bool → Job → Job
lowered_if lowers j = pick lowers (lowered_job j) j

-- step 6, where it is told whether the job runs
abbrev pub worked_if : Bool → Job → Job
worked_if runs j = pick runs (worked_job j) j

-- steps 4 and 6
abbrev pub worked_on : Bool → Bool → Task → Task
worked_on lowers runs t = with_job t (worked_if runs (lowered_if lowers t.job))
