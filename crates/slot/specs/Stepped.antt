-- What the parts of a slot and the whole of it answer: the run that they leave, the N of step 4 and sets of tasks, each as the
-- definitions of "What happens at time t" have it.
use Rattle.std.specs.Prelude.{ℕ, suc, ◌<◌, ◌≡◌, Bool, true, ◌&&◌, List}
use Rattle.rules.specs.Words.{tab}
use Rattle.rules.specs.Limits.{max_tasks}
use Rattle.rules.specs.Slot.{Setup, TaskSet, setup_of, job_at, left_of, is_missed, present, readied, demoted, jobs_now, lowered, last_unit}
use Rattle.rules.specs.Slot.{worked, after, ran, finished, missed, demoted_now}
use Rattle.rules.specs.declared.Run.{Run}

-- the run after steps 1 to 3
abbrev pub settled_run : Setup → ℕ → TaskSet → Run → Run
settled_run g now released r = demoted g (readied g now released r)

-- the tasks whose job step 1 of a time would remove as missed
abbrev pub missed_in : ℕ → Run → List Bool
missed_in time r = tab (λ i. is_missed time (job_at r i)) 0 max_tasks

-- steps 1 to 3: the run, N, and the sets that step 1 removed as missed, that step 3 demoted and that are then present
pub record Settles (g : Setup) (now : ℕ) (released : TaskSet) (r s : Run) (n : ℕ) (ms ds ps : List Bool) : Type 0 where
  pub run : s ≡ settled_run g now released r
  pub jobs : n ≡ jobs_now s
  pub missed : ms ≡ tab (missed g now released r) 0 max_tasks
  pub demoted : ds ≡ tab (demoted_now g now released r) 0 max_tasks
  pub present : ps ≡ tab (present s) 0 max_tasks

-- steps 4 to 6 for a set that is given: the run, and the sets that finished and that the next step 1 removes as missed
pub record Works (g : Setup) (now : ℕ) (runs : TaskSet) (r s : Run) (fs ls : List Bool) : Type 0 where
  pub run : s ≡ worked runs (lowered g r)
  pub finished : fs ≡ tab (λ i. runs i && last_unit (left_of (job_at (lowered g r) i))) 0 max_tasks
  pub missed_next : ls ≡ missed_in (suc now) s

-- only tasks that have a job are in a set
abbrev pub Among : TaskSet → Run → Type 0
Among runs r = (i : ℕ) → i < max_tasks → runs i ≡ true → present r i ≡ true

-- the table has no say in steps 4 to 6
abbrev pub Worked : ℕ → ℕ → ℕ → TaskSet → Run → Run → List Bool → List Bool → Type 0
Worked procs policy now runs r s fs ls = (table : List ℕ) → Works (setup_of procs policy table) now runs r s fs ls

-- the whole slot
pub record Stepped (g : Setup) (now : ℕ) (released : TaskSet) (r s : Run) (n : ℕ) (ms ds rs fs ls : List Bool) : Type 0 where
  pub run : s ≡ after g now released r
  pub jobs : n ≡ jobs_now (settled_run g now released r)
  pub missed : ms ≡ tab (missed g now released r) 0 max_tasks
  pub demoted : ds ≡ tab (demoted_now g now released r) 0 max_tasks
  pub ran : rs ≡ tab (ran g now released r) 0 max_tasks
  pub finished : fs ≡ tab (finished g now released r) 0 max_tasks
  pub missed_next : ls ≡ missed_in (suc now) s
