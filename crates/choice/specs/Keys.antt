-- The order of step 5 as one number a job, its key, and the set that it chooses: the jobs whose key is below a bound that has as many keys
-- below it as there are processors. Nothing here says which job a key belongs to: how many keys are below a number is all that is asked.
use Rattle.std.specs.Prelude.{ℕ, ◌+◌, ◌*◌, ◌<◌, ◌≡◌, Bool, ◌&&◌, List, ltb}
use Rattle.rules.specs.Words.{tab, count_in}
use Rattle.rules.specs.Limits.{max_tasks}
use Rattle.rules.specs.Slot.{TaskSet, setup_of, job_at, is_present, due_of, kind, chosen}
use Rattle.rules.specs.declared.Job.{Job}
use Rattle.rules.specs.declared.Run.{Run}

-- first the kind, then the deadline, then the task: a deadline is below 2^32 and a task's index below 32
abbrev pub key_of : ℕ → ℕ → Job → ℕ → ℕ
key_of policy now j i = kind policy now j * 137438953472 + due_of j * 32 + i

-- a number is the key of a job, whose deadline is a number of 32 bits
pub record Keyed (policy now : ℕ) (j : Job) (i k : ℕ) : Type 0 where
  pub is : k ≡ key_of policy now j i
  pub short : due_of j < 4294967296

-- above every key: the largest number of 64 bits
abbrev pub no_key : ℕ
no_key = 18446744073709551615

-- the deadlines of a run are numbers of 32 bits
abbrev pub Short : Run → Type 0
Short r = (i : ℕ) → i < max_tasks → due_of (job_at r i) < 4294967296

-- the tasks that have a job whose key is below a bound
abbrev pub key_below : ℕ → ℕ → Run → ℕ → TaskSet
key_below policy now r bound i = is_present (job_at r i) && ltb (key_of policy now (job_at r i) i) bound

-- how many jobs of a run have a key below a bound
unfoldable pub keys_below : ℕ → ℕ → Run → ℕ → ℕ
keys_below policy now r bound = count_in (key_below policy now r bound) 0 max_tasks

-- the set of the jobs with a key below a bound, and how many they are
pub record Marked (policy now : ℕ) (r : Run) (bound n : ℕ) (runs : List Bool) : Type 0 where
  pub count : n ≡ keys_below policy now r bound
  pub set : runs ≡ tab (key_below policy now r bound) 0 max_tasks
  pub short : Short r

-- the set that step 5 chooses: the table has no say in it
abbrev pub Chosen : ℕ → ℕ → ℕ → Run → List Bool → Type 0
Chosen procs policy now r runs = (table : List ℕ) → runs ≡ tab (chosen (setup_of procs policy table) now r) 0 max_tasks
