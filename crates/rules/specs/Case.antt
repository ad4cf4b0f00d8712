-- A case as lent numbers (document 01, "The model"): three a task in the order T, C, D, two a release in the order time, task.
-- Tasks and releases are numbered from 1 in the document; `i` and `j` here are these numbers less 1.
use Rattle.std.specs.Prelude.{ℕ, ◌+◌, ◌*◌, ◌/◌, List, length, get_or}
use Rattle.rules.specs.Limits.{task_width, release_width}

-- processors, policy, the task numbers, the end, the release numbers
pub record Case : Type 0 where
  pub procs : ℕ
  pub policy : ℕ
  pub table : List ℕ
  pub end : ℕ
  pub trace : List ℕ

abbrev pub case_of : ℕ → ℕ → List ℕ → ℕ → List ℕ → Case
case_of m p ts e rs = record { procs = m; policy = p; table = ts; end = e; trace = rs }

-- the same case under another policy
abbrev pub under : ℕ → Case → Case
under p c = case_of c.procs p c.table c.end c.trace

-- how many tasks a table has
abbrev pub task_count : List ℕ → ℕ
task_count ts = length ts / task_width

-- T of a task, its least separation
abbrev pub period : List ℕ → ℕ → ℕ
period ts i = get_or ts (i * task_width) 0

-- C of a task, its execution time
abbrev pub execution : List ℕ → ℕ → ℕ
execution ts i = get_or ts (i * task_width + 1) 0

-- D of a task, its relative deadline
abbrev pub deadline : List ℕ → ℕ → ℕ
deadline ts i = get_or ts (i * task_width + 2) 0

-- how many releases a trace has
abbrev pub release_count : List ℕ → ℕ
release_count rs = length rs / release_width

-- the time of a release
abbrev pub time_of : List ℕ → ℕ → ℕ
time_of rs j = get_or rs (j * release_width) 0

-- the task that a release names, by its number from 1
abbrev pub name_of : List ℕ → ℕ → ℕ
name_of rs j = get_or rs (j * release_width + 1) 0
