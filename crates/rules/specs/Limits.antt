-- The numbers that document 01 fixes in "The model": how large a case may be, and how many numbers stand for a task and a release;
-- and from "What happens at time t", how many stand for a record. Each has one name, and no other file of rules writes the number again.
use Rattle.std.specs.Prelude.{ℕ}

-- processors 1 to 32
abbrev pub max_procs : ℕ
max_procs = 32

-- tasks 1 to 32
abbrev pub max_tasks : ℕ
max_tasks = 32

-- T at most 10,000
abbrev pub max_period : ℕ
max_period = 10000

-- end 0 to 100,000
abbrev pub max_end : ℕ
max_end = 100000

-- releases 0 to 2,000
abbrev pub max_releases : ℕ
max_releases = 2000

-- text at most 60,000 bytes
abbrev pub max_text : ℕ
max_text = 60000

-- three numbers a task: T, C, D
abbrev pub task_width : ℕ
task_width = 3

-- two numbers a release: time, task
abbrev pub release_width : ℕ
release_width = 2

-- three numbers a record: verdict, finish, demotion
abbrev pub record_width : ℕ
record_width = 3
