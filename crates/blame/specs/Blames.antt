-- The words for a log's slot, for a person to read: which part of the rule it breaks, and by which tasks (request P2, refusal 18; the
-- words are the project's own). The run is as it stands after steps 1 to 3 of the slot, so that its jobs are those that were chosen from.
use Rattle.std.specs.Prelude.{ℕ, ◌+◌, ◌-◌, ◌<◌, min, ◌≡◌, Bool, ◌&&◌, not, List, ◌++◌, eqb, Option, None, Some}
use Rattle.lists.specs.Lists.{members}
use Rattle.rules.specs.Words.{pick, count_in, first_in}
use Rattle.rules.specs.Limits.{max_tasks}
use Rattle.rules.specs.Slot.{Setup, setup_of, TaskSet, job_at, present, is_demoted, due_of, jobs_now}
use Rattle.rules.specs.Text.{digits_of}
use Rattle.rules.specs.Log.{wronged}
use Rattle.rules.specs.declared.Job.{Job}
use Rattle.rules.specs.declared.Run.{Run}
use Rattle.puts.specs.Laid.{Laid}
use Rattle.blame.specs.declared.Slot.{Slot}
use Rattle.reasons.specs.Reasons.{words}
use Rattle.prints.specs.Lines.{Printed}

-- ---- what is wrong; a task by its number, 0 where there is none
-- the lowest task that runs without a job
unfoldable pub absent_task : Run → TaskSet → ℕ
absent_task r runs = first_in (λ i. runs i && not (present r i)) 0 max_tasks

-- how many run, and how many should: min(m, N)
abbrev pub ran_count : TaskSet → ℕ
ran_count runs = count_in runs 0 max_tasks

abbrev pub due_count : Setup → Run → ℕ
due_count g r = min g.procs (jobs_now r)

-- the lowest task that runs though the job of the task at j, left waiting, comes strictly before its own
unfoldable pub overtaking_task : Setup → ℕ → Run → TaskSet → ℕ → ℕ
overtaking_task g now r runs j = first_in (λ i. wronged g now r runs j i) 0 max_tasks

-- the lowest task that such a one runs before
unfoldable pub waiting_task : Setup → ℕ → Run → TaskSet → ℕ
waiting_task g now r runs = first_in (λ j. not (eqb (overtaking_task g now r runs j) 0)) 0 max_tasks

-- the job of a task, by its number
abbrev pub job_of : Run → ℕ → Job
job_of r task = job_at r (task - 1)

-- ---- in words
unfoldable pub kind_words : Job → List ℕ
kind_words j = pick (is_demoted j) (words " (demoted, deadline ") (words " (normal, deadline ")

-- a task and its job: `task J (KIND, deadline A)`
unfoldable pub job_words : ℕ → Job → List ℕ
job_words task j = words "task " ++ (digits_of task ++ (kind_words j ++ (digits_of (due_of j) ++ words ")")))

-- one that waits and one that runs
unfoldable pub pair_words : ℕ → Job → ℕ → Job → List ℕ
pair_words j a i b = job_words j a ++ (words " waits, " ++ (job_words i b ++ words " runs"))

unfoldable pub absent_words : ℕ → List ℕ
absent_words task = words "task " ++ (digits_of task ++ words " runs without a job")

unfoldable pub count_words : ℕ → ℕ → List ℕ
count_words ran due = digits_of ran ++ (words " ran of " ++ (digits_of due ++ words " that should"))

-- of the task j, or that there is none
unfoldable pub waiting_words : Setup → ℕ → Run → TaskSet → ℕ → List ℕ
waiting_words g now r runs j =
    pick (eqb j 0) (words "keeps the rule")
    (pair_words j (job_of r j) (overtaking_task g now r runs (j - 1)) (job_of r (overtaking_task g now r runs (j - 1))))

-- the first that applies; `names` says whether every number that the line names is one of a task
unfoldable pub fault_words : Setup → ℕ → Run → Bool → TaskSet → List ℕ
fault_words g now r names runs =
    pick (not names) (words "names a number that is no task")
    (pick (not (eqb (absent_task r runs) 0)) (absent_words (absent_task r runs))
    (pick (not (eqb (ran_count runs) (due_count g r))) (count_words (ran_count runs) (due_count g r))
    (waiting_words g now r runs (waiting_task g now r runs))))

-- with the slot's time in front
unfoldable pub blame_text : Setup → ℕ → Run → Bool → TaskSet → List ℕ
blame_text g now r names runs = (words "slot " ++ (digits_of now ++ words ": ")) ++ fault_words g now r names runs

-- ---- how many bytes are enough
-- for a kind
abbrev pub kind_room : ℕ
kind_room = 20

-- for a task and its job: a kind, and two numbers of at most ten digits
abbrev pub job_room : ℕ
job_room = 46

-- for all but the time: a task that waits and one that runs
abbrev pub fault_room : ℕ
fault_room = 105

-- no words of a slot are longer than this
abbrev pub blame_room : ℕ
blame_room = 122

-- ---- the same, of a slot as the code has it, whatever the table, which has no say in it. A task that is looked for is found by its
-- index, or none is.
abbrev pub setup_with : Slot → List ℕ → Setup
setup_with s table = setup_of s.procs s.policy table

abbrev pub Absent : Run → List Bool → Option ℕ → Type 0
Absent r named None = absent_task r (members named) ≡ 0
Absent r named (Some i) = (i < max_tasks) × (absent_task r (members named) ≡ i + 1)

abbrev pub Overtaking : Slot → ℕ → Option ℕ → Type 0
Overtaking s j None = (table : List ℕ) → overtaking_task (setup_with s table) s.clock s.run.now (members s.named.now) j ≡ 0
Overtaking s j (Some i) = (i < max_tasks) × ((table : List ℕ)
    → overtaking_task (setup_with s table) s.clock s.run.now (members s.named.now) j ≡ i + 1)

-- the task that waits, and the one that it should come before
abbrev pub Waiting : Slot → Option (ℕ × ℕ) → Type 0
Waiting s None = (table : List ℕ) → waiting_task (setup_with s table) s.clock s.run.now (members s.named.now) ≡ 0
Waiting s (Some (j, i)) = (j < max_tasks) × ((table : List ℕ)
    → waiting_task (setup_with s table) s.clock s.run.now (members s.named.now) ≡ j + 1) × Overtaking s j (Some i)

-- what is laid says which task waits
abbrev pub WaitingLaid : Slot → ℕ → List ℕ → List ℕ → ℕ → Type 0
WaitingLaid s at old new end = (table : List ℕ)
    → Laid at (waiting_words (setup_with s table) s.clock s.run.now (members s.named.now)
    (waiting_task (setup_with s table) s.clock s.run.now (members s.named.now))) old new end

-- what is laid says what is wrong
abbrev pub FaultLaid : Slot → Bool → ℕ → List ℕ → List ℕ → ℕ → Type 0
FaultLaid s names at old new end = (table : List ℕ)
    → Laid at (fault_words (setup_with s table) s.clock s.run.now names (members s.named.now)) old new end

-- the words of a slot stand at the start of the lent bytes, and all else is as it was
abbrev pub Blamed : ℕ → ℕ → ℕ → Run → Bool → List Bool → List ℕ → List ℕ → ℕ → Type 0
Blamed procs policy now r names named old new n = (table : List ℕ)
    → Printed blame_room (blame_text (setup_of procs policy table) now r names (members named)) old new n
