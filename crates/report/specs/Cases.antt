-- What is printed of an accepted case: the replay's report (rules, Report) by the numbers in lent memory, and the lines of the commands
-- `counts` and `slot N`, which are the project's own; and what the writers of these ask and promise.
use Rattle.std.specs.Prelude.{ℕ, ◌+◌, ◌*◌, ◌-◌, ◌^◌, ◌≤◌, ◌<◌, List, [], ltb, length, get_or}
use Rattle.rules.specs.Words.{pick, tab}
use Rattle.rules.specs.Limits.{max_releases, record_width}
use Rattle.rules.specs.Case.{Case, task_count, deadline, release_count, time_of, name_of}
use Rattle.rules.specs.Counts.{free_counts}
use Rattle.rules.specs.Answers.{Answer, refusal, result}
use Rattle.rules.specs.Replay.{record_of, running_set}
use Rattle.rules.specs.Writer.{joined_text}
use Rattle.rules.specs.Report.{job_line, refused_line}
use Rattle.puts.specs.Laid.{Laid}
use Rattle.prints.specs.Lines.{line_room, job_room, count_line}
use Rattle.sets.specs.Sets.{running_line}

-- ---- lines one after the other
-- the first n lines of those that f gives
unfoldable pub lines_text : (ℕ → List ℕ) → ℕ → List ℕ
lines_text f n = joined_text (tab f 0 n)

-- the job line of release j, the numbers of its record being in vs
abbrev pub job_text : List ℕ → List ℕ → List ℕ → ℕ → List ℕ
job_text ts rs vs j =
    job_line (time_of rs j) (name_of rs j) (time_of rs j + deadline ts (name_of rs j - 1))
    (record_of (get_or vs (j * record_width) 0) (get_or vs (j * record_width + 1) 0) (get_or vs (j * record_width + 2) 0))

-- the line of a task's free count
abbrev pub count_text : List ℕ → ℕ → List ℕ
count_text free i = count_line (i + 1) (get_or free i 0)

-- ---- what the commands print
-- `counts`: a line a task, in table order
abbrev pub counts_text : ℕ → List ℕ → List ℕ
counts_text m ts = lines_text (count_text (free_counts m ts)) (task_count ts)

-- `slot N`: the line of the tasks that run in the slot; one beyond the end is refused as 15
abbrev pub slot_text : Case → ℕ → List ℕ
slot_text c s = pick (ltb s c.end) (running_line s (running_set c s)) (refused_line 15 0)

-- the one line of a refusal
abbrev pub refusal_text : Answer → List ℕ
refusal_text (refusal n p) = refused_line n p
refusal_text (result vs) = []

-- ---- what the writers promise and ask
-- all that is printed of a case fits into this: as many job lines as releases, and a line before and after them
abbrev pub print_room : ℕ
print_room = line_room + max_releases * job_room + line_room

-- the first n lines stand from index `at` on, none of them longer than w
pub record Listed (f : ℕ → List ℕ) (w at n : ℕ) (old new : List ℕ) (end : ℕ) : Type 0 where
  pub laid : Laid at (lines_text f n) old new end
  pub short : end ≤ at + n * w

-- the numbers of release j are there: its own, its task's and its record's
pub record Stands (ts rs vs : List ℕ) (j : ℕ) : Type 0 where
  pub listed : j < release_count rs
  pub named : 1 ≤ name_of rs j
  pub tabled : name_of rs j - 1 < task_count ts
  pub small : time_of rs j + deadline ts (name_of rs j - 1) < 2 ^ 32
  pub judged : j * record_width + 2 < length vs
