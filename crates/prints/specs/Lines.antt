-- The printed lines of rules, Report, by the numbers that stand in them, as their writers get them; and a line beside document 01's own:
-- the free count of a task.
use Rattle.std.specs.Prelude.{Option, None, Some, ℕ, ◌+◌, ◌*◌, ◌≤◌, List, [], ◌∷◌, length}
use Rattle.rules.specs.Replay.{Record}
use Rattle.rules.specs.Text.{digits_of}
use Rattle.rules.specs.Policies.{policy_name}
use Rattle.rules.specs.Writer.{line_text}
use Rattle.rules.specs.Report.{space_byte, run_word, job_word, total_word, verdict_name, finish_field, demotion_field}
use Rattle.puts.specs.Laid.{Laid}
use Rattle.puts.specs.Fields.{fields_text, count_word}

-- ---- how many bytes are enough
-- a space and a number of at most ten digits
abbrev pub field_room : ℕ
field_room = 11

-- a space and the longest of the verdicts' words, ` missed`
abbrev pub verdict_room : ℕ
verdict_room = 7

-- verdict, finish, demotion time
abbrev pub outcome_room : ℕ
outcome_room = verdict_room + 2 * field_room

-- a job line: its word, three numbers, what its record says, a newline
abbrev pub job_room : ℕ
job_room = length job_word + 3 * field_room + outcome_room + 1

-- no printed line is longer than this
abbrev pub line_room : ℕ
line_room = 400

-- a text stands at the start of the lent bytes, and all else is as it was; its length n is returned, and is at most `room`
pub record Printed (room : ℕ) (text old new : List ℕ) (n : ℕ) : Type 0 where
  pub laid : Laid 0 text old new n
  pub short : n ≤ room

-- ---- a time that may be none: its digits, or `-`
abbrev pub time_field : Option ℕ → List ℕ
time_field None = 45 ∷ []
time_field (Some t) = digits_of t

-- ---- the lines
-- `run`: policy, processors, tasks, end
unfoldable pub run_text : ℕ → ℕ → ℕ → ℕ → List ℕ
run_text p m n e = line_text space_byte run_word (policy_name p ∷ digits_of m ∷ digits_of n ∷ digits_of e ∷ [])

-- the last three fields of a job line, each with its space in front: verdict, finish, demotion time
unfoldable pub outcome_fields : Record → List ℕ
outcome_fields r = fields_text space_byte (verdict_name r.verdict ∷ finish_field r.finish ∷ demotion_field r.demotion ∷ [])

-- `total`: releases, met, missed, open
unfoldable pub total_text : ℕ → ℕ → ℕ → ℕ → List ℕ
total_text n met missed open· = line_text space_byte total_word (digits_of n ∷ digits_of met ∷ digits_of missed ∷ digits_of open· ∷ [])

-- `count`: task, its free count
unfoldable pub count_line : ℕ → ℕ → List ℕ
count_line task count = line_text space_byte count_word (digits_of task ∷ digits_of count ∷ [])
