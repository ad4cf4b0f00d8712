-- The tasks of a set that is a number, and the line that names them, which stands beside document 01's own lines: the running set of a
-- slot. The line of a slot log is `slot_line_text` of rules, Log.
use Rattle.std.specs.Prelude.{ℕ, zero, suc, ◌/◌, ◌%◌, List, [], ◌∷◌, ◌++◌, map, eqb}
use Rattle.rules.specs.Words.{pick}
use Rattle.rules.specs.Limits.{max_tasks}
use Rattle.rules.specs.Text.{digits_of}
use Rattle.rules.specs.Writer.{line_text}
use Rattle.rules.specs.Report.{space_byte}
use Rattle.puts.specs.Fields.{running_word}

-- a number without its i lowest bits
unfoldable pub halved : ℕ → ℕ → ℕ
halved zero s = s
halved (suc i) s = halved i s / 2

-- bit (task − 1) says whether the task is in the set; the task at i has the number i + 1
abbrev pub member_at : ℕ → ℕ → List ℕ
member_at s i = pick (eqb (halved i s % 2) 1) (suc i ∷ []) []

-- which of the first n tasks are in the set, in rising order
unfoldable pub members_of : ℕ → ℕ → List ℕ
members_of s zero = []
members_of s (suc n) = members_of s n ++ member_at s n

-- `running`: slot, the tasks that run in it in rising order
unfoldable pub running_line : ℕ → ℕ → List ℕ
running_line slot set = line_text space_byte running_word (map digits_of (slot ∷ members_of set max_tasks))
