-- The parts of the reader (document 01, "Refusals by number"): the test of its rooms, which it makes first; the case of a text, read into
-- rooms of its own; and that case, put into the lent rooms. Together they are `read_fault` and `ReadPromise` of rules.
use Rattle.std.specs.Prelude.{ℕ, ◌*◌, ◌≡◌, List, [], ◌∷◌, ◌++◌, length, drop, Result}
use Rattle.rules.specs.Limits.{max_tasks, max_releases, task_width, release_width}
use Rattle.rules.specs.Case.{Case}
use Rattle.rules.specs.Refusals.{first, room_fault}
use Rattle.rules.specs.Answers.{taken_values}
use Rattle.rules.specs.Reader.{text_fault, case_in, case_values}
use Rattle.rules.specs.declared.Fault.{Fault}
use Rattle.rules.specs.declared.Taken.{Taken}
use Rattle.lines.specs.declared.Gathered.{Gathered}
use Rattle.lines.specs.Gathers.{Told}
use Rattle.lines.specs.Held.{table_room, trace_room, Whole, kept_case}

-- what is at fault with the lent rooms
abbrev pub rooms_tests : ℕ → ℕ → List Fault
rooms_tests tasks releases = room_fault (max_tasks * task_width) tasks ∷ room_fault (max_releases * release_width) releases ∷ []

unfoldable pub rooms_fault : ℕ → ℕ → Fault
rooms_fault tasks releases = first (rooms_tests tasks releases)

-- the case of a text is read: nothing is at fault with the text, and the numbers of its case stand at the front of the two rooms
pub record CaseRead (s : List ℕ) (g : Gathered) (table trace : List ℕ) : Type 0 where
  pub clear : (text_fault s).number ≡ 0
  pub case : case_in s ≡ kept_case g.head g.tasks table g.releases trace
  pub tasks : Whole table_room task_width g.tasks table
  pub releases : Whole trace_room release_width g.releases trace

-- or the fault of the text is told; the rooms keep their lengths
pub record ReadsCase (s : List ℕ) (r : Result Gathered Fault) (table trace : List ℕ) : Type 0 where
  pub told : Told (text_fault s) (λ g. CaseRead s g table trace) r
  pub table_long : length table ≡ table_room
  pub trace_long : length trace ≡ trace_room

-- the numbers of a case are put to the front of the lent rooms, and those after them stay
pub record PutsCase (c : Case) (tasks releases : List ℕ) (r : Taken) (tasks-later releases-later : List ℕ) : Type 0 where
  pub answer : taken_values r ≡ case_values c
  pub left_tasks : tasks-later ≡ c.table ++ drop (length c.table) tasks
  pub left_releases : releases-later ≡ c.trace ++ drop (length c.trace) releases
