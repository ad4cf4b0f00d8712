-- What the reader keeps of a case while it reads the lines (rules, Reader): the case itself, but of its tasks and releases no more than
-- decides what is at fault. One task and one release more than may stand are enough for that.
use Rattle.std.specs.Prelude.{ℕ, ◌+◌, ◌*◌, ◌%◌, ◌≤◌, ◌≡◌, not, List, [], ◌∷◌, ◌++◌, eqb, length, take}
use Rattle.rules.specs.Words.{pick}
use Rattle.rules.specs.Limits.{max_tasks, max_releases, task_width, release_width}
use Rattle.rules.specs.Case.{Case, case_of}
use Rattle.rules.specs.Refusals.{unless, first}
use Rattle.rules.specs.Text.{newline_byte, has, line_of}
use Rattle.rules.specs.Reader.{line_says, Order, policy_when_absent}
use Rattle.rules.specs.declared.Fault.{Fault}
use Rattle.rules.specs.declared.Line.{Line}
use Rattle.rules.specs.declared.Line.TheVariants.{Bad, Procs, Policy, Row, End, Release}
use Rattle.lines.specs.declared.Head.{Head}
use Rattle.lines.specs.declared.HeadRead.{HeadRead}

-- room for one task, and for one release, more than a case may have
abbrev pub table_room : ℕ
table_room = (max_tasks + 1) * task_width

abbrev pub trace_room : ℕ
trace_room = (max_releases + 1) * release_width

-- as much of a case as there is room for
unfoldable pub clip : Case → Case
clip c = case_of c.procs c.policy (take table_room c.table) c.end (take trace_room c.trace)

-- what is at fault with line n, of kind k: 2 before 3
unfoldable pub line_fault : Order → ℕ → ℕ → ℕ → Fault
line_fault o before k n = first (unless (not (eqb k 0)) 2 n ∷ unless (o.follows before k) 3 n ∷ [])

-- what the first line of what is unread says
unfoldable pub next_says : List ℕ → Line
next_says s = pick (has newline_byte s) (line_says (line_of s)) Bad

abbrev pub head_of : ℕ → ℕ → ℕ → Head
head_of m p e = record { procs = m; policy = p; end = e }

-- the head before the first line
abbrev pub no_head : Head
no_head = head_of 0 policy_when_absent 0

-- no line read: line 1 is the next, at the start of the text
abbrev pub no_lines : HeadRead
no_lines = record { head = no_head; tasks = 0; before = 0; line = 1; next = 0 }

-- the head with what one more line says
abbrev pub head_with : Head → Line → Head
head_with h Bad = h
head_with h (Procs m) = head_of m h.policy h.end
head_with h (Policy p) = head_of h.procs p h.end
head_with h (Row T C D) = h
head_with h (End e) = head_of h.procs h.policy e
head_with h (Release t n) = h

-- the numbers that a line adds to the table, and to the trace
abbrev pub row_numbers : Line → List ℕ
row_numbers Bad = []
row_numbers (Procs m) = []
row_numbers (Policy p) = []
row_numbers (Row T C D) = T ∷ C ∷ D ∷ []
row_numbers (End e) = []
row_numbers (Release t n) = []

abbrev pub release_numbers : Line → List ℕ
release_numbers Bad = []
release_numbers (Procs m) = []
release_numbers (Policy p) = []
release_numbers (Row T C D) = []
release_numbers (End e) = []
release_numbers (Release t n) = t ∷ n ∷ []

-- the trace that some lines say
unfoldable pub trace_of : List Line → List ℕ
trace_of [] = []
trace_of (l ∷ ls) = release_numbers l ++ trace_of ls

-- a room of that size in which n numbers are kept, a whole number of tasks or releases
pub record Whole (room width n : ℕ) (xs : List ℕ) : Type 0 where
  pub long : length xs ≡ room
  pub within : n ≤ room
  pub even : n % width ≡ 0

-- the numbers are kept behind the n that are there, as far as there is room
pub record Added (room width n : ℕ) (new old : List ℕ) (n' : ℕ) (xs : List ℕ) : Type 0 where
  pub whole : Whole room width n' xs
  pub kept : take n' xs ≡ take room (take n old ++ new)

-- the case that is kept: a head, and so many of the numbers of each room
abbrev pub kept_case : Head → ℕ → List ℕ → ℕ → List ℕ → Case
kept_case h t table r trace = case_of h.procs h.policy (take t table) h.end (take r trace)
