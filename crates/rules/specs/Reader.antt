-- The reader (document 01, "The case text"): what each line says, the order of lines, the case of a text; and from "Refusals by number"
-- the refusals 1 to 3, their order, and the reader's whole answer with what its two lent rooms hold at exit.
use Rattle.std.specs.Prelude.{Option, Some, None}
use Rattle.std.specs.Prelude.{ℕ, suc, ◌*◌, List, [], ◌∷◌, ◌++◌, Bool, ◌&&◌, ◌||◌, not, eqb, leb, length, drop}
use Rattle.rules.specs.Words.{pick}
use Rattle.rules.specs.Limits.{max_tasks, max_releases, max_text, task_width, release_width}
use Rattle.rules.specs.Case.{Case, case_of, task_count, release_count}
use Rattle.rules.specs.Refusals.{unless, first, room_fault, case_fault}
use Rattle.rules.specs.Answers.{Answer, settled, kept}
use Rattle.rules.specs.Text.{same, lines_by, field_of, after_field, number_in, procs_word, policy_word, task_word, end_word, release_word}
use Rattle.rules.specs.Policies.{edf, policy_of}
use Rattle.rules.specs.declared.Fault.{Fault}
use Rattle.rules.specs.declared.Line.{Line}
use Rattle.rules.specs.declared.Line.TheVariants.{Bad, Procs, Policy, Row, End, Release}

-- ---- what a line says
-- a field that is a number, handed on; a line with one that is not is badly formed
abbrev pub with_number : Option ℕ → (ℕ → Line) → Line
with_number (Some v) say = say v
with_number None say = Bad

-- one number, two, three, parted by one tab each
unfoldable pub one_number : List ℕ → (ℕ → Line) → Line
one_number s say = with_number (number_in s) say

unfoldable pub two_numbers : List ℕ → (ℕ → ℕ → Line) → Line
two_numbers s say = with_number (number_in (field_of s)) (λ a. one_number (after_field s) (say a))

unfoldable pub three_numbers : List ℕ → (ℕ → ℕ → ℕ → Line) → Line
three_numbers s say = with_number (number_in (field_of s)) (λ a. two_numbers (after_field s) (say a))

-- a policy by its word
unfoldable pub policy_in : List ℕ → Line
policy_in s = with_number (policy_of s) Policy

-- the kinds of line, in their order: 1 procs, 2 policy, 3 task, 4 end, 5 release; 0 is none of them
unfoldable pub word_kind : List ℕ → ℕ
word_kind w =
    pick (same w procs_word) 1
    (pick (same w policy_word) 2
    (pick (same w task_word) 3
    (pick (same w end_word) 4
    (pick (same w release_word) 5 0))))

-- what the fields s of a line of that kind say
unfoldable pub fields_say : ℕ → List ℕ → Line
fields_say k s =
    pick (eqb k 1) (one_number s Procs)
    (pick (eqb k 2) (policy_in s)
    (pick (eqb k 3) (three_numbers s Row)
    (pick (eqb k 4) (one_number s End)
    (pick (eqb k 5) (two_numbers s Release) Bad))))

-- what a line says: one of these words with just its fields
unfoldable pub line_says : List ℕ → Line
line_says s = fields_say (word_kind (field_of s)) (after_field s)

-- the lines of a case text
unfoldable pub lines_of : List ℕ → List Line
lines_of s = lines_by line_says Bad (length s) s

-- ---- the order of lines
abbrev pub kind_of : Line → ℕ
kind_of Bad = 0
kind_of (Procs m) = 1
kind_of (Policy p) = 2
kind_of (Row T C D) = 3
kind_of (End e) = 4
kind_of (Release t n) = 5

-- whether a line of kind k may follow one of kind `before` (0 before the first): procs; at most one policy; one or more task; one end;
-- any number of release
unfoldable pub may_follow : ℕ → ℕ → Bool
may_follow before k =
    (eqb before 0 && eqb k 1) ||
    (eqb before 1 && eqb k 2) ||
    ((eqb before 1 || eqb before 2 || eqb before 3) && eqb k 3) ||
    (eqb before 3 && eqb k 4) ||
    ((eqb before 4 || eqb before 5) && eqb k 5)

-- whether a text may stop after a line of that kind
unfoldable pub may_stop : ℕ → Bool
may_stop before = eqb before 4 || eqb before 5

-- an order of lines: which kind may follow which, and after which a text may stop
pub record Order : Type 0 where
  pub follows : ℕ → ℕ → Bool
  pub stops : ℕ → Bool

-- the order of the lines of a case text
abbrev pub case_order : Order
case_order = record { follows = may_follow; stops = may_stop }

-- the smallest line at fault, line n being the next: 2, a line is badly formed; 3, a line stands out of order or is missing, at the
-- place where the next line stands or would stand
unfoldable pub lines_fault : Order → ℕ → ℕ → List Line → Fault
lines_fault o before n [] = unless (o.stops before) 3 n
lines_fault o before n (l ∷ ls) =
    first (unless (not (eqb (kind_of l) 0)) 2 n ∷ unless (o.follows before (kind_of l)) 3 n ∷ lines_fault o (kind_of l) (suc n) ls ∷ [])

-- ---- the case of a text
-- without a policy line the policy is EDF
abbrev pub policy_when_absent : ℕ
policy_when_absent = edf

-- the case before the first line, p being its policy until a line names one
abbrev pub no_case : ℕ → Case
no_case p = case_of 0 p [] 0 []

-- a case with what one more line says
unfoldable pub with_line : Case → Line → Case
with_line c Bad = c
with_line c (Procs m) = case_of m c.policy c.table c.end c.trace
with_line c (Policy p) = case_of c.procs p c.table c.end c.trace
with_line c (Row T C D) = case_of c.procs c.policy (c.table ++ (T ∷ C ∷ D ∷ [])) c.end c.trace
with_line c (End e) = case_of c.procs c.policy c.table e c.trace
with_line c (Release t n) = case_of c.procs c.policy c.table c.end (c.trace ++ (t ∷ n ∷ []))

unfoldable pub with_lines : Case → List Line → Case
with_lines c [] = c
with_lines c (l ∷ ls) = with_lines (with_line c l) ls

-- the case of a text, p being its policy where no line names one
unfoldable pub case_with_default : ℕ → List ℕ → Case
case_with_default p s = with_lines (no_case p) (lines_of s)

unfoldable pub case_in : List ℕ → Case
case_in s = case_with_default policy_when_absent s

-- ---- the reader's answer
-- 1: text over 60,000 bytes
unfoldable pub length_fault : List ℕ → Fault
length_fault s = unless (leb (length s) max_text) 1 0

-- what is at fault in a text, its room apart: 1; then the smallest line at fault; then the order on numbers
unfoldable pub text_fault : List ℕ → Fault
text_fault s = first (length_fault s ∷ lines_fault case_order 0 1 (lines_of s) ∷ case_fault (case_in s) ∷ [])

-- the reader first tests its room, for 96 task numbers and 4,000 release numbers
unfoldable pub read_fault : List ℕ → ℕ → ℕ → Fault
read_fault s tasks releases =
    first (room_fault (max_tasks * task_width) tasks ∷ room_fault (max_releases * release_width) releases ∷ text_fault s ∷ [])

-- processors, policy, end, and how many tasks and releases it read
unfoldable pub case_values : Case → List ℕ
case_values c = c.procs ∷ c.policy ∷ c.end ∷ task_count c.table ∷ release_count c.trace ∷ []

unfoldable pub read_answer : List ℕ → List ℕ → List ℕ → Answer
read_answer s tasks releases = settled (read_fault s (length tasks) (length releases)) (case_values (case_in s))

-- its rooms: the numbers of the case, and after them what they held
unfoldable pub read_tasks : List ℕ → List ℕ → List ℕ → List ℕ
read_tasks s tasks releases =
    kept (read_fault s (length tasks) (length releases)) ((case_in s).table ++ drop (length (case_in s).table) tasks) tasks

unfoldable pub read_releases : List ℕ → List ℕ → List ℕ → List ℕ
read_releases s tasks releases =
    kept (read_fault s (length tasks) (length releases)) ((case_in s).trace ++ drop (length (case_in s).trace) releases) releases
