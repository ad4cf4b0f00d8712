-- The writer (document 01, "The case text"): the bytes of each line and of a whole case, the policy line always among them; and the
-- writer's whole answer, with what its lent bytes hold at exit ("Refusals by number": it needs room for the exact text length).
use Rattle.std.specs.Prelude.{ℕ, List, [], ◌∷◌, ◌++◌, length, drop}
use Rattle.rules.specs.Words.{tab}
use Rattle.rules.specs.Case.{Case, task_count, period, execution, deadline, release_count, time_of, name_of}
use Rattle.rules.specs.Refusals.{first, room_fault, case_fault}
use Rattle.rules.specs.Answers.{Answer, settled, kept}
use Rattle.rules.specs.Text.{newline_byte, tab_byte, digits_of, procs_word, policy_word, task_word, end_word, release_word}
use Rattle.rules.specs.Policies.{policy_name}
use Rattle.rules.specs.declared.Fault.{Fault}

-- texts one after the other
unfoldable pub joined_text : List (List ℕ) → List ℕ
joined_text [] = []
joined_text (s ∷ ss) = s ++ joined_text ss

-- fields, each with the byte `between` in front
unfoldable pub more_fields : ℕ → List (List ℕ) → List ℕ
more_fields between [] = newline_byte ∷ []
more_fields between (s ∷ ss) = (between ∷ s) ++ more_fields between ss

-- a line: a word and its fields, parted by one byte, ended by a newline
unfoldable pub line_text : ℕ → List ℕ → List (List ℕ) → List ℕ
line_text between word fields = word ++ more_fields between fields

-- ---- the lines of a case
unfoldable pub procs_text : ℕ → List ℕ
procs_text m = line_text tab_byte procs_word (digits_of m ∷ [])

unfoldable pub policy_text : ℕ → List ℕ
policy_text p = line_text tab_byte policy_word (policy_name p ∷ [])

unfoldable pub task_text : List ℕ → ℕ → List ℕ
task_text ts i = line_text tab_byte task_word (digits_of (period ts i) ∷ digits_of (execution ts i) ∷ digits_of (deadline ts i) ∷ [])

unfoldable pub end_text : ℕ → List ℕ
end_text e = line_text tab_byte end_word (digits_of e ∷ [])

unfoldable pub release_text : List ℕ → ℕ → List ℕ
release_text rs j = line_text tab_byte release_word (digits_of (time_of rs j) ∷ digits_of (name_of rs j) ∷ [])

-- the text of a case; the policy line is always written
unfoldable pub case_text : Case → List ℕ
case_text c =
    procs_text c.procs ++
    (policy_text c.policy ++
    (joined_text (tab (task_text c.table) 0 (task_count c.table)) ++
    (end_text c.end ++ joined_text (tab (release_text c.trace) 0 (release_count c.trace)))))

-- ---- the writer's answer: all that the replay refuses, 13 where the exact text does not fit; else the text's length
unfoldable pub write_fault : Case → ℕ → Fault
write_fault c room = first (case_fault c ∷ room_fault (length (case_text c)) room ∷ [])

unfoldable pub write_answer : Case → List ℕ → Answer
write_answer c room = settled (write_fault c (length room)) (length (case_text c) ∷ [])

-- its bytes: the text, and after it what they were
unfoldable pub write_bytes : Case → List ℕ → List ℕ
write_bytes c room = kept (write_fault c (length room)) (case_text c ++ drop (length (case_text c)) room) room
