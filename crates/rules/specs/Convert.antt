-- The converter (request P6): an old text, in which no policy line meant EDF, as a text that says so, every other byte as it was; and the
-- converter's whole answer, with what its lent bytes hold at exit.
use Rattle.std.specs.Prelude.{ℕ, List, [], ◌∷◌, ◌++◌, length, drop}
use Rattle.rules.specs.Case.{Case}
use Rattle.rules.specs.Refusals.{first, room_fault}
use Rattle.rules.specs.Answers.{Answer, settled, kept}
use Rattle.rules.specs.Policies.{edf}
use Rattle.rules.specs.Reader.{case_with_default, length_fault, text_fault}
use Rattle.rules.specs.PolicyLine.{with_policy}
use Rattle.rules.specs.declared.Fault.{Fault}

-- ---- what an old text meant: without a policy line the policy was EDF. No other sentence uses the old default
abbrev pub old_policy_when_absent : ℕ
old_policy_when_absent = edf

unfoldable pub old_case_in : List ℕ → Case
old_case_in s = case_with_default old_policy_when_absent s

-- ---- the converted text: `policy`, tab, `edf`, bare newline after the `procs` line where the text has no policy line
unfoldable pub converted : List ℕ → List ℕ
converted s = with_policy edf s

-- ---- the converter's answer: all that the reader refuses but its room; 1 where the result would pass 60,000 bytes; 13 where it does not
-- fit; else the result's length
unfoldable pub convert_fault : List ℕ → ℕ → Fault
convert_fault s room = first (text_fault s ∷ length_fault (converted s) ∷ room_fault (length (converted s)) room ∷ [])

unfoldable pub convert_answer : List ℕ → List ℕ → Answer
convert_answer s room = settled (convert_fault s (length room)) (length (converted s) ∷ [])

-- its bytes: the result, and after it what they were
unfoldable pub convert_bytes : List ℕ → List ℕ → List ℕ
convert_bytes s room = kept (convert_fault s (length room)) (converted s ++ drop (length (converted s)) room) room
