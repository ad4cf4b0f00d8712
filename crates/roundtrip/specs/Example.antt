-- A small text without a policy line, computed: the reader accepts it, and what is written of it is the text with the policy line.
-- So the laws of the round trip speak of something, and `with_policy` puts the line where it belongs. The same text with returns before
-- some
-- of its newlines is the same case; with a return anywhere else it is refused.
use Rattle.std.specs.Prelude.{◌≡◌, refl, List, [], ◌∷◌, ◌++◌, ℕ}
use Rattle.rules.specs.Words.{sum, tab}
use Rattle.rules.specs.Case.{case_of}
use Rattle.rules.specs.Refusals.{no_fault, fault_of, or_next, first_of, procs_fault, policy_fault, table_fault, task_fault, end_fault}
use Rattle.rules.specs.Refusals.{trace_fault}
use Rattle.rules.specs.Refusals.{in_order, last_before, release_fault, absent_fault, case_fault}
use Rattle.rules.specs.Text.{same, up_to, past, has, line_return, line_of, without_returns, after_line, field_of, after_field, all_digits}
use Rattle.rules.specs.Text.{no_leading_zero, is_number, worth, lines_by, number_in, digits_in, digits_of, procs_word, policy_word}
use Rattle.rules.specs.Text.{task_word}
use Rattle.rules.specs.Text.{end_word, release_word}
use Rattle.rules.specs.Policies.{edf, edf_word, policy_name}
use Rattle.rules.specs.Reader.{one_number, two_numbers, three_numbers, word_kind, fields_say, line_says, lines_of, may_follow, may_stop}
use Rattle.rules.specs.Reader.{lines_fault, with_line, with_lines, case_with_default, case_in, length_fault, text_fault}
use Rattle.rules.specs.Writer.{joined_text, more_fields, line_text, procs_text, policy_text, task_text, end_text, release_text, case_text}
use Rattle.roundtrip.specs.RoundTrip.{policy_given, with_policy}

-- procs 1
abbrev first_line : List ℕ
first_line = procs_word ++ (9 ∷ 49 ∷ 10 ∷ [])

-- policy edf
abbrev policy_line : List ℕ
policy_line = policy_word ++ (9 ∷ (edf_word ++ (10 ∷ [])))

-- task 5 1 5, end 5, release 0 1
abbrev other_lines : List ℕ
other_lines = task_word ++ (9 ∷ 53 ∷ 9 ∷ 49 ∷ 9 ∷ 53 ∷ 10 ∷ (end_word
    ++ (9 ∷ 53 ∷ 10 ∷ (release_word ++ (9 ∷ 48 ∷ 9 ∷ 49 ∷ 10 ∷ [])))))

abbrev pub short_text : List ℕ
short_text = first_line ++ other_lines

abbrev pub full_text : List ℕ
full_text = first_line ++ (policy_line ++ other_lines)

pub short_accepted : text_fault short_text ≡ no_fault
unfolding same up_to past has line_return line_of after_line field_of after_field all_digits no_leading_zero is_number worth number_in
    one_number
    two_numbers three_numbers word_kind
    fields_say line_says lines_by lines_of may_follow may_stop lines_fault with_line with_lines case_with_default case_in length_fault
    text_fault or_next
    first_of procs_fault policy_fault
    table_fault task_fault end_fault trace_fault in_order last_before release_fault sum absent_fault case_fault
short_accepted = refl

pub short_case : case_in short_text ≡ case_of 1 edf (5 ∷ 1 ∷ 5 ∷ []) 5 (0 ∷ 1 ∷ [])
unfolding same up_to past has line_return line_of after_line field_of after_field all_digits no_leading_zero is_number worth number_in
    one_number
    two_numbers three_numbers word_kind
    fields_say line_says lines_by lines_of with_line with_lines case_with_default case_in
short_case = refl

pub short_written : case_text (case_of 1 edf (5 ∷ 1 ∷ 5 ∷ []) 5 (0 ∷ 1 ∷ [])) ≡ full_text
unfolding tab digits_in digits_of policy_name joined_text more_fields line_text procs_text policy_text task_text end_text release_text
    case_text
short_written = refl

pub policy_put_in : with_policy short_text ≡ full_text
unfolding same up_to past line_return line_of after_line field_of word_kind policy_name more_fields line_text policy_text policy_given
    with_policy
policy_put_in = refl

pub policy_kept : with_policy full_text ≡ full_text
unfolding same up_to past line_return line_of after_line field_of word_kind policy_given with_policy
policy_kept = refl

-- ---- returns
-- the same text: a return before the newlines of the first line and of the last, none before the others
abbrev pub returned_text : List ℕ
returned_text = procs_word ++ (9 ∷ 49 ∷ 13 ∷ 10 ∷ (task_word ++ (9 ∷ 53 ∷ 9 ∷ 49 ∷ 9 ∷ 53 ∷ 10 ∷ (end_word
    ++ (9 ∷ 53 ∷ 10 ∷ (release_word ++ (9 ∷ 48 ∷ 9 ∷ 49 ∷ 13 ∷ 10 ∷ [])))))))

pub returned_case : case_in returned_text ≡ case_in short_text
unfolding same up_to past has line_return line_of after_line field_of after_field all_digits no_leading_zero is_number worth number_in
    one_number
    two_numbers three_numbers word_kind fields_say line_says lines_by lines_of with_line with_lines case_with_default case_in
returned_case = refl

pub returns_gone : without_returns returned_text ≡ short_text
unfolding without_returns line_return
returns_gone = refl

-- the fault of a text whose first line is `procs`, a tab and then these bytes
abbrev procs_then : List ℕ → List ℕ
procs_then s = procs_word ++ (9 ∷ s)

pub record Computed : Type 0 where
  -- one return before the newline: the text is at fault only because it stops there
  pub one_return : text_fault (procs_then (49 ∷ 13 ∷ 10 ∷ [])) ≡ fault_of 3 2
  -- two of them, one within the field, one before the number, one that nothing follows
  pub elsewhere : (text_fault (procs_then (49 ∷ 13 ∷ 13 ∷ 10 ∷ [])) ≡ fault_of 2 1)
      × (text_fault (procs_then (49 ∷ 13 ∷ 48 ∷ 10 ∷ [])) ≡ fault_of 2 1)
      × (text_fault (procs_then (13 ∷ 49 ∷ 10 ∷ [])) ≡ fault_of 2 1)
      × (text_fault (procs_then (49 ∷ 13 ∷ [])) ≡ fault_of 2 1)
  -- a line of a return alone is the empty line; without its newline it is badly formed too, behind a whole text
  pub alone : (text_fault (13 ∷ 10 ∷ []) ≡ fault_of 2 1) × (text_fault (short_text ++ (13 ∷ [])) ≡ fault_of 2 5)

pub computed : Computed
unfolding same up_to past has line_return line_of after_line field_of after_field all_digits no_leading_zero is_number worth number_in
    one_number
    two_numbers three_numbers word_kind fields_say line_says lines_by lines_of may_follow may_stop lines_fault with_line with_lines
    case_with_default
    case_in length_fault text_fault or_next
computed = record { one_return = refl; elsewhere = (refl, refl, refl, refl); alone = (refl, refl) }
