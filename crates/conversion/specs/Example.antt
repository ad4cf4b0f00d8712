-- A small old text, computed: no policy line, and a return before the newline of its first line and of its last. So the laws of the
-- converter speak of something: the line stands behind `procs` with a bare newline, the returns stay, and the text means EDF as it did.
use Rattle.std.specs.Prelude.{◌≡◌, refl, List, [], ◌∷◌, ◌++◌, ℕ}
use Rattle.rules.specs.Words.{sum}
use Rattle.rules.specs.Case.{case_of}
use Rattle.rules.specs.Refusals.{no_fault, fault_of, or_next, first_of, procs_fault, policy_fault, table_fault, task_fault, end_fault}
use Rattle.rules.specs.Refusals.{trace_fault}
use Rattle.rules.specs.Refusals.{in_order, last_before, release_fault, absent_fault, room_fault, case_fault}
use Rattle.rules.specs.Text.{same, up_to, past, has, line_return, line_of, after_line, field_of, after_field, all_digits, no_leading_zero}
use Rattle.rules.specs.Text.{is_number, worth, lines_by, number_in, procs_word, policy_word, task_word, end_word, release_word}
use Rattle.rules.specs.Policies.{edf, edf_word, policy_name, place_from, policy_of}
use Rattle.rules.specs.Reader.{one_number, two_numbers, three_numbers, policy_in, word_kind, fields_say, line_says, lines_of, may_follow}
use Rattle.rules.specs.Reader.{may_stop}
use Rattle.rules.specs.Reader.{lines_fault, with_line, with_lines, case_with_default, case_in, length_fault, text_fault}
use Rattle.rules.specs.Writer.{more_fields, line_text, policy_text}
use Rattle.rules.specs.PolicyLine.{policy_given, with_policy}
use Rattle.rules.specs.Convert.{old_case_in, converted, convert_fault}

-- task 5 1 5, end 5, release 0 1 with a return
abbrev other_lines : List ℕ
other_lines = task_word ++ (9 ∷ 53 ∷ 9 ∷ 49 ∷ 9 ∷ 53 ∷ 10 ∷ (end_word
    ++ (9 ∷ 53 ∷ 10 ∷ (release_word ++ (9 ∷ 48 ∷ 9 ∷ 49 ∷ 13 ∷ 10 ∷ [])))))

-- procs 1 with a return, and these
abbrev pub old_text : List ℕ
old_text = procs_word ++ (9 ∷ 49 ∷ 13 ∷ 10 ∷ other_lines)

-- the same with policy edf behind procs
abbrev pub new_text : List ℕ
new_text = procs_word ++ (9 ∷ 49 ∷ 13 ∷ 10 ∷ (policy_word ++ (9 ∷ (edf_word ++ (10 ∷ other_lines)))))

-- converted, and once more
pub put_in : converted old_text ≡ new_text
unfolding same up_to past line_return line_of after_line field_of word_kind policy_name more_fields line_text policy_text policy_given
    with_policy
    converted
put_in = refl

pub copied : converted new_text ≡ new_text
unfolding same up_to past line_return line_of after_line field_of word_kind policy_given with_policy converted
copied = refl

-- what the old text meant, what it means now, and what the converted one means
pub record Meant : Type 0 where
  pub before : old_case_in old_text ≡ case_of 1 edf (5 ∷ 1 ∷ 5 ∷ []) 5 (0 ∷ 1 ∷ [])
  pub now : case_in old_text ≡ case_of 1 edf (5 ∷ 1 ∷ 5 ∷ []) 5 (0 ∷ 1 ∷ [])
  pub after : case_in new_text ≡ case_of 1 edf (5 ∷ 1 ∷ 5 ∷ []) 5 (0 ∷ 1 ∷ [])

pub meant : Meant
unfolding same up_to past has line_return line_of after_line field_of after_field all_digits no_leading_zero is_number worth number_in
    one_number
    two_numbers three_numbers place_from policy_of policy_in word_kind fields_say line_says lines_by lines_of with_line with_lines
    case_with_default
    case_in old_case_in
meant = record { before = refl; now = refl; after = refl }

-- 50 bytes are room enough for it, and 49 are not
pub record Fits : Type 0 where
  pub room : convert_fault old_text 50 ≡ no_fault
  pub one_short : convert_fault old_text 49 ≡ fault_of 13 0

pub fits : Fits
unfolding same up_to past has line_return line_of after_line field_of after_field all_digits no_leading_zero is_number worth number_in
    one_number
    two_numbers three_numbers word_kind fields_say line_says lines_by lines_of may_follow may_stop lines_fault with_line with_lines
    case_with_default
    case_in length_fault text_fault or_next first_of procs_fault policy_fault table_fault task_fault end_fault trace_fault in_order
    last_before
    release_fault sum absent_fault case_fault policy_name more_fields line_text policy_text policy_given with_policy converted room_fault
    convert_fault
fits = record { room = refl; one_short = refl }
