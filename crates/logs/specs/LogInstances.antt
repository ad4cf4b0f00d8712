-- The log check computed: ties broken the other way, the state that follows the log, and each kind of damage with its number and place.
-- Each of the wrong versions that look right is told by one of these.
use Rattle.std.specs.Prelude.{◌≡◌, refl, List, [], ◌∷◌, ◌++◌, ℕ}
use Rattle.rules.specs.Words.{sum, holds_below, tab, map_from}
use Rattle.rules.specs.Case.{Case, case_of}
use Rattle.rules.specs.Counts.{availability, availabilities, count, free_count}
use Rattle.rules.specs.Policies.{edf, edf_cf}
use Rattle.rules.specs.Refusals.{or_next, first_of, procs_fault, policy_fault, table_fault, task_fault, end_fault, trace_fault, in_order}
use Rattle.rules.specs.Refusals.{last_before, release_fault, absent_fault, case_fault}
use Rattle.rules.specs.Answers.{Answer, refusal, result, settled}
use Rattle.rules.specs.Slot.{present, judged, joined, demoted, jobs_now, contention_free, lowered, opened, worked}
use Rattle.rules.specs.Replay.{released_in}
use Rattle.rules.specs.Text.{same, up_to, past, has, line_return, line_of, after_line, field_of, after_field, all_digits, no_leading_zero}
use Rattle.rules.specs.Text.{is_number, worth, lines_by, number_in, digits_in, digits_of}
use Rattle.rules.specs.Writer.{more_fields, line_text}
use Rattle.rules.specs.Log.{slot_word, fields_in, fields_of, with_numbers, slot_says, log_lines, rise_past, rising, well_formed}
use Rattle.rules.specs.Log.{keeps_rule, set_named, name_tasks, slot_stands, followed, sets_of, line_fault, lines_fault_in, log_fault}
use Rattle.rules.specs.Log.{log_answer}
use Rattle.rules.specs.Log.{slot_line_text}
use Rattle.theory.specs.Instances.{case_a, later_a}

-- m = 1, two tasks (4, 2, 4) released at 0: their deadlines are equal
abbrev tied : ℕ → Case
tied end = case_of 1 0 (4 ∷ 2 ∷ 4 ∷ 4 ∷ 2 ∷ 4 ∷ []) end (0 ∷ 1 ∷ 0 ∷ 2 ∷ [])

-- a line of a slot that runs one task, or two
abbrev one : ℕ → ℕ → List ℕ
one t n = slot_line_text t (n ∷ [])

abbrev two : ℕ → ℕ → ℕ → List ℕ
two t n k = slot_line_text t (n ∷ k ∷ [])

-- a line of other bytes
abbrev odd : List ℕ → List ℕ
odd s = slot_word ++ s

-- what the check answers of a log of set A under EDF-CF up to time 2
abbrev of_a : List ℕ → Answer
of_a s = log_answer (case_a edf_cf 2) s

pub record Computed : Type 0 where
  -- two equal deadlines: ours, and two logs that break the tie otherwise
  pub ties : (log_answer (tied 4) (one 0 1 ++ (one 1 1 ++ (one 2 2 ++ one 3 2))) ≡ result [])
      × (log_answer (tied 4) (one 0 2 ++ (one 1 2 ++ (one 2 1 ++ one 3 1))) ≡ result [])
      × (log_answer (tied 4) (one 0 2 ++ (one 1 1 ++ (one 2 2 ++ one 3 1))) ≡ result [])
  -- task 2 is finished at 2 in this log, and task 1 is not: our own replay would have it the other way
  pub follows : (log_answer (tied 3) (one 0 2 ++ (one 1 2 ++ one 2 2)) ≡ refusal 18 3)
      × (log_answer (tied 3) (one 0 2 ++ (one 1 2 ++ one 2 1)) ≡ result [])
  -- EDF-CF runs 2 and 3 at 0: task 1 is demoted, and may not run before task 3. EDF runs 1 and 2: task 1 may not wait for task 3,
  -- though it comes after task 2. Fewer than min(m, N) are too few
  pub kinds : (of_a (two 0 2 3 ++ two 1 1 3) ≡ result [])
      × (of_a (two 0 1 2 ++ two 1 1 3) ≡ refusal 18 1)
      × (log_answer (case_a edf 2) (two 0 2 3 ++ two 1 1 3) ≡ refusal 18 1)
      × (log_answer (case_a edf 2) (two 0 1 2 ++ one 1 3) ≡ result [])
      × (of_a (one 0 2 ++ two 1 1 3) ≡ refusal 18 1)
      × (of_a (two 0 2 3 ++ one 1 3) ≡ refusal 18 2)
  -- a free count larger than what is left demotes: task 1 may not run before task 3, though both are due at 5
  pub larger : (log_answer (later_a edf_cf 2) (two 0 2 3 ++ two 1 1 3) ≡ result [])
      × (log_answer (later_a edf_cf 2) (two 0 1 2 ++ one 1 3) ≡ refusal 18 1)
      × (log_answer (later_a edf 2) (two 0 1 2 ++ one 1 3) ≡ result [])
  -- 18: task 0, a task beyond the table, one beyond 32, a task without a present job
  pub names : (of_a (two 0 0 3) ≡ refusal 18 1)
      × (of_a (two 0 2 4) ≡ refusal 18 1)
      × (of_a (two 0 2 33) ≡ refusal 18 1)
      × (of_a (two 0 2 3 ++ two 1 2 3) ≡ refusal 18 2)
  -- 17: tasks that do not rise, one named twice, another time, no time; it comes before 18 on one line
  pub order : (of_a (two 0 3 2) ≡ refusal 17 1)
      × (of_a (two 0 2 2) ≡ refusal 17 1)
      × (of_a (two 0 2 3 ++ two 2 1 3) ≡ refusal 17 2)
      × (of_a (odd (10 ∷ [])) ≡ refusal 17 1)
  -- 17: a tab too much, a leading zero, ten digits, another word, an empty line, no newline
  pub forms : (of_a (odd (9 ∷ 48 ∷ 9 ∷ 50 ∷ 9 ∷ 51 ∷ 9 ∷ 10 ∷ [])) ≡ refusal 17 1)
      × (of_a (odd (9 ∷ 48 ∷ 9 ∷ 48 ∷ 50 ∷ 10 ∷ [])) ≡ refusal 17 1)
      × (of_a (odd (9 ∷ 48 ∷ 9 ∷ 49 ∷ 49 ∷ 49 ∷ 49 ∷ 49 ∷ 49 ∷ 49 ∷ 49 ∷ 49 ∷ 49 ∷ 10 ∷ [])) ≡ refusal 17 1)
      × (of_a (115 ∷ odd (9 ∷ 48 ∷ 10 ∷ [])) ≡ refusal 17 1)
      × (of_a (two 0 2 3 ++ (10 ∷ [])) ≡ refusal 17 2)
      × (of_a (two 0 2 3 ++ odd (9 ∷ 49 ∷ [])) ≡ refusal 17 2)
  -- one return before a newline goes, in some lines or in all; a return alone is the empty line
  pub returns : (of_a (two 0 2 3 ++ odd (9 ∷ 49 ∷ 9 ∷ 49 ∷ 9 ∷ 51 ∷ 13 ∷ 10 ∷ [])) ≡ result [])
      × (of_a (odd (9 ∷ 48 ∷ 13 ∷ 10 ∷ [])) ≡ refusal 18 1)
      × (of_a (two 0 2 3 ++ (13 ∷ 10 ∷ [])) ≡ refusal 17 2)
  -- 17: two of them, one within a field, one before a field, one behind the word, one that no newline follows, alone or behind a line
  pub returns_elsewhere : (of_a (odd (9 ∷ 48 ∷ 9 ∷ 50 ∷ 9 ∷ 51 ∷ 13 ∷ 13 ∷ 10 ∷ [])) ≡ refusal 17 1)
      × (of_a (odd (9 ∷ 48 ∷ 9 ∷ 50 ∷ 9 ∷ 51 ∷ 13 ∷ 51 ∷ 10 ∷ [])) ≡ refusal 17 1)
      × (of_a (odd (9 ∷ 48 ∷ 9 ∷ 13 ∷ 50 ∷ 9 ∷ 51 ∷ 10 ∷ [])) ≡ refusal 17 1)
      × (of_a (odd (13 ∷ 9 ∷ 48 ∷ 9 ∷ 50 ∷ 9 ∷ 51 ∷ 10 ∷ [])) ≡ refusal 17 1)
      × (of_a (two 0 2 3 ++ (two 1 1 3 ++ (13 ∷ []))) ≡ refusal 17 3)
      × (of_a (two 0 2 3 ++ odd (9 ∷ 49 ∷ 9 ∷ 49 ∷ 9 ∷ 51 ∷ 13 ∷ [])) ≡ refusal 17 2)
  -- lines at and past the end are read for their form alone: then 19; but a later line badly formed comes before 19. Too few lines are
  -- 19 too; what the replay refuses comes first
  pub past_end : (of_a (two 0 2 3 ++ (two 1 1 3 ++ one 2 9)) ≡ refusal 19 0)
      × (of_a (two 0 2 3 ++ (two 1 1 3 ++ (one 2 9 ++ one 4 9))) ≡ refusal 17 4)
      × (of_a (two 0 2 3) ≡ refusal 19 0)
      × (of_a [] ≡ refusal 19 0)
      × (log_answer (case_of 1 edf (4 ∷ 2 ∷ 4 ∷ []) 0 []) [] ≡ refusal 16 1)
      × (log_answer (case_of 0 edf [] 0 []) (10 ∷ []) ≡ refusal 4 0)

pub computed : Computed
unfolding log_answer settled log_fault case_fault or_next first_of procs_fault policy_fault table_fault task_fault end_fault trace_fault
    in_order
    last_before release_fault absent_fault lines_fault_in line_fault log_lines lines_by slot_says fields_of fields_in with_numbers same
    up_to past
    has line_return line_of after_line field_of after_field all_digits no_leading_zero is_number worth number_in well_formed rising
    rise_past slot_stands
    name_tasks set_named keeps_rule holds_below followed sets_of sum tab map_from availability availabilities count free_count present
    judged
    joined demoted jobs_now contention_free lowered opened worked released_in slot_line_text line_text more_fields digits_of digits_in
computed = record {
  ties = (refl, refl, refl);
  follows = (refl, refl);
  kinds = (refl, refl, refl, refl, refl, refl);
  larger = (refl, refl, refl);
  names = (refl, refl, refl, refl);
  order = (refl, refl, refl, refl);
  forms = (refl, refl, refl, refl, refl, refl);
  returns = (refl, refl, refl);
  returns_elsewhere = (refl, refl, refl, refl, refl, refl);
  past_end = (refl, refl, refl, refl, refl, refl);
}
