-- The printed lines: what stands in each field, how long each can be, and that they are the lines of the rules.
use mathlib.Core.Path.{◌≡◌, refl, sym, ap, ◌∙◌}
use mathlib.Core.Bool.{Bool, true, false, not}
use mathlib.Core.List.{List, [], ◌∷◌, ◌++◌, map, append-nil}
use Prim.Native.Nat.{ℕ, zero, suc, ◌+◌, ◌-◌, ◌≤◌}
use native.Mathlib.Omega.{arith}
use borrow.Author.Tests.{ne_eqb}
use lib.Dec.{eqb}
use lib.ListN.{length, length-append}
use Rattle.std.specs.Prelude.{Option, None, Some}
use Rattle.std.specs.Bool.{then_some}
use Rattle.std.specs.Option.{SomeIff}
use Rattle.rules.specs.Words.{pick}
use Rattle.rules.specs.Limits.{max_tasks}
use Rattle.rules.specs.Case.{Case, task_count, release_count}
use Rattle.rules.specs.Replay.{Record, met_jobs, missed_jobs, open_jobs}
use Rattle.rules.specs.Text.{newline_byte, digits_of}
use Rattle.rules.specs.Writer.{line_text, more_fields}
use Rattle.rules.specs.Report.{space_byte, job_word, met_word, missed_word, open_word, verdict_name, finish_field, demotion_field, run_line}
use Rattle.rules.specs.Report.{job_line}
use Rattle.rules.specs.Report.{total_line}
use Rattle.texts.specs.Digits.{at_most_ten}
use Rattle.puts.specs.Laid.{Laid}
use Rattle.puts.specs.Fields.{fields_text, number_fields, number_line, word_of}
use Rattle.puts.proofs.Chosen.{word_short}
use Rattle.puts.proofs.Lines.{line_length, numbers_room, fields_then}
use Rattle.prints.specs.Lines.{line_room, Printed, outcome_room, outcome_fields, time_field, run_text, total_text}

-- ---- the lines of a case by the numbers that stand in them
pub run_is : (c : Case) → run_line c ≡ run_text c.policy c.procs (task_count c.table) c.end
unfolding run_line run_text
run_is c = refl

pub total_is : (c : Case) → total_line c ≡ total_text (release_count c.trace) (met_jobs c) (missed_jobs c) (open_jobs c)
unfolding total_line total_text
total_is c = refl

-- ---- no line is too long: the longest is of a slot and every task
line_short : (b word : ℕ) (vs : List ℕ) → length vs ≤ max_tasks + 1 → length (number_line b word vs) ≤ line_room
line_short b word vs h =
    omega (arith, line_length b (word_of word) (map digits_of vs), word_short word, numbers_room b vs)

-- so it fits where a line has room, and is printed once it is laid
module _ (b word : ℕ) (vs : List ℕ) where
  pub line_within : {n : ℕ} → length vs ≤ max_tasks + 1 → line_room ≤ n → length (number_line b word vs) ≤ n
  line_within h r = omega (arith, line_short b word vs h)

  pub line_printed : {old new : List ℕ} {n : ℕ} → length vs ≤ max_tasks + 1 → Laid 0 (number_line b word vs) old new n
      → Printed line_room (number_line b word vs) old new n
  line_printed h p = record { laid = p; short = omega (arith, p.behind, line_short b word vs h) }

pub verdict_room_lem : (v : ℕ) → length (verdict_name v) ≤ 6
unfolding verdict_name
verdict_room_lem v = go (eqb v 1) (eqb v 2)
  where
    go : (a b : Bool) → length (pick a met_word (pick b missed_word open_word)) ≤ 6
    go true b = omega arith
    go false true = omega arith
    go false false = omega arith

finish_room : (f : ℕ) → length (finish_field f) ≤ 10
finish_room zero = omega arith
finish_room (suc f) = at_most_ten (suc f)

demotion_room : (d : ℕ) → length (demotion_field d) ≤ 10
demotion_room zero = omega arith
demotion_room (suc d) = at_most_ten d

pub time_room : (t : Option ℕ) → length (time_field t) ≤ 10
time_room None = omega arith
time_room (Some t) = at_most_ten t

pub outcome_room_lem : (r : Record) → length (outcome_fields r) ≤ outcome_room
unfolding outcome_fields fields_text
outcome_room_lem r =
    let v = verdict_name r.verdict in
    let f = finish_field r.finish in
    let d = demotion_field r.demotion in
    omega (
      arith,
      verdict_room_lem r.verdict,
      finish_room r.finish,
      demotion_room r.demotion,
      length-append v (fields_text space_byte (f ∷ d ∷ [])),
      length-append f (fields_text space_byte (d ∷ [])),
      length-append d (fields_text space_byte []),
    )

-- ---- the fields and lines put together as they are written
pub outcome_is : (r : Record)
    → outcome_fields r ≡ (space_byte ∷ verdict_name r.verdict)
    ++ ((space_byte ∷ finish_field r.finish) ++ (space_byte ∷ demotion_field r.demotion))
unfolding outcome_fields fields_text
outcome_is r = rw (append-nil (demotion_field r.demotion))

pub job_is : (time task due : ℕ) (r : Record)
    → job_line time task due r ≡ job_word ++ (number_fields space_byte (time ∷ task ∷ due ∷ [])
    ++ (outcome_fields r ++ (newline_byte ∷ [])))
unfolding job_line line_text more_fields outcome_fields
job_is time task due r =
    let numbers = map digits_of (time ∷ task ∷ due ∷ []) in
    let words = verdict_name r.verdict ∷ finish_field r.finish ∷ demotion_field r.demotion ∷ [] in
    ap (λ (l : List ℕ). job_word ++ l)
    (sym (fields_then space_byte numbers words) ∙ ap (λ (l : List ℕ). fields_text space_byte numbers ++ l)
    (sym (fields_then space_byte words [])))

-- ---- the times of a record, which has 0 for none and a demotion time as one more
pub finish_is : (f : ℕ) → time_field (then_some (not (eqb f 0)) f) ≡ finish_field f
finish_is zero = refl
finish_is (suc f) = rw (ne_eqb (suc f) 0 (λ e. omega arith))

pub demotion_is : (d : ℕ) (r : Option ℕ) → SomeIff r (1 ≤ d) (d - 1) → time_field r ≡ demotion_field d
demotion_is zero None h = refl
demotion_is zero (Some t) h = absurd (omega (arith, h.0))
demotion_is (suc d) None h = absurd (h (omega arith))
demotion_is (suc d) (Some t) h = ap digits_of (omega (arith, h.1))
