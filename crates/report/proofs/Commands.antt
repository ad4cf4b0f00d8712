-- What a command prints once the answer of the call that it rests on is known by its case.
use Rattle.std.specs.Prelude.{Result, Ok, Err}
use Rattle.rules.specs.declared.Fault.{Fault}
use mathlib.Core.Path.{◌≡◌, sym, ap, ◌∙◌}
use mathlib.Core.List.{List, [], ◌∷◌, ◌++◌}
use Prim.Native.Nat.{ℕ, ◌+◌, ◌≤◌, ◌<◌}
use native.Mathlib.Nat.{zero-add}
use native.Mathlib.Omega.{arith}
use lib.ListN.{length, get_or, drop, length-append}
use lib.Seq.{sets, sets-eq}
use Rattle.rules.specs.Limits.{max_tasks}
use Rattle.rules.specs.Case.{Case, task_count}
use Rattle.rules.specs.Counts.{free_count, free_counts}
use Rattle.rules.specs.Refusals.{counts_fault, Accepted}
use Rattle.rules.specs.Answers.{counted_as, running_as, written_as}
use Rattle.rules.specs.Calls.{counts_answer, counts_room, running_answer}
use Rattle.rules.specs.Writer.{joined_text, case_text, write_fault, write_answer, write_bytes}
use Rattle.rules.specs.Report.{refused_line}
use Rattle.lists.specs.Lists.{tab_long, tab_at, tab_front, tab_cong}
use Rattle.legal.specs.Settled.{kept_new}
use Rattle.roundtrip.specs.CaseLines.{text_fits}
use Rattle.prints.specs.Lines.{line_room, Printed}
use Rattle.sets.specs.Sets.{running_line}
use Rattle.report.specs.Cases.{lines_text, count_text, counts_text, slot_text, Listed, print_room}
use Rattle.report.proofs.Lines.{line_fits}
use Rattle.report.proofs.Answers.{never_refused, values_are, write_fits, slot_refused, slot_ran}

-- ---- the counts
module _ (m : ℕ) (ts room : List ℕ) (f : (counts_fault m ts (length room)).number ≡ 0) where
  module _ (x : Result ℕ Fault) (h : counted_as x ≡ counts_answer m ts room) where
    pub counts_accepts : (g : Fault) → x ≡ Err g → ⊥
    unfolding counts_answer
    counts_accepts g e = never_refused (counts_fault m ts (length room)) _ g.number g.place f (sym (ap counted_as e) ∙ h)

    pub counts_number : (n : ℕ) → x ≡ Ok n → n ≡ task_count ts
    unfolding counts_answer
    counts_number n e = ap (λ l. get_or l 0 0)
        (values_are (counts_fault m ts (length room)) (task_count ts ∷ []) (n ∷ []) (sym (ap counted_as e) ∙ h))

  module _ (out : List ℕ) (o : out ≡ counts_room m ts room) where
    counted : out ≡ free_counts m ts ++ drop (task_count ts) room
    unfolding counts_room
    counted = o ∙ kept_new (counts_fault m ts (length room)) _ _ f

    pub counts_long : task_count ts ≤ length out
    counts_long =
        omega (
          arith,
          ap length counted ∙ length-append (free_counts m ts) (drop (task_count ts) room),
          tab_long (free_count m ts) 0 (task_count ts),
        )

    counts_are : lines_text (count_text out) (task_count ts) ≡ lines_text (count_text (free_counts m ts)) (task_count ts)
    unfolding lines_text
    counts_are =
        ap joined_text
        (tab_cong (count_text out) (count_text (free_counts m ts)) 0 (task_count ts)
        (λ i p q.
        let g : i < task_count ts = omega (arith, q) in
        let e : get_or out i 0 ≡ get_or (free_counts m ts) i 0 =
        ap (λ l. get_or l i 0) counted ∙ tab_front (free_count m ts) (task_count ts) _ i 0 g
        ∙ sym (tab_at (free_count m ts) (task_count ts) i 0 g) in
        rw e))

    pub counts_shown : (n : ℕ) → n ≡ task_count ts → task_count ts ≤ max_tasks → (old new : List ℕ) (k : ℕ)
        → Listed (count_text out) line_room 0 n old new k
        → Printed print_room (counts_text m ts) old new k
    counts_shown n e few old new k p =
        let q : Listed (count_text out) line_room 0 (task_count ts) old new k = rw e at p in
        record { laid = rw counts_are at q.laid; short = omega (arith, q.short) }

-- ---- the running set
module _ (c : Case) (s : ℕ) (ok : Accepted c) (x : Result ℕ Fault) (h : running_as x ≡ running_answer c s) (old new : List ℕ) (k : ℕ) where
  pub slot_no : (g : Fault) → x ≡ Err g → Printed line_room (refused_line g.number g.place) old new k
      → Printed print_room (slot_text c s) old new k
  slot_no g e q =
      let l : refused_line g.number g.place ≡ slot_text c s = slot_refused c s ok g.number g.place (sym (ap running_as e) ∙ h) in
      rw l at (line_fits q)

  pub slot_yes : (set : ℕ) → x ≡ Ok set → Printed line_room (running_line s set) old new k
      → Printed print_room (slot_text c s) old new k
  slot_yes set e q =
      let l : running_line s set ≡ slot_text c s = slot_ran c s ok set (sym (ap running_as e) ∙ h) in
      rw l at (line_fits q)

-- ---- the writer
module _ (c : Case) (old : List ℕ) (ok : Accepted c) (room : print_room ≤ length old) (x : Result ℕ Fault)
    (h : written_as x ≡ write_answer c old) where
  pub write_accepts : (g : Fault) → x ≡ Err g → ⊥
  unfolding write_answer
  write_accepts g e =
      let fits = write_fits c (length old) ok room in
      never_refused (write_fault c (length old)) _ g.number g.place fits (sym (ap written_as e) ∙ h)

  pub text_shown : (k : ℕ) → x ≡ Ok k → (new : List ℕ) → new ≡ write_bytes c old
      → Printed print_room (case_text c) old new k
  unfolding write_answer write_bytes
  text_shown k e new o =
      let f = write_fits c (length old) ok room in
      let n : k ≡ length (case_text c) = ap (λ l. get_or l 0 0)
      (values_are (write_fault c (length old)) (length (case_text c) ∷ []) (k ∷ []) (sym (ap written_as e) ∙ h)) in
      let g : 0 + length (case_text c) ≤ length old = omega (arith, text_fits c ok, room) in
      let b : sets old 0 (case_text c) ≡ case_text c ++ drop (length (case_text c)) old =
      sets-eq (case_text c) old 0 g ∙ rw (zero-add (length (case_text c))) in
      record {
        laid = record { behind = omega (arith, n); bytes = o ∙ kept_new (write_fault c (length old)) _ _ f ∙ sym b };
        short = omega (arith, n, text_fits c ok);
      }
