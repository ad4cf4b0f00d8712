-- What the calls on an accepted case answer: no refusal but that of a slot beyond its end, and the values of the rules.
use mathlib.Core.Path.{◌≡◌, refl, sym, ap, ◌∙◌}
use mathlib.Core.Bool.{Bool, true, false}
use mathlib.Core.List.{List, [], ◌∷◌}
use Prim.Native.Nat.{ℕ, ◌≤◌}
use native.Mathlib.Omega.{arith}
use lib.Dec.{ltb}
use lib.ListN.{get_or}
use Rattle.rules.specs.Words.{pick}
use Rattle.rules.specs.declared.Fault.{Fault}
use Rattle.rules.specs.Limits.{max_tasks}
use Rattle.rules.specs.Case.{Case}
use Rattle.rules.specs.Refusals.{fault_of, no_fault, unless, slot_fault, case_fault, counts_tests, counts_fault}
use Rattle.rules.specs.Refusals.{running_fault, Accepted}
use Rattle.rules.specs.Answers.{Answer, refusal, result, settled}
use Rattle.rules.specs.Replay.{running_set}
use Rattle.rules.specs.Calls.{running_answer}
use Rattle.rules.specs.Writer.{write_fault}
use Rattle.rules.specs.Report.{refused_line}
use Rattle.legal.specs.Firsts.{unless_none, next_none}
use Rattle.legal.specs.Legal.{legal, case_passes}
use Rattle.legal.specs.Settled.{refuses, settled_clear, values_of, no_refusal, settled_result}
use Rattle.texts.specs.Passing.{row_passes, room_passes, next_last}
use Rattle.roundtrip.specs.CaseLines.{text_fits}
use Rattle.roundtrip.specs.CallTrip.{write_clear}
use Rattle.sets.specs.Sets.{running_line}
use Rattle.report.specs.Cases.{slot_text, refusal_text, print_room}

-- ---- answers
-- where nothing is at fault there is no refusal; the values of a result are those
pub never_refused : (f : Fault) (vs : List ℕ) (n p : ℕ) → f.number ≡ 0 → refusal n p ≡ settled f vs → ⊥
never_refused f vs n p e h = no_refusal n p vs (h ∙ settled_clear f vs e)

pub values_are : (f : Fault) (vs ws : List ℕ) → result ws ≡ settled f vs → ws ≡ vs
values_are f vs ws h = sym (settled_result f vs ws (sym h)).1

-- a refusal is that of its fault
abbrev fault_in : Answer → Fault
fault_in (refusal n p) = fault_of n p
fault_in (result vs) = no_fault

pub refused_by : (f : Fault) (vs : List ℕ) (n p : ℕ) → refusal n p ≡ settled f vs
    → (f.number ≡ 0 → ⊥) × (fault_of n p ≡ f)
refused_by f vs n p h =
    let some : f.number ≡ 0 → ⊥ = λ z. never_refused f vs n p z h in
    (some, ap fault_in (h ∙ sym (refuses f f refl vs some)))

-- ---- the rooms are long enough
pub write_fits : (c : Case) (room : ℕ) → Accepted c → print_room ≤ room → (write_fault c room).number ≡ 0
write_fits c room h p = write_clear c room h (omega (arith, text_fits c h, p))

pub counts_fits : (c : Case) → Accepted c → (counts_fault c.procs c.table max_tasks).number ≡ 0
unfolding counts_fault
counts_fits c h =
    let p = case_passes c h in
    row_passes (counts_tests c.procs c.table max_tasks)
    (p.by_procs, (p.by_table, (p.by_tasks, (room_passes _ _ (legal c h).tasks_few, tt))))

-- ---- the running set: refused where the slot is beyond the end
slot_fault_lem : (c : Case) (s : ℕ) → Accepted c → running_fault c s ≡ unless (ltb s c.end) 15 0
unfolding running_fault Accepted slot_fault
slot_fault_lem c s h = next_none (case_fault c) _ h ∙ next_last _ (unless_none (ltb s c.end) 15 0 (omega arith))

module _ (c : Case) (s : ℕ) (ok : Accepted c) where
  running_is : running_answer c s ≡ settled (unless (ltb s c.end) 15 0) (running_set c s ∷ [])
  unfolding running_answer
  running_is = ap (λ f. settled f (running_set c s ∷ [])) (slot_fault_lem c s ok)

  pub slot_refused : (n p : ℕ) → refusal n p ≡ running_answer c s → refused_line n p ≡ slot_text c s
  unfolding settled
  slot_refused n p h = go (ltb s c.end) (h ∙ running_is)
    where
      go : (b : Bool) → refusal n p ≡ settled (unless b 15 0) (running_set c s ∷ [])
          → refused_line n p ≡ pick b (running_line s (running_set c s)) (refused_line 15 0)
      go true e = absurd (no_refusal n p _ e)
      go false e = ap refusal_text e

  pub slot_ran : (set : ℕ) → result (set ∷ []) ≡ running_answer c s → running_line s set ≡ slot_text c s
  unfolding settled
  slot_ran set h = go (ltb s c.end) (h ∙ running_is)
    where
      go : (b : Bool) → result (set ∷ []) ≡ settled (unless b 15 0) (running_set c s ∷ [])
          → running_line s set ≡ pick b (running_line s (running_set c s)) (refused_line 15 0)
      go true e = ap (λ a. running_line s (get_or (values_of a) 0 0)) e
      go false e = absurd (no_refusal 15 0 _ (sym e))
