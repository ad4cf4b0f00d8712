-- When the check finds nothing at fault (`log_fault` of rules, Log): the case is accepted, there are `end` lines, each is well formed and
-- each keeps the rule of its slot; and the other way. For Exact.
use Rattle.std.specs.Prelude.{◌≡◌, refl, Bool, ◌||◌, List, [], ℕ, zero, suc, ◌<◌, eqb, leb}
use Rattle.std.proofs.Common.{ap, ◌∙◌, arith}
use Rattle.std.proofs.Math.Bool.{true}
use Rattle.std.proofs.Math.ListN.{length}
use borrow.Author.Tests.{eqb-true, eq-eqb, lt-leb}
use Rattle.rules.specs.declared.Fault.{Fault}
use Rattle.rules.specs.Case.{Case}
use Rattle.rules.specs.Refusals.{no_fault, unless, or_next, first_of, case_fault, Accepted}
use Rattle.rules.specs.Replay.{setup_in}
use Rattle.rules.specs.Answers.{result}
use Rattle.rules.specs.Log.{LogLine, well_formed, slot_stands, opened_by, line_at, tasks_of, sets_of, line_fault, lines_fault_in, log_lines}
use Rattle.rules.specs.Log.{log_fault, log_answer, LogAccepted}
use Rattle.legal.specs.Firsts.{unless_clear, next_clear, first_of_clear}
use Rattle.legal.specs.Firsts.{next_none}
use Rattle.legal.specs.Settled.{settled_clear, result_clear}

-- what the lines of an accepted log are
pub record Lined (c : Case) (ls : List LogLine) : Type 0 where
  pub long : length ls ≡ c.end
  pub formed : (n : ℕ) → n < c.end → well_formed n (line_at ls n) ≡ true
  pub stands : (n : ℕ) → n < c.end → slot_stands (setup_in c) n (opened_by c (sets_of ls) n) (tasks_of (line_at ls n)) ≡ true

both_clear : (f g : Fault) → f.number ≡ 0 → g.number ≡ 0 → (or_next f g).number ≡ 0
both_clear f g p q = ap (λ (x : Fault). x.number) (next_none f g p) ∙ q

first_of_none : (f : ℕ → Fault) (n : ℕ) → ((j : ℕ) → j < n → (f j).number ≡ 0) → (first_of f n).number ≡ 0
unfolding first_of
first_of_none f zero h = refl
first_of_none f (suc n) h = both_clear (first_of f n) (f n) (first_of_none f n (λ j x. h j (omega arith))) (h n (omega arith))

module _ (c : Case) (ls : List LogLine) where
  abbrev keeps : ℕ → Bool
  keeps n = slot_stands (setup_in c) n (opened_by c (sets_of ls) n) (tasks_of (line_at ls n))

  line_clear : (n : ℕ) → (line_fault c ls n).number ≡ 0 → (well_formed n (line_at ls n) ≡ true)
      × ((leb c.end n || keeps n) ≡ true)
  unfolding line_fault
  line_clear n e =
      let x = next_clear (unless (well_formed n (line_at ls n)) 17 (suc n)) _ e in
      let y = next_clear (unless (leb c.end n || keeps n) 18 (suc n)) _ x.1 in (
        unless_clear (well_formed n (line_at ls n)) 17 (suc n) (omega arith) x.0,
        unless_clear (leb c.end n || keeps n) 18 (suc n)
            (omega arith) y.0,
      )

  clear_line : (n : ℕ) → well_formed n (line_at ls n) ≡ true → keeps n ≡ true → n < c.end → (line_fault c ls n).number ≡ 0
  unfolding line_fault
  clear_line n p q h =
      let z : (leb c.end n || keeps n) ≡ true = rw (lt-leb c.end n h) q in
      both_clear (unless (well_formed n (line_at ls n)) 17 (suc n)) _ (rw p)
      (both_clear (unless (leb c.end n || keeps n) 18 (suc n)) no_fault (rw z) refl)

  pub clear_lined : (lines_fault_in c ls).number ≡ 0 → Lined c ls
  unfolding lines_fault_in
  clear_lined e =
      let x = next_clear (first_of (line_fault c ls) (length ls)) _ e in
      let y = next_clear (unless (eqb (length ls) c.end) 19 0) no_fault x.1 in
      let long : length ls ≡ c.end = eqb-true _ _ (unless_clear (eqb (length ls) c.end) 19 0 (omega arith) y.0) in
      let each : (n : ℕ) → n < c.end → (well_formed n (line_at ls n) ≡ true) × ((leb c.end n || keeps n) ≡ true) =
      λ n h. line_clear n (first_of_clear (line_fault c ls) (length ls) x.0 n (omega (arith, long)))
      in
      record {
        long = long;
        formed = λ n h. (each n h).0;
        stands = λ n h. rw (lt-leb c.end n h) at (each n h).1;
      }

  pub lined_clear : Lined c ls → (lines_fault_in c ls).number ≡ 0
  unfolding lines_fault_in
  lined_clear l =
      both_clear (first_of (line_fault c ls) (length ls)) _
      (first_of_none (line_fault c ls) (length ls)
      (λ n h. clear_line n (l.formed n (omega (arith, l.long))) (l.stands n (omega (arith, l.long))) (omega (arith, l.long))))
      (both_clear (unless (eqb (length ls) c.end) 19 0) no_fault (rw (eq-eqb (length ls) c.end l.long)) refl)

-- an accepted log: the case is accepted and the lines are as they should be
pub accepted_lined : (c : Case) (s : List ℕ) → LogAccepted c s → Accepted c × Lined c (log_lines s)
unfolding LogAccepted log_fault Accepted
accepted_lined c s e =
    let x = next_clear (case_fault c) _ e in
    let y = next_clear (lines_fault_in c (log_lines s)) no_fault x.1 in
    (x.0, clear_lined c (log_lines s) y.0)

pub lined_accepted : (c : Case) (s : List ℕ) → Accepted c → Lined c (log_lines s) → LogAccepted c s
unfolding LogAccepted log_fault Accepted
lined_accepted c s ok l = both_clear (case_fault c) _ ok
    (both_clear (lines_fault_in c (log_lines s)) no_fault (lined_clear c (log_lines s) l) refl)

-- accepted is what the call says, with no further result
pub accepted_answer : (c : Case) (s : List ℕ) → LogAccepted c s → log_answer c s ≡ result []
unfolding log_answer LogAccepted
accepted_answer c s e = settled_clear (log_fault c s) [] e

pub answer_accepted : (c : Case) (s : List ℕ) (vs : List ℕ) → log_answer c s ≡ result vs → LogAccepted c s
unfolding log_answer LogAccepted
answer_accepted c s vs e = result_clear (log_fault c s) [] vs e
