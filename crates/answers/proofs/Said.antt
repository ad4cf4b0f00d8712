-- What is said of a text by the case that was read of it, or by what is at fault with it.
use Rattle.std.specs.Prelude.{Result, Ok, Err}
use mathlib.Core.Path.{◌≡◌, refl, sym, ◌∙◌}
use mathlib.Core.List.{List, []}
use Prim.Native.Nat.{ℕ}
use native.Mathlib.Omega.{arith}
use borrow.Author.Tests.{eq-eqb, ne_eqb}
use Rattle.rules.specs.declared.Fault.{Fault}
use Rattle.rules.specs.Case.{Case}
use Rattle.rules.specs.Refusals.{unless_fault}
use Rattle.rules.specs.Answers.{answer_as}
use Rattle.rules.specs.Reader.{case_in, case_values, text_fault}
use Rattle.legal.specs.Firsts.{clear_checked, given_clear, given_fault}
use Rattle.legal.specs.Settled.{checked_fault}
use Rattle.puts.proofs.Puts.{laid_none}
use Rattle.prints.specs.Lines.{line_room, Printed}
use Rattle.report.specs.Cases.{refusal_text, print_room}
use Rattle.report.proofs.Lines.{line_fits}
use Rattle.answers.specs.Prints.{case_says, text_says}
use Rattle.wishes.specs.declared.Wish.{Wish}

-- what is read of the text s, r, is told by its case
module _ (s : List ℕ) (r : Result Case Fault) (h : r ≡ unless_fault (text_fault s) (case_in s)) where
  pub case_shown : (w : Wish) (c : Case) → r ≡ Ok c → (old new : List ℕ) (k : ℕ) → Printed print_room (case_says w c) old new k
      → Printed print_room (text_says w s) old new k
  unfolding text_says
  case_shown w c e old new k p =
      let a = given_clear (text_fault s) (case_in s) c (sym h ∙ e) in
      rw (eq-eqb (text_fault s).number 0 (clear_checked _ a.0), a.1) p

  pub refusal_shown : (w : Wish) → ((c : Case) → r ≡ Ok c → ⊥) → (old new : List ℕ) (k : ℕ)
      → Printed line_room (refusal_text (answer_as case_values r)) old new k
      → Printed print_room (text_says w s) old new k
  unfolding text_says
  refusal_shown w none old new k = go r refl
    where
      go : (x : Result Case Fault) → r ≡ x → Printed line_room (refusal_text (answer_as case_values x)) old new k
          → Printed print_room (text_says w s) old new k
      go (Ok c) e p = absurd (none c e)
      go (Err f) e p =
          let a = checked_fault (text_fault s) f (given_fault (text_fault s) f (case_in s) (sym h ∙ e)) in
          rw (ne_eqb (text_fault s).number 0 a.1, ← a.0) (line_fits p)

-- ---- a wish by its case
pub wish_shown : (w v : Wish) (c : Case) (old new : List ℕ) (k : ℕ) → w ≡ v → Printed print_room (case_says v c) old new k
    → Printed print_room (case_says w c) old new k
wish_shown w v c old new k e q = rw e q

pub nothing_shown : (old : List ℕ) → Printed print_room [] old old 0
nothing_shown old = record { laid = laid_none 0 old; short = omega arith }
