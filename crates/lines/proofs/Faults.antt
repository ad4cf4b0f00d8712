-- Laws of `lines_fault`, under any order of lines: what is at fault with the next line is the answer, and else what is at fault with
-- those after it.
use Rattle.std.specs.Prelude.{Err}
use mathlib.Core.Path.{◌≡◌, refl, sym, ap, ◌∙◌}
use mathlib.Core.Bool.{true}
use mathlib.Core.List.{List, [], ◌∷◌, ◌++◌}
use Prim.Native.Nat.{ℕ, suc}
use native.Mathlib.Omega.{arith}
use Rattle.rules.specs.declared.Fault.{Fault}
use Rattle.rules.specs.Refusals.{no_fault, unless, checked}
use Rattle.rules.specs.Reader.{kind_of, Order, lines_fault}
use Rattle.rules.specs.declared.Line.{Line}
use Rattle.legal.specs.Firsts.{unless_none, next_none, row_clear, row_none, row_join, checked_stop}
use Rattle.texts.specs.Passing.{next_last, line_tests, line_clear}
use Rattle.kinds.specs.Says.{Opens}
use Rattle.lines.specs.Held.{line_fault}

module _ (o : Order) where
  -- where no line is at fault the place is 0
  lines_none : (b n : ℕ) (ls : List Line) → (lines_fault o b n ls).number ≡ 0 → lines_fault o b n ls ≡ no_fault
  unfolding lines_fault
  lines_none b n [] e = unless_none (o.stops b) 3 n (omega arith) e
  lines_none b n (l ∷ ls) e =
      let tests = line_tests o b (kind_of l) n ++ (lines_fault o (kind_of l) (suc n) ls ∷ []) in
      row_none tests (row_clear tests e)

  pub fault_here : (b n : ℕ) (l : Line) (ls : List Line) (f : Fault) → checked (line_fault o b (kind_of l) n) ≡ Err f
      → checked (lines_fault o b n (l ∷ ls)) ≡ Err f
  unfolding line_fault lines_fault
  fault_here b n l ls f e =
      ap checked (sym (row_join (line_tests o b (kind_of l) n) (lines_fault o (kind_of l) (suc n) ls ∷ []))) ∙ checked_stop _ _ f e

  pub fault_later : (b n : ℕ) (l : Line) (ls : List Line) → (line_fault o b (kind_of l) n).number ≡ 0
      → lines_fault o b n (l ∷ ls) ≡ lines_fault o (kind_of l) (suc n) ls
  unfolding line_fault lines_fault
  fault_later b n l ls e =
      sym (row_join (line_tests o b (kind_of l) n) (lines_fault o (kind_of l) (suc n) ls ∷ [])) ∙ next_none _ _ e ∙
      next_last _ (lines_none (kind_of l) (suc n) ls)

  pub fault_stop : (b n : ℕ) → lines_fault o b n [] ≡ unless (o.stops b) 3 n
  unfolding lines_fault
  fault_stop b n = refl

  -- a line with nothing at fault is of the kind that its word opens, which may follow
  pub line_follows : (b k n : ℕ) (l : Line) → Opens k l → (line_fault o b (kind_of l) n).number ≡ 0
      → (kind_of l ≡ k) × (o.follows b (kind_of l) ≡ true)
  unfolding line_fault
  line_follows b k n l h e =
      let w = line_clear o b (kind_of l) n (row_clear (line_tests o b (kind_of l) n) e) in
      (h w.said, w.follows)
