-- The state of the reader between two lines, under any order of lines: the answer of the whole text is that of what is kept and what is
-- unread. One law for each way through a line: it is at fault, it is missing, it is read.
use Rattle.std.specs.Prelude.{Err}
use mathlib.Core.Path.{◌≡◌, refl, sym, ap, ◌∙◌}
use mathlib.Core.List.{List, [], ◌∷◌}
use Prim.Native.Nat.{ℕ, ◌+◌, ◌≤◌, ◌<◌}
use native.Mathlib.Numerals.{add-one}
use native.Mathlib.Omega.{arith}
use lib.ListN.{length, drop, length-drop, drop_of_length-le}
use Rattle.rules.specs.Case.{Case}
use Rattle.rules.specs.Text.{after_line}
use Rattle.rules.specs.Refusals.{unless, checked}
use Rattle.rules.specs.Reader.{kind_of, lines_of, Order, lines_fault, no_case, with_lines, case_with_default}
use Rattle.rules.specs.declared.Fault.{Fault}
use Rattle.rules.specs.declared.Line.{Line}
use Rattle.texts.specs.LinesOf.{lines_of-nil}
use Rattle.lines.specs.Held.{clip, line_fault, next_says}
use Rattle.lines.specs.Gathers.{Reading}
use Rattle.lines.proofs.Unread.{lines_next}
use Rattle.lines.proofs.Faults.{fault_here, fault_later, fault_stop}

-- no line is read
pub reading_none : (o : Order) (p : ℕ) (s : List ℕ) → Reading o p s (no_case p) 0 1 0
unfolding case_with_default
reading_none o p s = record { within = omega arith; counted = omega arith; fault = refl; kept = refl }

-- the lines that are unread, and those after the next
pub unread_lines : (s : List ℕ) (at : ℕ) → at < length s → lines_of (drop at s)
    ≡ next_says (drop at s) ∷ lines_of (after_line (drop at s))
unread_lines s at l = lines_next (drop at s) (omega (arith, length-drop at s))

pub unread_none : (s : List ℕ) (at : ℕ) → length s ≤ at → lines_of (drop at s) ≡ []
unread_none s at l = ap lines_of (drop_of_length-le s l) ∙ lines_of-nil

-- what is at fault with the next line is at fault with the lines that are unread
pub fault_next : (o : Order) (s : List ℕ) (b n at : ℕ) (f : Fault) → at < length s
    → checked (line_fault o b (kind_of (next_says (drop at s))) n) ≡ Err f
    → checked (lines_fault o b n (lines_of (drop at s))) ≡ Err f
fault_next o s b n at f l e =
    ap (λ (ls : List Line). checked (lines_fault o b n ls)) (unread_lines s at l) ∙
    fault_here o b n (next_says (drop at s)) (lines_of (after_line (drop at s))) f e

-- and where nothing is, the fault of those lines is that of the ones after it
pub fault_after : (o : Order) (s : List ℕ) (b n at at' : ℕ) → at < length s
    → (line_fault o b (kind_of (next_says (drop at s))) n).number ≡ 0 → drop at' s ≡ after_line (drop at s)
    → lines_fault o b n (lines_of (drop at s)) ≡ lines_fault o (kind_of (next_says (drop at s))) (n + 1) (lines_of (drop at' s))
fault_after o s b n at at' l q d =
    ap (lines_fault o b n) (unread_lines s at l) ∙
    fault_later o b n (next_says (drop at s)) (lines_of (after_line (drop at s))) q ∙
    rw (add-one n, d)

module _ (o : Order) (p : ℕ) (s : List ℕ) (c : Case) (b n at : ℕ) (w : Reading o p s c b n at) where
  -- the next line is at fault
  pub reading_stop : (f : Fault) → at < length s → checked (line_fault o b (kind_of (next_says (drop at s))) n) ≡ Err f
      → checked (lines_fault o 0 1 (lines_of s)) ≡ Err f
  reading_stop f l e = ap checked w.fault ∙ fault_next o s b n at f l e

  -- the next line is missing, or the text may stop here
  pub reading_end : length s ≤ at → lines_fault o 0 1 (lines_of s) ≡ unless (o.stops b) 3 n
  reading_end l = w.fault ∙ ap (lines_fault o b n) (unread_none s at l) ∙ fault_stop o b n

  -- the next line is read, and c' is what is kept with it
  pub reading_on : (c' : Case) (k at' : ℕ) → at < length s → kind_of (next_says (drop at s)) ≡ k
      → (line_fault o b (kind_of (next_says (drop at s))) n).number ≡ 0
      → drop at' s ≡ after_line (drop at s) → at < at' → at' ≤ length s
      → ((ls : List Line) → clip (with_lines c (next_says (drop at s) ∷ ls)) ≡ clip (with_lines c' ls))
      → Reading o p s c' k (n + 1) at'
  reading_on c' k at' l kind q d a i more =
      record {
        within = i;
        counted = omega (arith, w.counted);
        fault = w.fault ∙ fault_after o s b n at at' l q d
            ∙ ap (λ (x : ℕ). lines_fault o x (n + 1) (lines_of (drop at' s))) kind;
        kept =
            w.kept ∙ ap (λ (ls : List Line). clip (with_lines c ls)) (unread_lines s at l) ∙ more (lines_of (after_line (drop at s))) ∙
            ap (λ (u : List ℕ). clip (with_lines c' (lines_of u))) (sym d);
      }
