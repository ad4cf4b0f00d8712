-- Laws of what `keep_row` and `keep_release` store: numbers behind those that are kept.
use mathlib.Core.Path.{◌≡◌, refl, sym, ap, ◌∙◌}
use mathlib.Core.List.{List, [], ◌∷◌, ◌++◌, append-nil}
use Prim.Native.Nat.{ℕ, suc, ◌+◌, ◌%◌, ◌≤◌}
use native.Mathlib.Numerals.{add-one}
use native.Mathlib.Omega.{arith}
use lib.ListN.{length, take, drop, set, length-append, length-take}
use lib.Seq.{take_all, take_at, take-append-le, length-take-le, sets, sets-eq, length-sets}
use Rattle.rules.specs.Reader.{kind_of}
use Rattle.rules.specs.declared.Line.{Line}
use Rattle.rules.specs.declared.Line.TheVariants.{Bad, Procs, Policy, Row, End, Release}
use Rattle.lines.specs.Held.{row_numbers, release_numbers, Whole, Added}

module _ (room width n : ℕ) (old : List ℕ) (w : Whole room width n old) where
  -- the line adds nothing
  pub adds_none : (new : List ℕ) → new ≡ [] → Added room width n new old n old
  adds_none new e =
      record {
        whole = w;
        kept = rw (e, append-nil) (sym (take_all room (take n old) (omega (arith, length-take n old, w.within))));
      }

  -- there is no room left
  pub adds_past : (new : List ℕ) → n ≡ room → Added room width n new old n old
  adds_past new e =
      let k : length (take n old) ≡ n = length-take-le n old (omega (arith, w.long, w.within)) in
      let z : room ≤ length (take n old) = omega arith in
      record {
        whole = w;
        kept =
            sym (take-append-le room (take n old) new z ∙ take_all room (take n old) (omega arith));
      }

  -- the numbers are stored behind those that are kept
  pub adds_some : (new xs : List ℕ) (n' : ℕ) → n' ≡ n + length new → n' ≤ room → n' % width ≡ 0
      → xs ≡ sets old n new
      → Added room width n new old n' xs
  adds_some new xs n' e l m q =
      let k : length (take n old) ≡ n = length-take-le n old (omega (arith, w.long, w.within)) in
      let j : length (take n old ++ new) ≡ n' = length-append (take n old) new ∙ omega arith in
      record {
        whole = record { long = ap length q ∙ length-sets old n new ∙ w.long; within = l; even = m };
        kept =
            ap (take n') (q ∙ sets-eq new old n (omega (arith, w.long))) ∙
            take_at (take n old ++ new) (drop (n + length new) old) n' j ∙
            sym (take_all room (take n old ++ new) (omega arith));
      }

  -- a task's three numbers, and a release's two
  pub adds_three : (new : List ℕ) (a b d : ℕ) → new ≡ a ∷ b ∷ d ∷ [] → n + 3 ≤ room → (n + 3) % width ≡ 0
      → Added room width n new old (n + 3) (set (set (set old n a) (n + 1) b) (n + 2) d)
  adds_three new a b d e l m =
      let k : n + 2 ≡ suc (suc n) = omega arith in
      rw e (adds_some (a ∷ b ∷ d ∷ []) (set (set (set old n a) (n + 1) b) (n + 2) d) (n + 3) (omega arith) l m (rw (add-one n, k)))

  pub adds_two : (new : List ℕ) (a b : ℕ) → new ≡ a ∷ b ∷ [] → n + 2 ≤ room → (n + 2) % width ≡ 0
      → Added room width n new old (n + 2) (set (set old n a) (n + 1) b)
  adds_two new a b e l m = rw e (adds_some (a ∷ b ∷ []) (set (set old n a) (n + 1) b) (n + 2) (omega arith) l m (rw (add-one n)))

-- a line that is not badly formed has a kind
pub not_bad : (l : Line) → (l ≡ Bad → ⊥) → kind_of l ≡ 0 → ⊥
not_bad Bad h e = h refl
not_bad (Procs m) h e = omega arith
not_bad (Policy p) h e = omega arith
not_bad (Row T C D) h e = omega arith
not_bad (End x) h e = omega arith
not_bad (Release t n) h e = omega arith

-- a line of another kind adds no numbers
pub not_row : (l : Line) → ((T C D : ℕ) → l ≡ Row T C D → ⊥) → row_numbers l ≡ []
not_row Bad h = refl
not_row (Procs m) h = refl
not_row (Policy p) h = refl
not_row (Row T C D) h = absurd (h T C D refl)
not_row (End e) h = refl
not_row (Release t n) h = refl

pub not_release : (l : Line) → ((t n : ℕ) → l ≡ Release t n → ⊥) → release_numbers l ≡ []
not_release Bad h = refl
not_release (Procs m) h = refl
not_release (Policy p) h = refl
not_release (Row T C D) h = refl
not_release (End e) h = refl
not_release (Release t n) h = absurd (h t n refl)
