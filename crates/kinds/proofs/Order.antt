-- Laws of `may_follow`: a release line stands behind `end` or another, and a line of no kind nowhere.
use mathlib.Core.Path.{◌≡◌}
use mathlib.Core.Bool.{false, and-false, or-false}
use Prim.Native.Nat.{ℕ, ◌≤◌, ◌<◌}
use native.Mathlib.Omega.{arith}
use borrow.Author.Tests.{ne_eqb}
use Rattle.rules.specs.Reader.{may_follow}

pub not_release : (b k : ℕ) → k ≡ 5 → ((4 ≤ b) × (b < 6) → ⊥) → false ≡ may_follow b k
unfolding may_follow
not_release b k e h = rw (e, ne_eqb b 4 (λ z. h (omega arith)), ne_eqb b 5 (λ z. h (omega arith))) (simp (and-false, or-false))

pub not_other : (b k : ℕ) → (k ≡ 1 → ⊥) → (k ≡ 2 → ⊥) → (k ≡ 3 → ⊥) → (k ≡ 4 → ⊥) → (k ≡ 5 → ⊥)
    → false ≡ may_follow b k
unfolding may_follow
not_other b k a d e f g = rw (ne_eqb k 1 a, ne_eqb k 2 d, ne_eqb k 3 e, ne_eqb k 4 f, ne_eqb k 5 g) (simp (and-false, or-false))
