-- The least and the greatest of many numbers, and that comparing these two decides whether any of the ones is below any of the others.
-- Nothing of scheduling.
use mathlib.Core.Path.{◌≡◌, refl, sym, ◌∙◌}
use mathlib.Core.Bool.{Bool, true, false, not, true≢false}
use mathlib.Core.Logic.{◌⊎◌, inl, inr}
use Prim.Native.Nat.{ℕ, zero, suc, min, max, ◌≤◌, ◌<◌}
use native.Mathlib.Nat.{eq-or-lt_of_le}
use native.Mathlib.Decide.{dec_le}
use native.Mathlib.Omega.{arith}
use lib.Dec.{ltb}
use borrow.Author.Tests.{lt-ltb, le-ltb, ltb-true, ltb-false}
use Rattle.std.specs.Ordering.{nat_cmp, ord_max}
use Rattle.std.proofs.lemmas.Grind.{common_steps}
use Rattle.rules.specs.Words.{holds_below}
use Rattle.lists.specs.Holds.{holds_says, holds_of}
use Rattle.lists.specs.Tests.{never_true}

-- what `a.max(b)` answers is the greater of the two
pub max_is : (a b : ℕ) → ord_max nat_cmp a b ≡ max a b
max_is a b = grind (arith, common_steps)

-- the least of f 0, .., f (n - 1), and `top` where none is lower
unfoldable pub least : ℕ → (ℕ → ℕ) → ℕ → ℕ
least top f zero = top
least top f (suc n) = min (least top f n) (f n)

-- the greatest of them, and 0 where there is none
unfoldable pub greatest : (ℕ → ℕ) → ℕ → ℕ
greatest f zero = 0
greatest f (suc n) = max (greatest f n) (f n)

pub least_top : (top : ℕ) (f : ℕ → ℕ) (n : ℕ) → least top f n ≤ top
unfolding least
least_top top f zero = omega arith
least_top top f (suc n) = omega (arith, least_top top f n)

pub least_low : (top : ℕ) (f : ℕ → ℕ) (n j : ℕ) → j < n → least top f n ≤ f j
unfolding least
least_low top f zero j l = absurd (omega arith)
least_low top f (suc n) j l = go (least_low top f n j) (eq-or-lt_of_le {n = j} {m = n} (omega arith))
  where
    go : (j < n → least top f n ≤ f j) → (j ≡ n) ⊎ (j < n) → min (least top f n) (f n) ≤ f j
    go ih (inl e) = rw e (omega arith)
    go ih (inr k) = omega (arith, ih k)

-- it is one of them, or the top
least_one : (top : ℕ) (f : ℕ → ℕ) (n : ℕ) → (least top f n ≡ top) ⊎ ((j : ℕ) × ((j < n) × (f j ≡ least top f n)))
unfolding least
least_one top f zero = inl refl
least_one top f (suc n) = go (least_one top f n) (dec_le (least top f n) (f n))
  where
    go : (least top f n ≡ top) ⊎ ((j : ℕ) × ((j < n) × (f j ≡ least top f n))) → Dec (least top f n ≤ f n)
        → (min (least top f n) (f n) ≡ top) ⊎ ((j : ℕ) × ((j < suc n) × (f j ≡ min (least top f n) (f n))))
    go x (no h) = inr (n, (omega arith, omega arith))
    go (inl e) (yes h) = inl (omega arith)
    go (inr x) (yes h) = inr (x.0, (omega (arith, x.1.0), omega (arith, x.1.1)))

-- where one of them is below the top, it is one of them
pub least_found : (top : ℕ) (f : ℕ → ℕ) (n j : ℕ) → j < n → f j < top → (i : ℕ) × ((i < n) × (f i ≡ least top f n))
least_found top f n j l h = go (least_one top f n)
  where
    go : (least top f n ≡ top) ⊎ ((i : ℕ) × ((i < n) × (f i ≡ least top f n))) → (i : ℕ) × ((i < n) × (f i ≡ least top f n))
    go (inl e) = absurd (omega (arith, e, h, least_low top f n j l))
    go (inr x) = x

pub greatest_high : (f : ℕ → ℕ) (n i : ℕ) → i < n → f i ≤ greatest f n
unfolding greatest
greatest_high f zero i l = absurd (omega arith)
greatest_high f (suc n) i l = go (greatest_high f n i) (eq-or-lt_of_le {n = i} {m = n} (omega arith))
  where
    go : (i < n → f i ≤ greatest f n) → (i ≡ n) ⊎ (i < n) → f i ≤ max (greatest f n) (f n)
    go ih (inl e) = rw e (omega arith)
    go ih (inr k) = omega (arith, ih k)

-- it is one of them, or 0
greatest_one : (f : ℕ → ℕ) (n : ℕ) → (greatest f n ≡ 0) ⊎ ((i : ℕ) × ((i < n) × (f i ≡ greatest f n)))
unfolding greatest
greatest_one f zero = inl refl
greatest_one f (suc n) = go (greatest_one f n) (dec_le (f n) (greatest f n))
  where
    go : (greatest f n ≡ 0) ⊎ ((i : ℕ) × ((i < n) × (f i ≡ greatest f n))) → Dec (f n ≤ greatest f n)
        → (max (greatest f n) (f n) ≡ 0) ⊎ ((i : ℕ) × ((i < suc n) × (f i ≡ max (greatest f n) (f n))))
    go x (no h) = inr (n, (omega arith, omega arith))
    go (inl e) (yes h) = inl (omega arith)
    go (inr x) (yes h) = inr (x.0, (omega (arith, x.1.0), omega (arith, x.1.1)))

-- where there are any, it is one of them
pub greatest_found : (f : ℕ → ℕ) (n j : ℕ) → j < n → (i : ℕ) × ((i < n) × (f i ≡ greatest f n))
greatest_found f n j l = go (greatest_one f n)
  where
    go : (greatest f n ≡ 0) ⊎ ((i : ℕ) × ((i < n) × (f i ≡ greatest f n))) → (i : ℕ) × ((i < n) × (f i ≡ greatest f n))
    go (inl e) = (j, (l, omega (arith, e, greatest_high f n j l)))
    go (inr x) = x

-- none of the fs is below any of the gs just where the least of the fs is not below the greatest of the gs
module _ (top : ℕ) (f g : ℕ → ℕ) (n : ℕ) (within : (i : ℕ) → i < n → g i ≤ top) where
  -- where it is, the two that are the least and the greatest are such a pair
  crossed : least top f n < greatest g n → (j : ℕ) × ((i : ℕ) × ((j < n) × (i < n) × (f j < g i)))
  crossed h = go (least_one top f n) (greatest_one g n)
    where
      go : (least top f n ≡ top) ⊎ ((j : ℕ) × ((j < n) × (f j ≡ least top f n)))
          → (greatest g n ≡ 0) ⊎ ((i : ℕ) × ((i < n) × (g i ≡ greatest g n)))
          → (j : ℕ) × ((i : ℕ) × ((j < n) × (i < n) × (f j < g i)))
      go x (inl e) = absurd (omega arith)
      go (inl e) (inr y) = absurd (omega (arith, y.1.1, within y.0 y.1.0))
      go (inr x) (inr y) = (x.0, (y.0, (x.1.0, y.1.0, omega (arith, x.1.1, y.1.1))))

  pub extremes : holds_below (λ j. holds_below (λ i. not (ltb (f j) (g i))) n) n ≡ not (ltb (least top f n) (greatest g n))
  extremes = go (ltb (least top f n) (greatest g n)) refl
    where
      pair : (j i : ℕ) → j < n → i < n → f j < g i
          → holds_below (λ j. holds_below (λ i. not (ltb (f j) (g i))) n) n ≡ true → ⊥
      pair j i p q h e =
          let row = holds_says (λ j. holds_below (λ i. not (ltb (f j) (g i))) n) n e j p in
          let one = holds_says (λ i. not (ltb (f j) (g i))) n row i q in
          true≢false (sym one ∙ rw (lt-ltb (f j) (g i) h))

      clear : greatest g n ≤ least top f n → (j i : ℕ) → j < n → i < n → not (ltb (f j) (g i)) ≡ true
      clear h j i p q =
          let z : g i ≤ f j = omega (arith, least_low top f n j p, greatest_high g n i q) in
          rw (le-ltb (f j) (g i) z)

      go : (b : Bool) → ltb (least top f n) (greatest g n) ≡ b
          → holds_below (λ j. holds_below (λ i. not (ltb (f j) (g i))) n) n ≡ not b
      go true e =
          let x = crossed (ltb-true (least top f n) (greatest g n) e) in
          never_true _ (pair x.0 x.1.0 x.1.1.0 x.1.1.1 x.1.1.2)
      go false e = holds_of _ n (λ j p. holds_of _ n (λ i q. clear (ltb-false (least top f n) (greatest g n) e) j i p q))
