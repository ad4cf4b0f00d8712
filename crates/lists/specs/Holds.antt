-- A test of each number below n (`holds_below` of rules, Words): what it says and how it comes about; some number passes a test or none
-- does. Nothing of scheduling.
use Rattle.std.specs.Prelude.{◌≡◌, refl, Bool, true, false, ◌&&◌, ◌⊎◌, ℕ, zero, suc, ◌+◌, ◌<◌}
use Rattle.std.proofs.Common.{ap, ap₂, ◌∙◌, inl, inr, eq-or-lt_of_le, add-one, arith}
use Rattle.rules.specs.Words.{holds_below}
use Rattle.lists.specs.Tests.{and_left, and_right, and_both}

-- what holds of every number below n holds of each
pub holds_says : (p : ℕ → Bool) (n : ℕ) → holds_below p n ≡ true → (i : ℕ) → i < n → p i ≡ true
unfolding holds_below
holds_says p zero e i h = absurd (omega arith)
holds_says p (suc n) e i h = go (holds_says p n (and_left (holds_below p n) (p n) e) i) (eq-or-lt_of_le {n = i} {m = n} (omega arith))
  where
    go : (i < n → p i ≡ true) → (i ≡ n) ⊎ (i < n) → p i ≡ true
    go ih (inl q) = rw q (and_right (holds_below p n) (p n) e)
    go ih (inr q) = ih q

-- and what holds of each holds of every one
pub holds_of : (p : ℕ → Bool) (n : ℕ) → ((i : ℕ) → i < n → p i ≡ true) → holds_below p n ≡ true
unfolding holds_below
holds_of p zero h = refl
holds_of p (suc n) h = and_both (holds_below p n) (p n) (holds_of p n (λ i x. h i (omega arith))) (h n (omega arith))

-- of one number more, as a loop goes on that keeps what the tests so far say
pub holds_more : (p : ℕ → Bool) (n : ℕ) (before more : Bool) → before ≡ holds_below p n → more ≡ (before && p n)
    → more ≡ holds_below p (n + 1)
unfolding holds_below
holds_more p n before more e h = rw (add-one n) (h ∙ ap (λ (x : Bool). x && p n) e)

-- some number below n passes the test, or none does
pub some_or_none : (p : ℕ → Bool) (n : ℕ) → ((i : ℕ) × ((i < n) × (p i ≡ true))) ⊎ ((i : ℕ) → i < n → p i ≡ false)
some_or_none p zero = inr (λ i h. absurd (omega arith))
some_or_none p (suc n) = go (some_or_none p n) (p n) refl
  where
    go : ((i : ℕ) × ((i < n) × (p i ≡ true))) ⊎ ((i : ℕ) → i < n → p i ≡ false) → (b : Bool) → p n ≡ b
        → ((i : ℕ) × ((i < suc n) × (p i ≡ true))) ⊎ ((i : ℕ) → i < suc n → p i ≡ false)
    go (inl x) b q = inl (x.0, (omega (arith, x.1.0), x.1.1))
    go (inr f) true q = inl (n, (omega arith, q))
    go (inr f) false q = inr (λ i h. last i (eq-or-lt_of_le {n = i} {m = n} (omega arith)))
      where
        last : (i : ℕ) → (i ≡ n) ⊎ (i < n) → p i ≡ false
        last i (inl e) = rw e q
        last i (inr l) = f i l

-- the same tests hold alike
pub holds_same : (p q : ℕ → Bool) (n : ℕ) → ((i : ℕ) → i < n → p i ≡ q i) → holds_below p n ≡ holds_below q n
unfolding holds_below
holds_same p q zero h = refl
holds_same p q (suc n) h = ap₂ ◌&&◌ (holds_same p q n (λ i x. h i (omega arith))) (h n (omega arith))
