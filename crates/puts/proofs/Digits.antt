-- The decimal digits of a number of 32 bits: one more than those of its tenth, how many there are, and that the last ones are all of them.
use mathlib.Core.Path.{◌≡◌, refl, ap, ◌∙◌}
use mathlib.Core.Logic.{inl, inr}
use mathlib.Core.List.{List, [], ◌∷◌, ◌++◌}
use Prim.Native.Nat.{ℕ, zero, suc, max, ◌+◌, ◌*◌, ◌/◌, ◌%◌, ◌^◌, ◌≤◌, ◌<◌}
use native.Mathlib.Omega.{arith}
use lib.ListN.{length, length-append}
use Rattle.std.proofs.lemmas.Bool.{cases_lt}
use Rattle.rules.specs.Text.{digits_of}
use Rattle.texts.specs.Digits.{digits_step, digits_small}

pub step : (n : ℕ) → 10 ≤ n → n < 2 ^ 32 → digits_of n ≡ digits_of (n / 10) ++ ((48 + n % 10) ∷ [])
step n h l = digits_step n h (omega arith)

pub step_length : (n : ℕ) → 10 ≤ n → n < 2 ^ 32 → length (digits_of n) ≡ length (digits_of (n / 10)) + 1
step_length n h l = ap length (step n h l) ∙ length-append (digits_of (n / 10)) ((48 + n % 10) ∷ [])

-- how many there are, by the powers of ten; 0 has one, as 1 has
pub digits_length : (n k : ℕ) → n < 2 ^ 32 → 10 ^ k ≤ max n 1 → max n 1 < 10 * 10 ^ k → length (digits_of n) ≡ k + 1
digits_length n zero l h g = ap length (digits_small n (omega arith))
digits_length n (suc k) l h g =
    step_length n (omega arith) l ∙ ap (λ (m : ℕ). m + 1) (digits_length (n / 10) k (omega arith) (omega arith) (omega arith)) ∙ omega arith

-- the last k digits, as they are written from the last one on
unfoldable pub last_digits : ℕ → ℕ → List ℕ
last_digits zero n = []
last_digits (suc k) n = last_digits k (n / 10) ++ ((48 + n % 10) ∷ [])

pub last_digits-length : (k n : ℕ) → length (last_digits k n) ≡ k
unfolding last_digits
last_digits-length zero n = refl
last_digits-length (suc k) n =
    length-append (last_digits k (n / 10)) ((48 + n % 10) ∷ []) ∙ omega (arith, last_digits-length k (n / 10))

-- as many as there are, they are all of them
pub last_digits-all : (k n : ℕ) → n < 2 ^ 32 → length (digits_of n) ≡ k → last_digits k n ≡ digits_of n
unfolding last_digits
last_digits-all zero n l e =
    elim (cases_lt n 10) [
      | inl h ↦ absurd (omega (arith, ap length (digits_small n h)))
      | inr h ↦ absurd (omega (arith, step_length n h l))
    ]
last_digits-all (suc k) n l e =
    elim (cases_lt n 10) [
      | inl h ↦
          let none : k ≡ 0 = omega (arith, ap length (digits_small n h)) in
          rw (none, digits_small n h) (ap (λ (m : ℕ). (48 + m) ∷ []) (omega arith))
      | inr h ↦ rw (step n h l, last_digits-all k (n / 10) (omega arith) (omega (arith, step_length n h l)))
    ]
