-- Laws of `number_in`: when bytes are no number, and what a turn of the number reader's loop finds.
use Rattle.std.specs.Prelude.{Some, None}
use mathlib.Core.Path.{◌≡◌, refl}
use mathlib.Core.Bool.{true, false, and-false}
use mathlib.Core.List.{List, [], ◌∷◌}
use Prim.Native.Nat.{ℕ, ◌+◌, ◌-◌, ◌*◌, ◌^◌, ◌≤◌, ◌<◌}
use native.Mathlib.Nat.{pow-suc, pow-le-pow_right}
use native.Mathlib.Numerals.{add-one}
use native.Mathlib.Omega.{arith}
use lib.ListN.{length, drop, get_or}
use lib.Seq.{drop-cons, drop-length}
use borrow.Author.Tests.{eq-eqb, ne_eqb, le-leb, lt-leb}
use Rattle.rules.specs.Text.{all_digits, no_leading_zero, worth, is_number, number_in}

-- ---- what is no number
pub bad_empty : (s : List ℕ) → length s ≡ 0 → None ≡ number_in s
unfolding number_in is_number
bad_empty s h = rw (lt-leb 1 (length s) (omega arith))

pub bad_long : (s : List ℕ) → 9 < length s → None ≡ number_in s
unfolding number_in is_number
bad_long s h = rw (lt-leb (length s) 9 h, and-false)

pub bad_front : (s : List ℕ) → no_leading_zero s ≡ false → None ≡ number_in s
unfolding number_in is_number
bad_front s h = rw (h, and-false)

pub bad_digit : (s : List ℕ) → all_digits s ≡ false → None ≡ number_in s
unfolding number_in is_number
bad_digit s h = rw (h, and-false)

-- ---- what is one
pub good : (s : List ℕ) (v : ℕ) → 1 ≤ length s → length s ≤ 9 → no_leading_zero s ≡ true → all_digits s ≡ true
    → worth 0 s ≡ v
    → Some v ≡ number_in s
unfolding number_in is_number
good s v a b p d w = rw (le-leb 1 (length s) a, le-leb (length s) 9 b, p, d, w)

pub front_short : (s : List ℕ) → length s ≤ 1 → no_leading_zero s ≡ true
unfolding no_leading_zero
front_short [] h = refl
front_short (b ∷ []) h = refl
front_short (b ∷ (d ∷ s)) h = absurd (omega arith)

pub front_good : (s : List ℕ) → (get_or s 0 0 ≡ 48 → ⊥) → no_leading_zero s ≡ true
unfolding no_leading_zero
front_good [] h = refl
front_good (b ∷ []) h = refl
front_good (b ∷ (d ∷ s)) h = rw (ne_eqb b 48 h)

pub front_zero : (s : List ℕ) → 1 < length s → get_or s 0 0 ≡ 48 → no_leading_zero s ≡ false
unfolding no_leading_zero
front_zero [] h e = absurd (omega arith)
front_zero (b ∷ []) h e = absurd (omega arith)
front_zero (b ∷ (d ∷ s)) h e = rw (eq-eqb b 48 e)

-- ---- a turn of the loop
pub digits_low : (s : List ℕ) (i : ℕ) → i < length s → get_or s i 0 < 48 → all_digits (drop i s) ≡ false
unfolding all_digits
digits_low s i h l = rw (drop-cons s i 0 h, lt-leb 48 (get_or s i 0) l)

pub digits_high : (s : List ℕ) (i : ℕ) → i < length s → 57 < get_or s i 0 → all_digits (drop i s) ≡ false
unfolding all_digits
digits_high s i h l = rw (drop-cons s i 0 h, lt-leb (get_or s i 0) 57 l, and-false)

pub digits_on : (s : List ℕ) (i : ℕ) → i < length s → 48 ≤ get_or s i 0 → get_or s i 0 ≤ 57
    → all_digits (drop i s) ≡ all_digits (drop (i + 1) s)
unfolding all_digits
digits_on s i h l m = rw (add-one, drop-cons s i 0 h, le-leb 48 (get_or s i 0) l, le-leb (get_or s i 0) 57 m)

pub worth_on : (s : List ℕ) (i v : ℕ) → i < length s → worth v (drop i s) ≡ worth (v * 10 + (get_or s i 0 - 48)) (drop (i + 1) s)
unfolding worth
worth_on s i v h = rw (add-one, drop-cons s i 0 h)

pub digits_done : (s : List ℕ) (i : ℕ) → i ≡ length s → all_digits (drop i s) ≡ true
unfolding all_digits
digits_done s i e = rw (e, drop-length)

pub worth_done : (s : List ℕ) (i v : ℕ) → i ≡ length s → worth v (drop i s) ≡ v
unfolding worth
worth_done s i v e = rw (e, drop-length)

-- a number of i digits is below 10 ^ i
pub below_on : (i v d : ℕ) → v < 10 ^ i → d < 10 → v * 10 + d < 10 ^ (i + 1)
below_on i v d h l = rw (add-one, pow-suc) (omega arith)

pub below_small : (i v : ℕ) → i < 9 → v < 10 ^ i → v < 10 ^ 8
below_small i v h l = omega (arith, pow-le-pow_right {n = 10} (omega arith) {i = i} {j = 8} (omega arith))
