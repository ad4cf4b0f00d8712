-- Numbers and their digits (`number_in`, `digits_of` of rules, Text): what is written of a number reads as that number, and what reads as a
-- number is what is written of it. Also how many digits there are, and that a field of digits is well formed. For Fields and LineTrip.
use Rattle.std.specs.Prelude.{Option, Some, None}
use Rattle.std.specs.Prelude.{◌≡◌, true, ◌&&◌, ◌⊎◌, List, [], ◌∷◌, ◌++◌, ℕ, zero, suc, ◌+◌, ◌-◌, ◌*◌, ◌/◌, ◌%◌, ◌^◌, ◌≤◌, ◌<◌, eqb, leb}
use Rattle.std.specs.Prelude.{ltb, length, get_or}
use Rattle.std.proofs.Math.Path.{refl}
use Rattle.std.proofs.Common.{sym, ap, ap₂, ◌∙◌, inl, inr, append_assoc, append-nil, pow-suc, add-suc, suc-add, add-zero, arith}
use Rattle.std.proofs.Common.{length-append, ne_eqb, le-leb, leb-true, lt-ltb, le-ltb, ltb-true, ltb-false}
use Rattle.std.proofs.Math.Nat.{pow-le-pow_right}
use Rattle.std.proofs.Math.ListN.{get_or-append}
use Rattle.std.proofs.lemmas.Bool.{eqb-false, not-true}
use Rattle.rules.specs.Words.{pick}
use Rattle.rules.specs.Text.{is_digit, all_digits, no_leading_zero, is_number, worth, number_in, digits_in, digits_of}
use Rattle.lists.specs.Tests.{and_left, and_right}
use Rattle.lists.specs.Lists.{picked}

-- ---- digits, one at a time
worth-append : (v : ℕ) (a b : List ℕ) → worth v (a ++ b) ≡ worth (worth v a) b
unfolding worth
worth-append v [] b = refl
worth-append v (x ∷ a) b = worth-append (v * 10 + (x - 48)) a b

worth-one : (v m : ℕ) → worth v ((48 + m) ∷ []) ≡ v * 10 + m
unfolding worth
worth-one v m = omega arith

pub head_digit : (b : ℕ) (s : List ℕ) → all_digits (b ∷ s) ≡ true → (48 ≤ b) × (b ≤ 57) × (all_digits s ≡ true)
unfolding all_digits
head_digit b s p =
    let q = and_left (is_digit b) (all_digits s) p in
    (leb-true 48 b (and_left (leb 48 b) _ q), leb-true b 57 (and_right (leb 48 b) _ q), and_right (is_digit b) (all_digits s) p)

digits_append : (a b : List ℕ) → all_digits a ≡ true → all_digits b ≡ true → all_digits (a ++ b) ≡ true
unfolding all_digits
digits_append [] b p q = q
digits_append (x ∷ a) b p q = rw (and_left (is_digit x) (all_digits a) p, digits_append a b (and_right (is_digit x) (all_digits a) p) q)

digit_one : (m : ℕ) → m < 10 → all_digits ((48 + m) ∷ []) ≡ true
unfolding all_digits
digit_one m h = rw (le-leb 48 (48 + m) (omega arith), le-leb (48 + m) 57 (omega arith))

-- ---- what is written of a number
-- what is shown of the at most k + 1 digits s of n
record Digits (k n : ℕ) (s : List ℕ) : Type 0 where
  some : 1 ≤ length s
  few : length s ≤ suc k
  digits : all_digits s ≡ true
  value : n < 10 ^ suc k → worth 0 s ≡ n
  front : n < 10 ^ suc k → 0 < n → get_or s 0 0 ≡ 48 → ⊥

digits_last : (k n : ℕ) → n < 10 ⊎ k ≡ 0 → Digits k n ((48 + n % 10) ∷ [])
digits_last k n w = record {
  some = omega arith;
  few = omega arith;
  digits = digit_one (n % 10) (omega arith);
  value = λ h. omega (arith, worth-one 0 (n % 10), below w h);
  front = λ h l q. omega (arith, below w h);
}
  where
    below : n < 10 ⊎ k ≡ 0 → n < 10 ^ suc k → n < 10
    below (inl l) h = l
    below (inr e) h = rw e at h

digits_more : (k n : ℕ) (s : List ℕ) → 10 ≤ n → Digits k (n / 10) s → Digits (suc k) n (s ++ ((48 + n % 10) ∷ []))
digits_more k n s g d =
    let l = length-append s ((48 + n % 10) ∷ []) in
    let less : n < 10 ^ suc (suc k) → n / 10 < 10 ^ suc k = λ h. omega (arith, pow-suc 10 (suc k)) in
    record {
      some = omega arith;
      few = omega (arith, d.few);
      digits = digits_append s _ d.digits (digit_one (n % 10) (omega arith));
      value = λ h. omega (arith, d.value (less h), worth-append 0 s ((48 + n % 10) ∷ []), worth-one (worth 0 s) (n % 10));
      front = λ h p q. d.front (less h) (omega arith) (sym (get_or-append s ((48 + n % 10) ∷ []) 0 0 d.some) ∙ q);
    }

digits_shown : (k n : ℕ) → Digits k n (digits_in k n)
unfolding digits_in
digits_shown zero n = digits_last 0 n (inr refl)
digits_shown (suc k) n =
    picked (Digits (suc k) n) (ltb n 10) _ _
    (λ e. digits_last (suc k) n (inl (ltb-true n 10 e)))
    (λ e. digits_more k n (digits_in k (n / 10)) (ltb-false n 10 e) (digits_shown k (n / 10)))

-- room for one digit more changes nothing where there is room for all
digits_room : (k n : ℕ) → n < 10 ^ suc k → digits_in k n ≡ digits_in (suc k) n
unfolding digits_in
digits_room zero n h = rw (lt-ltb n 10 h)
digits_room (suc k) n h =
    ap (λ (l : List ℕ). pick (ltb n 10) ((48 + n % 10) ∷ []) (l ++ ((48 + n % 10) ∷ [])))
    (digits_room k (n / 10) (omega (arith, pow-suc 10 (suc k))))

-- the digits of n are those that a room for k + 1 of them gives, where n has no more
digits_of_lem : (j k n : ℕ) → k + j ≡ 9 → n < 10 ^ suc k → digits_of n ≡ digits_in k n
unfolding digits_of
digits_of_lem zero k n e h = let z : k ≡ 9 = omega arith in rw z
digits_of_lem (suc j) k n e h =
    digits_of_lem j (suc k) n (omega arith) (omega (
      arith,
      pow-le-pow_right {n = 10} (omega arith) {i = suc k} {j = suc (suc k)} (omega arith),
    ))
    ∙ sym (digits_room k n h)

pub digits_some : (n : ℕ) → 1 ≤ length (digits_of n)
unfolding digits_of
digits_some n = (digits_shown 9 n).some

-- a number of 32 bits has at most ten
pub at_most_ten : (n : ℕ) → length (digits_of n) ≤ 10
unfolding digits_of
at_most_ten n = (digits_shown 9 n).few

pub all_digits_lem : (n : ℕ) → all_digits (digits_of n) ≡ true
unfolding digits_of
all_digits_lem n = (digits_shown 9 n).digits

-- a number below 10 ^ (k + 1) has at most k + 1 digits
pub digits_few : (k n : ℕ) → k ≤ 9 → n < 10 ^ suc k → length (digits_of n) ≤ suc k
digits_few k n l h = rw (digits_of_lem (9 - k) k n (omega arith) h) (digits_shown k n).few

no_zero_first : (s : List ℕ) → (get_or s 0 0 ≡ 48 → ⊥) → no_leading_zero s ≡ true
unfolding no_leading_zero
no_zero_first [] h = refl
no_zero_first (b ∷ []) h = refl
no_zero_first (b ∷ (c ∷ s)) h = rw (ne_eqb b 48 h)

no_zero_written : (n : ℕ) → n < 10 ^ 9 → no_leading_zero (digits_in 8 n) ≡ true
unfolding no_leading_zero
no_zero_written zero h = unfold digits_in in refl
no_zero_written (suc n) h = no_zero_first (digits_in 8 (suc n)) ((digits_shown 8 (suc n)).front h (omega arith))

-- what is written of n reads as n
pub written_reads : (n : ℕ) → n < 10 ^ 9 → number_in (digits_of n) ≡ Some n
unfolding number_in is_number
written_reads n h =
    let d = digits_shown 8 n in
    rw (
      digits_of_lem 1 8 n refl h,
      le-leb 1 (length (digits_in 8 n)) d.some,
      le-leb (length (digits_in 8 n)) 9 d.few,
      no_zero_written n h,
      d.digits,
      d.value h,
    )

-- ---- the other way
worth_grows : (s : List ℕ) (v : ℕ) → v ≤ worth v s
unfolding worth
worth_grows [] v = omega arith
worth_grows (b ∷ s) v = omega (arith, worth_grows s (v * 10 + (b - 48)))

-- as many digits as there are, and no more
worth_below : (s : List ℕ) (i v : ℕ) → all_digits s ≡ true → v < 10 ^ i → worth v s < 10 ^ (i + length s)
unfolding worth
worth_below [] i v p h = rw add-zero h
worth_below (b ∷ s) i v p h =
    let d = head_digit b s p in
    rw (add-suc, ← suc-add i (length s)) (worth_below s (suc i) (v * 10 + (b - 48)) d.2 (rw pow-suc (omega arith)))

pub digits_small : (n : ℕ) → n < 10 → digits_of n ≡ (48 + n) ∷ []
unfolding digits_of digits_in
digits_small n h = rw (lt-ltb n 10 h) (ap (λ (m : ℕ). (48 + m) ∷ []) (omega arith))

pub digits_step : (n : ℕ) → 10 ≤ n → n < 10 ^ 10 → digits_of n ≡ digits_of (n / 10) ++ ((48 + n % 10) ∷ [])
unfolding digits_of digits_in
digits_step n h l = rw (le-ltb n 10 h) (ap (λ (d : List ℕ). d ++ ((48 + n % 10) ∷ [])) (digits_room 8 (n / 10) (omega arith)))

-- the digits of a number with more behind it
digits_behind : (s : List ℕ) (v : ℕ) → 0 < v → all_digits s ≡ true → worth v s < 10 ^ 9
    → digits_of (worth v s) ≡ digits_of v ++ s
unfolding worth
digits_behind [] v l p h = sym (append-nil (digits_of v))
digits_behind (b ∷ s) v l p h =
    let d = head_digit b s p in
    let w = v * 10 + (b - 48) in
    let q : w / 10 ≡ v = omega arith in
    let r : 48 + w % 10 ≡ b = omega arith in
    let e : digits_of w ≡ digits_of v ++ (b ∷ []) = digits_step w (omega arith) (omega (arith, worth_grows s w))
    ∙ ap₂ (λ (x y : ℕ). digits_of x ++ (y ∷ [])) q r in
    digits_behind s w (omega arith) d.2 h ∙ ap (λ (z : List ℕ). z ++ s) e ∙ append_assoc (digits_of v) (b ∷ []) s

digits_whole : (s : List ℕ) → 1 ≤ length s → length s ≤ 9 → no_leading_zero s ≡ true → all_digits s ≡ true
    → digits_of (worth 0 s) ≡ s
unfolding worth no_leading_zero
digits_whole [] h l p q = absurd (omega arith)
digits_whole (b ∷ []) h l p q =
    let d = head_digit b [] q in
    digits_small (0 * 10 + (b - 48)) (omega arith) ∙ ap (λ (x : ℕ). x ∷ []) (omega arith)
digits_whole (b ∷ (c ∷ s)) h l p q =
    let d = head_digit b (c ∷ s) q in
    let n = eqb-false b 48 (not-true (eqb b 48) p) in
    let v : ℕ = 0 * 10 + (b - 48) in
    let pos : 0 < v = omega (arith, n) in
    let fit = worth_below (c ∷ s) 1 v d.2 (omega arith) in
    let all : worth v (c ∷ s) < 10 ^ 9 =
    omega (arith, fit, pow-le-pow_right {n = 10} (omega arith) {i = 1 + length (c ∷ s)} {j = 9} (omega arith)) in
    digits_behind (c ∷ s) v pos d.2 all ∙ ap (λ (z : List ℕ). z ++ (c ∷ s))
    (digits_small v (omega arith) ∙ ap (λ (x : ℕ). x ∷ []) (omega arith))

number_digits : (s : List ℕ) → is_number s ≡ true → digits_of (worth 0 s) ≡ s
unfolding is_number
number_digits s e =
    let len = length s in
    let a = and_left (leb 1 len && leb len 9 && no_leading_zero s) (all_digits s) e in
    let b = and_left (leb 1 len && leb len 9) (no_leading_zero s) a in
    digits_whole s (leb-true 1 len (and_left (leb 1 len) _ b)) (leb-true len 9 (and_right (leb 1 len) _ b))
    (and_right (leb 1 len && leb len 9) (no_leading_zero s) a)
    (and_right (leb 1 len && leb len 9 && no_leading_zero s) (all_digits s) e)

-- a field says a number that it is the digits of, or none at all
pub reads_written : (P : Option ℕ → Type 0) (s : List ℕ) → P None → ((v : ℕ) → s ≡ digits_of v → P (Some v)) → P (number_in s)
unfolding number_in
reads_written P s none some = picked P (is_number s) (Some (worth 0 s)) None (λ e. some (worth 0 s) (sym (number_digits s e))) (λ e. none)
