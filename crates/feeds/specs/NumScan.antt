-- A number read byte by byte, in a state that does not grow: how many bytes it has and what they are worth, or bad. At the end of its
-- field it says what `number_in` of rules, Text, says of the bytes. For LineScan.
use Rattle.std.specs.Prelude.{Option, Some, None}
use Rattle.std.specs.Prelude.{◌≡◌, Bool, true, ◌&&◌, not, List, [], ◌∷◌, ℕ, zero, suc, ◌+◌, ◌-◌, ◌*◌, ◌≤◌, eqb, leb, length}
use Rattle.std.proofs.Math.Path.{refl}
use Rattle.std.proofs.Common.{ap, ◌∙◌, arith, eq-eqb, ne_eqb, eqb-true, le-leb, leb-true}
use Rattle.std.proofs.Math.Bool.{false, and-false}
use Rattle.std.proofs.Math.Decide.{dec_le}
use Rattle.std.proofs.lemmas.Bool.{eqb-false, lt-leb}
use Rattle.rules.specs.Words.{pick}
use Rattle.rules.specs.Text.{is_digit, all_digits, no_leading_zero, is_number, worth, number_in}
use Rattle.lists.specs.Tests.{and_left}

-- the bytes so far are no number, or they are so many and worth so much
pub data NumScan : Type 0 where
  num_bad : NumScan
  num_so_far : ℕ → ℕ → NumScan

-- one more byte may stand: a digit, not the tenth, not after a first 0
abbrev pub fits : ℕ → ℕ → ℕ → Bool
fits k v b = is_digit b && leb k 8 && not (eqb k 1 && eqb v 0)

unfoldable pub num_byte : NumScan → ℕ → NumScan
num_byte num_bad b = num_bad
num_byte (num_so_far k v) b = pick (fits k v b) (num_so_far (suc k) (v * 10 + (b - 48))) num_bad

unfoldable pub num_all : NumScan → List ℕ → NumScan
num_all x [] = x
num_all x (b ∷ s) = num_all (num_byte x b) s

-- before the first byte
abbrev pub num_start : NumScan
num_start = num_so_far 0 0

-- at the end of the field
unfoldable pub num_end : NumScan → Option ℕ
num_end num_bad = None
num_end (num_so_far zero v) = None
num_end (num_so_far (suc k) v) = Some v

-- what is bad stays bad
pub num_bad_lem : (s : List ℕ) → num_all num_bad s ≡ num_bad
unfolding num_all num_byte
num_bad_lem [] = refl
num_bad_lem (b ∷ s) = num_bad_lem s

bad_ends : (s : List ℕ) → num_end (num_all num_bad s) ≡ None
unfolding num_end
bad_ends s = rw (num_bad_lem s)

-- a number that has begun, and not with a 0 alone
num_more : (s : List ℕ) (k v : ℕ) → suc k ≤ 9 → (eqb (suc k) 1 && eqb v 0) ≡ false
    → num_end (num_all (num_so_far (suc k) v) s) ≡ pick (leb (suc k + length s) 9 && all_digits s) (Some (worth v s)) None
unfolding num_all num_byte num_end all_digits worth
num_more [] k v h e = let z : suc k + 0 ≡ suc k = omega arith in rw (z, le-leb (suc k) 9 h)
num_more (b ∷ s) k v h e = rw e
    (go (is_digit b) refl (dec_le (suc k) 8)
    (λ g. num_more s (suc k) (v * 10 + (b - 48)) g (rw (ne_eqb (suc (suc k)) 1 (λ q. omega arith)))))
  where
    w : ℕ
    w = v * 10 + (b - 48)

    go : (d : Bool) → is_digit b ≡ d → Dec (suc k ≤ 8)
        → (suc (suc k) ≤ 9 → num_end (num_all (num_so_far (suc (suc k)) w) s) ≡ pick (leb (suc (suc k) + length s) 9 && all_digits s)
        (Some (worth w s)) None)
        → num_end (num_all (pick (d && leb (suc k) 8 && not false) (num_so_far (suc (suc k)) w) num_bad) s)
        ≡ pick (leb (suc k + suc (length s)) 9 && (d && all_digits s)) (Some (worth w s)) None
    go false q l ih = bad_ends s ∙ rw (and-false (leb (suc k + suc (length s)) 9))
    go true q (yes l) ih =
        let z : suc k + suc (length s) ≡ suc (suc k) + length s = omega arith in
        rw (le-leb (suc k) 8 l, z) (ih (omega arith))
    go true q (no l) ih =
        rw (lt-leb (suc k) 8 (omega arith), lt-leb (suc k + suc (length s)) 9 (omega arith)) (bad_ends s)

-- what is read byte by byte is what the bytes say as a number
pub num_scanned : (s : List ℕ) → num_end (num_all num_start s) ≡ number_in s
unfolding num_all num_byte num_end number_in is_number no_leading_zero all_digits worth
num_scanned [] = refl
num_scanned (b ∷ []) = go (is_digit b)
  where
    go : (d : Bool) → num_end (pick (d && true && true) (num_so_far 1 (0 * 10 + (b - 48))) num_bad)
        ≡ pick (d && true) (Some (0 * 10 + (b - 48))) None
    go true = unfold num_end in refl
    go false = unfold num_end in refl
num_scanned (b ∷ (d ∷ s)) = rw (le-leb 1 (suc (suc (length s))) (omega arith)) (go (is_digit b) refl (eqb b 48) refl)
  where
    v : ℕ
    v = 0 * 10 + (b - 48)

    go : (x : Bool) → is_digit b ≡ x → (y : Bool) → eqb b 48 ≡ y
        → num_end (num_all (pick (x && true && true) (num_so_far 1 v) num_bad) (d ∷ s))
        ≡ pick (leb (suc (suc (length s))) 9 && not y && (x && all_digits (d ∷ s))) (Some (worth v (d ∷ s))) None
    go false p y q = bad_ends (d ∷ s) ∙ rw (and-false (leb (suc (suc (length s))) 9 && not y))
    go true p true q =
        let z : eqb v 0 ≡ true = eq-eqb v 0 (omega (arith, eqb-true b 48 q)) in
        rw (z, and-false (is_digit d && true), and-false (leb (suc (suc (length s))) 9)) (bad_ends s)
    go true p false q =
        let x : 48 ≤ b = leb-true 48 b (and_left (leb 48 b) _ p) in
        let z : eqb v 0 ≡ false = ne_eqb v 0 (λ e. eqb-false b 48 q (omega arith)) in
        let l : 1 + suc (length s) ≡ suc (suc (length s)) = omega arith in
        num_more (d ∷ s) 0 v (omega arith) (rw z)
        ∙ ap (λ (n : ℕ). pick (leb n 9 && all_digits (d ∷ s)) (Some (worth v (d ∷ s))) None) l
        ∙ joins (leb (suc (suc (length s))) 9) (all_digits (d ∷ s))
      where
        joins : (x y : Bool) → pick (x && y) (Some (worth v (d ∷ s))) None
            ≡ pick (x && true && (true && y)) (Some (worth v (d ∷ s))) None
        joins true y = refl
        joins false y = refl
