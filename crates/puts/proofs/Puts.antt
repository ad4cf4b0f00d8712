-- Laws of what is laid: nothing, one byte, one text behind another, a text in a lent part.
use mathlib.Core.Path.{◌≡◌, refl, sym, ap, ◌∙◌}
use mathlib.Core.List.{List, [], ◌∷◌, ◌++◌, append-nil}
use Prim.Native.Nat.{ℕ, suc, ◌+◌, ◌-◌, ◌/◌, ◌%◌, ◌≤◌, ◌<◌}
use native.Mathlib.Numerals.{add-one}
use native.Mathlib.Nat.{add-zero, add-suc, suc-add, zero-add}
use native.Mathlib.Omega.{arith}
use lib.ListN.{length, take, drop, set, get_or, length-append, length-drop, take-append-drop}
use lib.Seq.{sets, sets-eq, length-sets, set_comm, length-take-le, take_all, take-suc, drop-length}
use borrow.Rule.Slice.PartMut.{put_mid, post_of, Post-is}
use Rattle.puts.specs.Laid.{Laid}
use Rattle.puts.proofs.Digits.{last_digits, last_digits-length}

-- ---- runs of stores
sets_append : (l : List ℕ) (i : ℕ) (vs ws : List ℕ) → sets l i (vs ++ ws) ≡ sets (sets l i vs) (i + length vs) ws
sets_append l i [] ws = rw (add-zero i)
sets_append l i (a ∷ vs) ws = rw (add-suc, ← suc-add) (sets_append (set l i a) (suc i) vs ws)

-- a store behind a run may come before it
sets_late : (l : List ℕ) (i k d : ℕ) (vs : List ℕ) → i + length vs ≤ k → sets (set l k d) i vs ≡ set (sets l i vs) k d
sets_late l i k d [] h = refl
sets_late l i k d (a ∷ vs) h =
    let n : suc i + length vs ≤ k = omega (arith, h) in
    ap (λ (m : List ℕ). sets m (suc i) vs) (set_comm l k i d a (λ e. omega arith)) ∙ sets_late (set l i a) (suc i) k d vs n

sets_cons : (x : ℕ) (l : List ℕ) (i : ℕ) (vs : List ℕ) → sets (x ∷ l) (suc i) vs ≡ x ∷ sets l i vs
sets_cons x l i [] = refl
sets_cons x l i (a ∷ vs) = sets_cons x (set l i a) (suc i) vs

sets_behind : (p l vs : List ℕ) → sets (p ++ l) (length p) vs ≡ p ++ sets l 0 vs
sets_behind [] l vs = refl
sets_behind (x ∷ p) l vs = sets_cons x (p ++ l) (length p) vs ∙ ap (λ (m : List ℕ). x ∷ m) (sets_behind p l vs)

-- the last byte of a text may be stored before the others
pub sets_last : (l : List ℕ) (i d : ℕ) (vs : List ℕ) → sets (set l (i + length vs) d) i vs ≡ sets l i (vs ++ (d ∷ []))
sets_last l i d vs = sets_late l i (i + length vs) d vs (omega arith) ∙ sym (sets_append l i vs (d ∷ []))

-- one more byte of a text that is copied
pub sets_suc : (l s : List ℕ) (i j : ℕ) → j < length s → set (sets l i (take j s)) (i + j) (get_or s j 0)
    ≡ sets l i (take (j + 1) s)
sets_suc l s i j h =
    let n : length (take j s) ≡ j = length-take-le j s (omega arith) in
    rw (add-one j, take-suc s j 0 h, sets_append l i (take j s) (get_or s j 0 ∷ []), n)

-- ---- what is laid
pub laid_none : (at : ℕ) (old : List ℕ) → Laid at [] old old at
laid_none at old = record { behind = omega arith; bytes = refl }

pub laid_byte : (at b : ℕ) (old : List ℕ) → Laid at (b ∷ []) old (set old at b) (at + 1)
laid_byte at b old = record { behind = omega arith; bytes = refl }

-- one text behind another
pub laid_then : {at : ℕ} {s t old mid new : List ℕ} {k end : ℕ} → Laid at s old mid k → Laid k t mid new end
    → Laid at (s ++ t) old new end
laid_then {at} {s} {t} {old} {mid} {new} {k} {end} p q =
    record {
      behind = omega (arith, p.behind, q.behind, length-append s t);
      bytes = q.bytes ∙ rw (p.bytes, p.behind) (sym (sets_append old at s t));
    }

-- a text at the start of the part lent from `a` on is that text from `a` on
pub laid_part : (a : ℕ) (text xs ys : List ℕ) (n : ℕ) → a ≤ length xs → Laid 0 text (take (length xs - a) (drop a xs)) ys n
    → Laid a text xs (put_mid a (length xs - a) xs ys) (a + n)
laid_part a text xs ys n h p =
    let whole : take (length xs - a) (drop a xs) ≡ drop a xs = take_all (length xs - a) (drop a xs) (omega (arith, length-drop a xs)) in
    let none : post_of a (length xs - a) xs ≡ [] = Post-is a (length xs) xs h ∙ drop-length xs in
    let front : length (take a xs) ≡ a = length-take-le a xs h in
    let new : ys ≡ sets (drop a xs) 0 text = p.bytes ∙ ap (λ (z : List ℕ). sets z 0 text) whole in
    let there : sets xs a text ≡ take a xs ++ sets (drop a xs) 0 text =
    ap (λ (z : List ℕ). sets z a text) (sym (take-append-drop a xs)) ∙
    ap (λ (k : ℕ). sets (take a xs ++ drop a xs) k text) (sym front) ∙ sets_behind (take a xs) (drop a xs) text in
    record {
      behind = omega (arith, p.behind);
      bytes = rw (none, append-nil, new) (sym there);
    }

-- the part lent from `a` on has what is left of the length
pub part_length : (a : ℕ) (xs : List ℕ) → length (take (length xs - a) (drop a xs)) ≡ length xs - a
part_length a xs = length-take-le (length xs - a) (drop a xs) (omega (arith, length-drop a xs))

-- nothing grows
pub laid_length : {at : ℕ} {text old new : List ℕ} {end : ℕ} → Laid at text old new end → length new ≡ length old
laid_length {at} {text} {old} p = ap length p.bytes ∙ length-sets old at text

-- what is laid at the start: the text, and after it what was there
pub laid_front : {text old new : List ℕ} {end : ℕ} → Laid 0 text old new end → length text ≤ length old
    → new ≡ text ++ drop (length text) old
laid_front {text} {old} p h = p.bytes ∙ sets-eq text old 0 (omega arith) ∙ rw (zero-add (length text))

-- the last digit of what is left, stored before the others
pub store_digit : (out : List ℕ) (at k w i d : ℕ) → i ≡ at + k → d ≡ 48 + w % 10
    → sets (set out i d) at (last_digits k (w / 10)) ≡ sets out at (last_digits (suc k) w)
unfolding last_digits
store_digit out at k w i d e g =
    let n : i ≡ at + length (last_digits k (w / 10)) = omega (arith, last_digits-length k (w / 10)) in
    rw (n, g) (sets_last out at (48 + w % 10) (last_digits k (w / 10)))
