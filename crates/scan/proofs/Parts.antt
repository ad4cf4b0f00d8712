-- Laws of what stands up to the first of a byte and past it: `up_to`, `past` and `has`; and of a line, `line_of`.
use mathlib.Core.Path.{◌≡◌, refl, sym, ap, ◌∙◌}
use mathlib.Core.Bool.{Bool, true, false, ◌&&◌, ◌||◌, and-false, true≢false}
use mathlib.Core.List.{List, [], ◌∷◌}
use Prim.Native.Nat.{ℕ, zero, suc, ◌+◌, ◌-◌, ◌≤◌, ◌<◌, zero-le, suc-le-suc}
use native.Mathlib.Numerals.{add-one}
use native.Mathlib.Nat.{add-sub_cancel_left}
use native.Mathlib.Omega.{arith}
use lib.Dec.{eqb, ltb}
use lib.ListN.{length, take, drop, get_or, length-drop, drop_of_length-le}
use lib.Seq.{drop-cons, take_all, get_or-drop}
use borrow.Author.Tests.{eq-eqb, ne_eqb, eqb-true, lt-ltb, ltb-true}
use Rattle.rules.specs.Words.{pick}
use Rattle.lists.specs.Tests.{and_left, and_right}
use Rattle.rules.specs.Text.{newline_byte, return_byte, up_to, past, has, line_return, line_of}

-- x stands at i
up_to_hit : (s : List ℕ) (i x : ℕ) → i < length s → get_or s i 0 ≡ x → up_to x (drop i s) ≡ []
unfolding up_to
up_to_hit s i x h e = rw (drop-cons s i 0 h, eq-eqb _ _ e)

-- another byte stands at i
up_to_miss : (s : List ℕ) (i x : ℕ) → i < length s → (get_or s i 0 ≡ x → ⊥)
    → up_to x (drop i s) ≡ get_or s i 0 ∷ up_to x (drop (i + 1) s)
unfolding up_to
up_to_miss s i x h e = rw (add-one, drop-cons s i 0 h, ne_eqb _ _ e)

-- no byte is left
up_to_none : (x : ℕ) → up_to x [] ≡ []
unfolding up_to
up_to_none x = refl

take-pick : (t : Bool) (b : ℕ) (u s : List ℕ) → take (length u) s ≡ u
    → take (length (pick t [] (b ∷ u))) (b ∷ s) ≡ pick t [] (b ∷ u)
take-pick true b u s h = refl
take-pick false b u s h = ap (λ (l : List ℕ). b ∷ l) h

-- the part as long as what stands before the first x is what stands before it
take-up_to : (x : ℕ) (s : List ℕ) → take (length (up_to x s)) s ≡ up_to x s
unfolding up_to
take-up_to x [] = refl
take-up_to x (b ∷ s) = take-pick (eqb b x) b (up_to x s) s (take-up_to x s)

le_pick : (t : Bool) (b : ℕ) (u s : List ℕ) → length u ≤ length s → length (pick t [] (b ∷ u)) ≤ length (b ∷ s)
le_pick true b u s h = zero-le
le_pick false b u s h = suc-le-suc h

pub up_to_le : (x : ℕ) (s : List ℕ) → length (up_to x s) ≤ length s
unfolding up_to
up_to_le x [] = zero-le
up_to_le x (b ∷ s) = le_pick (eqb b x) b (up_to x s) s (up_to_le x s)

-- ---- how much stands before the first x from i on: nothing where it is at i or nothing is left, else one byte more than from i + 1 on
pub here : (s : List ℕ) (i x : ℕ) → i < length s → get_or s i 0 ≡ x → length (up_to x (drop i s)) ≡ 0
here s i x h e = ap length (up_to_hit s i x h e)

pub not_here : (s : List ℕ) (i x : ℕ) → i < length s → (get_or s i 0 ≡ x → ⊥)
    → length (up_to x (drop i s)) ≡ suc (length (up_to x (drop (i + 1) s)))
not_here s i x h e = ap length (up_to_miss s i x h e)

pub nothing_left : (s : List ℕ) (i x : ℕ) → length s ≤ i → length (up_to x (drop i s)) ≡ 0
nothing_left s i x h = ap (λ (l : List ℕ). length (up_to x l)) (drop_of_length-le s h) ∙ ap length (up_to_none x)

-- the part from `from` to the end that `seek` finds
pub part_up_to : (x from e : ℕ) (s : List ℕ) → e ≡ from + length (up_to x (drop from s))
    → take (e - from) (drop from s) ≡ up_to x (drop from s)
part_up_to x from e s h = rw (h, add-sub_cancel_left) (take-up_to x (drop from s))

past-pick : (t : Bool) (b : ℕ) (u v s : List ℕ) → (length u < length s → drop (suc (length u)) s ≡ v)
    → length (pick t [] (b ∷ u)) < length (b ∷ s)
    → drop (suc (length (pick t [] (b ∷ u)))) (b ∷ s) ≡ pick t s v
past-pick true b u v s h l = refl
past-pick false b u v s h l = h (omega arith)

-- past the first x, where there is one
pub drop_past : (x : ℕ) (s : List ℕ) → length (up_to x s) < length s → drop (suc (length (up_to x s))) s ≡ past x s
unfolding up_to past
drop_past x [] h = refl
drop_past x (b ∷ s) h = past-pick (eqb b x) b (up_to x s) (past x s) s (drop_past x s) h

none_pick : (t : Bool) (b : ℕ) (u v s : List ℕ) → (length s ≤ length u → v ≡ [])
    → length (b ∷ s) ≤ length (pick t [] (b ∷ u))
    → pick t s v ≡ []
none_pick true b u v s h l = absurd (omega arith)
none_pick false b u v s h l = h (omega arith)

-- nothing stands past it, where there is none
pub none_past : (x : ℕ) (s : List ℕ) → length s ≤ length (up_to x s) → past x s ≡ []
unfolding up_to past
none_past x [] h = refl
none_past x (b ∷ s) h = none_pick (eqb b x) b (up_to x s) (past x s) s (none_past x s) h

has-pick : (t : Bool) (b : ℕ) (u s : List ℕ) (v : Bool) → (length u < length s → v ≡ true)
    → length (pick t [] (b ∷ u)) < length (b ∷ s)
    → pick t true v ≡ true
has-pick true b u s v h l = refl
has-pick false b u s v h l = h (omega arith)

-- x stands in s where something is left after what stands before it
pub has_some : (x : ℕ) (s : List ℕ) → length (up_to x s) < length s → has x s ≡ true
unfolding up_to has
has_some x [] h = absurd (omega arith)
has_some x (b ∷ s) h = has-pick (eqb b x) b (up_to x s) s (has x s) (has_some x s) h

hasnt_pick : (t : Bool) (b : ℕ) (u s : List ℕ) (v : Bool) → (length s ≤ length u → v ≡ false)
    → length (b ∷ s) ≤ length (pick t [] (b ∷ u))
    → pick t true v ≡ false
hasnt_pick true b u s v h l = absurd (omega arith)
hasnt_pick false b u s v h l = h (omega arith)

pub has_none : (x : ℕ) (s : List ℕ) → length s ≤ length (up_to x s) → has x s ≡ false
unfolding up_to has
has_none x [] h = refl
has_none x (b ∷ s) h = hasnt_pick (eqb b x) b (up_to x s) s (has x s) (has_none x s) h

-- the part of s from a on
part_from : (a : ℕ) (s : List ℕ) → take (length s - a) (drop a s) ≡ drop a s
part_from a s = take_all (length s - a) (drop a s) (omega (arith, length-drop a s))

pub rest_some : (x e : ℕ) (s : List ℕ) → e ≡ length (up_to x s) → e < length s
    → take (length s - (e + 1)) (drop (e + 1) s) ≡ past x s
rest_some x e s h l =
    let k : e + 1 ≡ suc (length (up_to x s)) = omega arith in
    part_from (e + 1) s ∙ ap (λ (n : ℕ). drop n s) k ∙ drop_past x s (omega arith)

pub rest_none : (x e : ℕ) (s : List ℕ) → e ≡ length (up_to x s) → length s ≤ e → take (length s - e) (drop e s) ≡ past x s
rest_none x e s h l = part_from e s ∙ drop_of_length-le s l ∙ sym (none_past x s (omega arith))

-- ---- what the line finder hands back
-- a return stands at p, the last byte before the newline of t
abbrev pub ReturnAt : List ℕ → ℕ → Type 0
ReturnAt t p = (suc p ≡ length (up_to newline_byte t)) × (suc p < length t) × (get_or t p 0 ≡ return_byte)

-- a line without such a byte is handed back whole
pub line_whole : (t : List ℕ) → ((p : ℕ) → ReturnAt t p → ⊥) → line_of t ≡ up_to newline_byte t
unfolding line_of line_return up_to
line_whole [] h = refl
line_whole (b ∷ []) h = go (eqb b newline_byte)
  where
    go : (e : Bool) → pick (e || false) [] (b ∷ []) ≡ pick e [] (b ∷ [])
    go true = refl
    go false = refl
line_whole (b ∷ (d ∷ t)) h = go (eqb b newline_byte) (eqb d newline_byte) (eqb b return_byte) refl h (line_whole (d ∷ t))
  where
    go : (e f q : Bool) → eqb b return_byte ≡ q
        → ((p : ℕ) → (suc p ≡ length (pick e [] (b ∷ pick f [] (d ∷ up_to newline_byte t)))) × (suc p < length (b ∷ d ∷ t))
        × (get_or (b ∷ d ∷ t) p 0 ≡ return_byte) → ⊥)
        → (((p : ℕ) → (suc p ≡ length (pick f [] (d ∷ up_to newline_byte t))) × (suc p < length (d ∷ t))
        × (get_or (d ∷ t) p 0 ≡ return_byte)
        → ⊥) → pick (f || line_return d t) [] (d ∷ line_of t) ≡ pick f [] (d ∷ up_to newline_byte t))
        → pick (e || (q && f)) [] (b ∷ pick (f || line_return d t) [] (d ∷ line_of t))
        ≡ pick e [] (b ∷ pick f [] (d ∷ up_to newline_byte t))
    go true f q z h more = refl
    go false true true z h more = absurd (h 0 (refl, omega arith, eqb-true b return_byte z))
    go false true false z h more = refl
    go false false q z h more =
        rw (and-false q) (ap (λ (l : List ℕ). b ∷ l) (more (λ p w. h (suc p) (ap suc w.0, omega (arith, w.1), w.2))))

-- and one with it stops before it
pub line_shorter : (t : List ℕ) (p : ℕ) → ReturnAt t p → line_of t ≡ take p t
unfolding line_of line_return up_to
line_shorter [] p w = absurd (omega (arith, w.1))
line_shorter (b ∷ []) p w = absurd (omega (arith, w.1))
line_shorter (b ∷ (d ∷ t)) p w = go (eqb b newline_byte) (eqb d newline_byte) p w (line_shorter (d ∷ t))
  where
    go : (e f : Bool) (p : ℕ) → (suc p ≡ length (pick e [] (b ∷ pick f [] (d ∷ up_to newline_byte t)))) × (suc p < length (b ∷ d ∷ t))
        × (get_or (b ∷ d ∷ t) p 0 ≡ return_byte)
        → ((p : ℕ) → (suc p ≡ length (pick f [] (d ∷ up_to newline_byte t))) × (suc p < length (d ∷ t)) × (get_or (d ∷ t) p 0 ≡ return_byte)
        → pick (f || line_return d t) [] (d ∷ line_of t) ≡ take p (d ∷ t))
        → pick (e || (eqb b return_byte && f)) [] (b ∷ pick (f || line_return d t) [] (d ∷ line_of t)) ≡ take p (b ∷ d ∷ t)
    go true f p w more = absurd (omega (arith, w.0))
    go false true zero w more = rw (eq-eqb b return_byte w.2)
    go false true (suc p) w more = absurd (omega (arith, w.0))
    go false false zero w more = absurd (omega (arith, w.0))
    go false false (suc p) w more =
        rw (and-false (eqb b return_byte)) (ap (λ (l : List ℕ). b ∷ l) (more p (omega (arith, w.0), omega (arith, w.1), w.2)))

-- the part of s that the code takes, e being where the line from `from` on ends
module _ (s : List ℕ) (from e : ℕ) (ends : e ≡ from + length (up_to newline_byte (drop from s))) where
  -- a return stands right before the newline
  abbrev pub is_returned : Bool
  is_returned = ltb e (length s) && ltb from e && eqb (get_or s (e - 1) 0) return_byte

  pub returned_bounds : is_returned ≡ true → (e < length s) × (from < e)
  returned_bounds h =
      let a = and_left (ltb e (length s) && ltb from e) _ h in
      (ltb-true e (length s) (and_left (ltb e (length s)) _ a), ltb-true from e (and_right (ltb e (length s)) _ a))

  pub part_returned : is_returned ≡ true → take (e - 1 - from) (drop from s) ≡ line_of (drop from s)
  part_returned h =
      let b = returned_bounds h in
      let p = e - 1 - from in
      let k : from + p ≡ e - 1 = omega (arith, b.1) in
      sym (line_shorter (drop from s) p (
        omega (arith, b.1),
        omega (arith, b.0, b.1, length-drop from s),
        get_or-drop from s p 0 ∙ ap (λ (n : ℕ). get_or s n 0) k
            ∙ eqb-true (get_or s (e - 1) 0) return_byte (and_right (ltb e (length s) && ltb from e) _ h),
      ))

  pub part_whole : is_returned ≡ false → take (e - from) (drop from s) ≡ line_of (drop from s)
  part_whole h = part_up_to newline_byte from e s ends ∙ sym (line_whole (drop from s) none)
    where
      none : (p : ℕ) → ReturnAt (drop from s) p → ⊥
      none p w =
          let k : from + p ≡ e - 1 = omega (arith, w.0) in
          let z : get_or s (e - 1) 0 ≡ return_byte = ap (λ (n : ℕ). get_or s n 0) (sym k) ∙ sym (get_or-drop from s p 0) ∙ w.2 in
          true≢false (rw (
            lt-ltb e (length s) (omega (arith, w.0, w.1, length-drop from s)),
            lt-ltb from e (omega (arith, w.0)),
            eq-eqb (get_or s (e - 1) 0) return_byte z,
          ) at h)
