-- Texts cut at a byte (`up_to`, `past`, `has` of rules, Text): what stands before the first of it and past it, and that the two and the
-- byte make up the text. A line is its fields parted by single tabs, with a newline behind. For LinesOf, LineTrip and Lines.
use Rattle.std.specs.Prelude.{◌≡◌, Bool, true, List, [], ◌∷◌, ◌++◌, ℕ, suc, ◌≤◌, ◌<◌, eqb, length, get_or, take}
use Rattle.std.proofs.Math.Path.{refl}
use Rattle.std.proofs.Common.{sym, ap, ap₂, ◌∙◌, true≢false, append_assoc, arith, length-append, eq-eqb, ne_eqb, eqb-true}
use Rattle.std.proofs.Math.Bool.{false}
use Rattle.std.proofs.lemmas.Bool.{false≢true}
use Rattle.rules.specs.Words.{pick}
use Rattle.rules.specs.Text.{newline_byte, return_byte, tab_byte, same, up_to, past, has, all_digits, digits_of}
use Rattle.rules.specs.Writer.{joined_text, more_fields, line_text}
use Rattle.lists.specs.Tests.{and_left, and_right}
use Rattle.lists.specs.Lists.{picked}
use Rattle.texts.specs.Digits.{head_digit, all_digits_lem}

-- what holds of each in a list
unfoldable pub All : {A : Type 0} → (A → Type 0) → List A → Type 0
All P [] = Unit
All P (x ∷ xs) = P x × All P xs

-- ---- texts that are the same
pub same_true : (s t : List ℕ) → same s t ≡ true → s ≡ t
unfolding same
same_true [] [] e = refl
same_true [] (y ∷ t) e = absurd (false≢true e)
same_true (x ∷ s) [] e = absurd (false≢true e)
same_true (x ∷ s) (y ∷ t) e = ap₂ ◌∷◌ (eqb-true x y (and_left (eqb x y) _ e)) (same_true s t (and_right (eqb x y) _ e))

-- ---- a text without x, then x, then more
-- the first byte of a text without x is not x, and no more is any other
pub without_head : (x b : ℕ) (s : List ℕ) → has x (b ∷ s) ≡ false → (eqb b x ≡ false) × (has x s ≡ false)
unfolding has
without_head x b s = picked (λ t. t ≡ false → (eqb b x ≡ false) × (has x s ≡ false)) (eqb b x) true (has x s)
    (λ p e. absurd (true≢false e))
    (λ p e. (p, e))

pub up_to_seam : (x : ℕ) (s t : List ℕ) → has x s ≡ false → up_to x (s ++ (x ∷ t)) ≡ s
unfolding up_to
up_to_seam x [] t h = rw (eq-eqb x x refl)
up_to_seam x (b ∷ s) t h = let w = without_head x b s h in rw (w.0, up_to_seam x s t w.1)

pub past_seam : (x : ℕ) (s t : List ℕ) → has x s ≡ false → past x (s ++ (x ∷ t)) ≡ t
unfolding past
past_seam x [] t h = rw (eq-eqb x x refl)
past_seam x (b ∷ s) t h = let w = without_head x b s h in rw (w.0, past_seam x s t w.1)

-- and where there is none, all of it is before and nothing past
pub up_to_none : (x : ℕ) (s : List ℕ) → has x s ≡ false → up_to x s ≡ s
unfolding up_to
up_to_none x [] h = refl
up_to_none x (b ∷ s) h = let w = without_head x b s h in rw (w.0, up_to_none x s w.1)

pub past_none : (x : ℕ) (s : List ℕ) → has x s ≡ false → past x s ≡ []
unfolding past
past_none x [] h = refl
past_none x (b ∷ s) h = let w = without_head x b s h in rw (w.0, past_none x s w.1)

pub has_seam : (x : ℕ) (s t : List ℕ) → has x (s ++ (x ∷ t)) ≡ true
unfolding has
has_seam x [] t = rw (eq-eqb x x refl)
has_seam x (b ∷ s) t = picked (λ z. z ≡ true) (eqb b x) true (has x (s ++ (x ∷ t))) (λ e. refl) (λ e. has_seam x s t)

-- ---- what stands before the first x: it has none, it is the text's own beginning, and where the text goes on x follows
pub up_to_without : (x : ℕ) (s : List ℕ) → has x (up_to x s) ≡ false
unfolding has up_to
up_to_without x [] = refl
up_to_without x (b ∷ s) = go (eqb b x) refl (up_to_without x s)
  where
    go : (e : Bool) → eqb b x ≡ e → has x (up_to x s) ≡ false → has x (pick e [] (b ∷ up_to x s)) ≡ false
    go true q h = unfold has in refl
    go false q h = unfold has in rw (q, h)

pub up_to-take : (x : ℕ) (s : List ℕ) → take (length (up_to x s)) s ≡ up_to x s
unfolding up_to
up_to-take x [] = refl
up_to-take x (b ∷ s) = go (eqb b x) (up_to-take x s)
  where
    go : (e : Bool) → take (length (up_to x s)) s ≡ up_to x s → take (length (pick e [] (b ∷ up_to x s))) (b ∷ s)
        ≡ pick e [] (b ∷ up_to x s)
    go true h = refl
    go false h = ap (λ (r : List ℕ). b ∷ r) h

pub up_to_short : (x : ℕ) (s : List ℕ) → length (up_to x s) ≤ length s
unfolding up_to
up_to_short x [] = omega arith
up_to_short x (b ∷ s) = go (eqb b x) (up_to_short x s)
  where
    go : (e : Bool) → length (up_to x s) ≤ length s → length (pick e [] (b ∷ up_to x s)) ≤ suc (length s)
    go true h = omega arith
    go false h = omega arith

pub up_to_stop : (x : ℕ) (s : List ℕ) (d : ℕ) → length (up_to x s) < length s → get_or s (length (up_to x s)) d ≡ x
unfolding up_to
up_to_stop x [] d l = absurd (omega arith)
up_to_stop x (b ∷ s) d l = go (eqb b x) refl (up_to_stop x s d) l
  where
    go : (e : Bool) → eqb b x ≡ e → (length (up_to x s) < length s → get_or s (length (up_to x s)) d ≡ x)
        → length (pick e [] (b ∷ up_to x s)) < suc (length s) → get_or (b ∷ s) (length (pick e [] (b ∷ up_to x s))) d ≡ x
    go true q h l = eqb-true b x q
    go false q h l = h (omega arith)

-- ---- a text with x is cut at the first of it
pub cut_at : (x : ℕ) (s : List ℕ) → has x s ≡ true → up_to x s ++ (x ∷ past x s) ≡ s
unfolding has up_to past
cut_at x [] h = absurd (false≢true h)
cut_at x (b ∷ s) h = go (cut_at x s) (eqb b x) refl h
  where
    go : (has x s ≡ true → up_to x s ++ (x ∷ past x s) ≡ s) → (t : Bool) → eqb b x ≡ t → pick t true (has x s) ≡ true
        → pick t [] (b ∷ up_to x s) ++ (x ∷ pick t s (past x s)) ≡ b ∷ s
    go more true e h = ap (λ (y : ℕ). y ∷ s) (sym (eqb-true b x e))
    go more false e h = ap (λ (r : List ℕ). b ∷ r) (more h)

-- a text with something past x has x
pub past_some : (x : ℕ) (s : List ℕ) → 1 ≤ length (past x s) → has x s ≡ true
unfolding has past
past_some x [] h = absurd (omega arith)
past_some x (b ∷ s) h = go (past_some x s) (eqb b x) h
  where
    go : (1 ≤ length (past x s) → has x s ≡ true) → (t : Bool) → 1 ≤ length (pick t s (past x s))
        → pick t true (has x s) ≡ true
    go more true h = refl
    go more false h = more h

-- what is past x is shorter, where there was anything
pub past_less : (x b : ℕ) (s : List ℕ) → length (past x (b ∷ s)) ≤ length s
unfolding past
past_less x b [] = picked (λ (z : List ℕ). length z ≤ 0) (eqb b x) [] [] (λ e. omega arith) (λ e. omega arith)
past_less x b (d ∷ s) = picked (λ (z : List ℕ). length z ≤ suc (length s)) (eqb b x) (d ∷ s) (past x (d ∷ s)) (λ e. omega arith)
    (λ e. omega (arith, past_less x d s))

-- ---- a text in which no tab, no newline and no return stands
pub record Plain (s : List ℕ) : Type 0 where
  pub no_tab : has tab_byte s ≡ false
  pub no_newline : has newline_byte s ≡ false
  pub no_return : has return_byte s ≡ false

-- a byte that is no digit does not stand among digits
digits_without : (x : ℕ) (s : List ℕ) → x < 48 → all_digits s ≡ true → has x s ≡ false
unfolding has
digits_without x [] h p = refl
digits_without x (b ∷ s) h p = let d = head_digit b s p in rw (ne_eqb b x (omega arith), digits_without x s h d.2)

pub digits_plain : (n : ℕ) → Plain (digits_of n)
digits_plain n = record {
  no_tab = digits_without tab_byte (digits_of n) (omega arith) (all_digits_lem n);
  no_newline = digits_without newline_byte (digits_of n) (omega arith) (all_digits_lem n);
  no_return = digits_without return_byte (digits_of n) (omega arith) (all_digits_lem n);
}

-- ---- fields parted by one tab: a first one and more
unfoldable pub parted : List ℕ → List (List ℕ) → List ℕ
parted f [] = f
parted f (g ∷ gs) = f ++ (tab_byte ∷ parted g gs)

-- a line is its fields so parted, and a newline
pub line_parted : (f : List ℕ) (fs : List (List ℕ)) → line_text tab_byte f fs ≡ parted f fs ++ (newline_byte ∷ [])
unfolding line_text more_fields parted
line_parted f [] = refl
line_parted f (g ∷ gs) = ap (λ (t : List ℕ). f ++ (tab_byte ∷ t)) (line_parted g gs)
    ∙ sym (append_assoc f (tab_byte ∷ parted g gs) (newline_byte ∷ []))

-- what stands in neither of two texts does not stand in their join, and the other way
pub without_append : (x : ℕ) (s t : List ℕ) → has x s ≡ false → has x t ≡ false → has x (s ++ t) ≡ false
unfolding has
without_append x [] t p q = q
without_append x (b ∷ s) t p q = let w = without_head x b s p in rw (w.0, without_append x s t w.1 q)

pub without_parts : (x : ℕ) (s t : List ℕ) → has x (s ++ t) ≡ false → (has x s ≡ false) × (has x t ≡ false)
unfolding has
without_parts x [] t h = (refl, h)
without_parts x (b ∷ s) t h =
    let w = without_head x b (s ++ t) h in
    let v = without_parts x s t w.1 in
    (rw (w.0, v.0), v.1)

-- nor in their join, any number of them
pub without_joined : (x : ℕ) (ss : List (List ℕ)) → All (λ s. has x s ≡ false) ss → has x (joined_text ss) ≡ false
unfolding All joined_text has
without_joined x [] a = refl
without_joined x (s ∷ ss) a = without_append x s (joined_text ss) a.0 (without_joined x ss a.1)

-- a byte that is no tab and stands in no field does not stand between them
parted_without : (x : ℕ) → eqb tab_byte x ≡ false → ((f : List ℕ) → Plain f → has x f ≡ false)
    → (f : List ℕ) (fs : List (List ℕ)) → Plain f → All Plain fs → has x (parted f fs) ≡ false
unfolding parted All has
parted_without x e none f [] p ps = none f p
parted_without x e none f (g ∷ gs) p ps =
    without_append x f _ (none f p) (rw e (parted_without x e none g gs ps.0 ps.1))

pub parted_no_newline : (f : List ℕ) (fs : List (List ℕ)) → Plain f → All Plain fs → has newline_byte (parted f fs) ≡ false
parted_no_newline = parted_without newline_byte refl (λ f p. p.no_newline)

pub parted_no_return : (f : List ℕ) (fs : List (List ℕ)) → Plain f → All Plain fs → has return_byte (parted f fs) ≡ false
parted_no_return = parted_without return_byte refl (λ f p. p.no_return)

parted_some : (f : List ℕ) (fs : List (List ℕ)) → 1 ≤ length f → 1 ≤ length (parted f fs)
unfolding parted
parted_some f [] h = h
parted_some f (g ∷ gs) h = omega (arith, length-append f (tab_byte ∷ parted g gs))

-- a text whose first field is f and whose others are g and gs is these so parted
pub parted-cons : (s f g : List ℕ) (gs : List (List ℕ)) → up_to tab_byte s ≡ f → past tab_byte s ≡ parted g gs → 1 ≤ length g
    → s ≡ parted f (g ∷ gs)
unfolding parted
parted-cons s f g gs p q h =
    let l : 1 ≤ length (past tab_byte s) = rw q (parted_some g gs h) in
    sym (cut_at tab_byte s (past_some tab_byte s l)) ∙ ap₂ (λ (a b : List ℕ). a ++ (tab_byte ∷ b)) p q
