-- Returns (request P4; `line_return`, `line_of`, `without_returns` of rules, Text): the line finder stops before one return, and only where
-- the newline stands right behind it; a text without its returns is its lines, each with a bare newline. For LinesOf and AsBefore.
use Rattle.std.specs.Prelude.{◌≡◌, Bool, ◌||◌, List, [], ◌∷◌, ◌++◌, ℕ, suc, ◌≤◌, eqb, length}
use Rattle.std.proofs.Math.Path.{refl}
use Rattle.std.proofs.Common.{sym, ap, ◌∙◌, true≢false, arith, eqb-true}
use Rattle.std.proofs.Math.Bool.{true, false, and-false}
use Rattle.std.proofs.lemmas.Bool.{false≢true}
use Rattle.rules.specs.Words.{pick}
use Rattle.rules.specs.Text.{newline_byte, return_byte, up_to, past, has, line_return, line_of, without_returns, after_line}
use Rattle.lists.specs.Lists.{picked}
use Rattle.lists.specs.Tests.{and_right}
use Rattle.texts.specs.Fields.{without_head}

-- ---- a return counts only where it stands right before a newline
-- another byte is none
other_byte : (b : ℕ) (s : List ℕ) → eqb b return_byte ≡ false → line_return b s ≡ false
unfolding line_return
other_byte b [] e = refl
other_byte b (d ∷ s) e = rw e

-- nor is one with another byte behind it
other_behind : (b d : ℕ) (s : List ℕ) → eqb d newline_byte ≡ false → line_return b (d ∷ s) ≡ false
unfolding line_return
other_behind b d s e = rw e (and-false (eqb b return_byte))

-- or with nothing but such bytes
none_behind : (b : ℕ) (s : List ℕ) → has newline_byte s ≡ false → line_return b s ≡ false
unfolding line_return
none_behind b [] h = refl
none_behind b (d ∷ s) h = other_behind b d s (without_head newline_byte d s h).0

-- a newline is no return
newline_other : (b : ℕ) (s : List ℕ) → eqb b newline_byte ≡ true → line_return b s ≡ false
newline_other b s e = rw (eqb-true b newline_byte e) (other_byte newline_byte s refl)

-- ---- what the line finder hands back
-- all that stands before the newline, where no return does
pub line_plain : (l s : List ℕ) → has newline_byte l ≡ false → has return_byte l ≡ false → line_of (l ++ (newline_byte ∷ s)) ≡ l
unfolding line_of
line_plain [] s h r = refl
line_plain (b ∷ l) s h r =
    let w = without_head newline_byte b l h in
    let v = without_head return_byte b l r in
    rw (w.0, other_byte b (l ++ (newline_byte ∷ s)) v.0, line_plain l s w.1 v.1)

-- all that stands before one return and the newline, whatever that is: a return in front of it stays
pub line_returned : (l s : List ℕ) → has newline_byte l ≡ false → line_of (l ++ (return_byte ∷ newline_byte ∷ s)) ≡ l
unfolding line_of line_return
line_returned [] s h = refl
line_returned (b ∷ l) s h =
    let w = without_head newline_byte b l h in
    rw (w.0, within l w.1, line_returned l s w.1)
  where
    within : (l : List ℕ) → has newline_byte l ≡ false → line_return b (l ++ (return_byte ∷ newline_byte ∷ s)) ≡ false
    within [] h = other_behind b return_byte (newline_byte ∷ s) refl
    within (d ∷ l) h = other_behind b d (l ++ (return_byte ∷ newline_byte ∷ s)) (without_head newline_byte d l h).0

-- what is past the newline does not matter to it
front_return : (b : ℕ) (l s t : List ℕ) → line_return b (l ++ (newline_byte ∷ s)) ≡ line_return b (l ++ (newline_byte ∷ t))
unfolding line_return
front_return b [] s t = refl
front_return b (d ∷ l) s t = refl

pub line_front : (l s t : List ℕ) → line_of (l ++ (newline_byte ∷ s)) ≡ line_of (l ++ (newline_byte ∷ t))
unfolding line_of
line_front [] s t = refl
line_front (b ∷ l) s t = rw (front_return b l s t, line_front l s t)

-- all of it, with any return, where no newline stands
pub line_unended : (s : List ℕ) → has newline_byte s ≡ false → line_of s ≡ s
unfolding line_of
line_unended [] h = refl
line_unended (b ∷ s) h =
    let w = without_head newline_byte b s h in
    rw (w.0, none_behind b s w.1, line_unended s w.1)

-- what stands before the newline, in a text without a return
pub line_up_to : (s : List ℕ) → has return_byte s ≡ false → line_of s ≡ up_to newline_byte s
unfolding line_of up_to
line_up_to [] r = refl
line_up_to (b ∷ s) r =
    let v = without_head return_byte b s r in
    rw (other_byte b s v.0, line_up_to s v.1) (go (eqb b newline_byte))
  where
    go : (e : Bool) → pick (e || false) [] (b ∷ up_to newline_byte s) ≡ pick e [] (b ∷ up_to newline_byte s)
    go true = refl
    go false = refl

-- it is what stands before the newline, or one byte less
over_up_to : (b : ℕ) (s : List ℕ) → line_return b s ≡ true → up_to newline_byte s ≡ []
unfolding line_return up_to
over_up_to b [] e = absurd (false≢true e)
over_up_to b (d ∷ s) e = rw (and_right (eqb b return_byte) (eqb d newline_byte) e)

pub line_short : (s : List ℕ) → length (up_to newline_byte s) ≤ suc (length (line_of s))
unfolding up_to line_of
line_short [] = omega arith
line_short (b ∷ s) = go (eqb b newline_byte) (line_return b s) refl (line_short s)
  where
    go : (t r : Bool) → line_return b s ≡ r → length (up_to newline_byte s) ≤ suc (length (line_of s))
        → length (pick t [] (b ∷ up_to newline_byte s)) ≤ suc (length (pick (t || r) [] (b ∷ line_of s)))
    go true r e h = omega arith
    go false true e h = omega (arith, ap length (over_up_to b s e))
    go false false e h = omega arith

-- no newline stands in it
pub line_no_newline : (s : List ℕ) → has newline_byte (line_of s) ≡ false
unfolding line_of has
line_no_newline [] = refl
line_no_newline (b ∷ s) = go (eqb b newline_byte) refl (line_return b s) (line_no_newline s)
  where
    go : (t : Bool) → eqb b newline_byte ≡ t → (r : Bool) → has newline_byte (line_of s) ≡ false
        → has newline_byte (pick (t || r) [] (b ∷ line_of s)) ≡ false
    go true e r h = unfold has in refl
    go false e true h = unfold has in refl
    go false e false h = unfold has in rw (e, h)

-- ---- a text without its returns
-- where no return stands it is the text
pub without_none : (s : List ℕ) → has return_byte s ≡ false → without_returns s ≡ s
unfolding without_returns
without_none [] r = refl
without_none (b ∷ s) r = let v = without_head return_byte b s r in rw (other_byte b s v.0, without_none s v.1)

-- and where no newline does
pub without_unended : (s : List ℕ) → has newline_byte s ≡ false → without_returns s ≡ s
unfolding without_returns
without_unended [] h = refl
without_unended (b ∷ s) h = let w = without_head newline_byte b s h in rw (none_behind b s w.1, without_unended s w.1)

-- it is no longer than the text
pub without_short : (s : List ℕ) → length (without_returns s) ≤ length s
unfolding without_returns
without_short [] = omega arith
without_short (b ∷ s) =
    picked (λ (t : List ℕ). length t ≤ suc (length s)) (line_return b s) (without_returns s) (b ∷ without_returns s)
    (λ e. omega (arith, without_short s)) (λ e. omega (arith, without_short s))

-- the line is over where a return stands right before its newline
over_behind : (b : ℕ) (s : List ℕ) → line_return b s ≡ true → line_of s ≡ []
unfolding line_return line_of
over_behind b [] e = absurd (false≢true e)
over_behind b (d ∷ s) e = rw (and_right (eqb b return_byte) (eqb d newline_byte) e)

-- a text with a newline: its first line, the newline, and the others so
pub without_line : (s : List ℕ) → has newline_byte s ≡ true
    → without_returns s ≡ line_of s ++ (newline_byte ∷ without_returns (after_line s))
unfolding has line_of after_line past without_returns
without_line [] h = absurd (false≢true h)
without_line (b ∷ s) h = go (without_line s) (eqb b newline_byte) refl (line_return b s) refl h
  where
    go : (has newline_byte s ≡ true → without_returns s ≡ line_of s ++ (newline_byte ∷ without_returns (past newline_byte s)))
        → (t : Bool) → eqb b newline_byte ≡ t → (r : Bool) → line_return b s ≡ r → pick t true (has newline_byte s) ≡ true
        → pick r (without_returns s) (b ∷ without_returns s)
        ≡ pick (t || r) [] (b ∷ line_of s) ++ (newline_byte ∷ without_returns (pick t s (past newline_byte s)))
    go more true e true q h = absurd (true≢false (sym q ∙ newline_other b s e))
    go more true e false q h = ap (λ (x : ℕ). x ∷ without_returns s) (eqb-true b newline_byte e)
    go more false e true q h = rw (over_behind b s q) at (more h)
    go more false e false q h = ap (λ (l : List ℕ). b ∷ l) (more h)
