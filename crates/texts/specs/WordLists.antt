-- Lists of words (`place_from` of rules, Policies): a test that holds of every word of a list, words of which no two are the same, and that
-- a word is found at its own place and nowhere else. A word more in such a list is tested by computing and needs no law.
use Rattle.std.specs.Prelude.{Option, Some, None}
use Rattle.std.specs.Prelude.{◌≡◌, refl, Bool, true, false, ◌&&◌, not, List, [], ◌∷◌, ℕ, zero, suc, ◌+◌, ◌≤◌, ◌<◌, leb, length, get_or}
use Rattle.std.proofs.Common.{sym, ◌∙◌, add-zero, add-suc, suc-add, arith, eq-eqb, leb-true}
use Rattle.rules.specs.Text.{newline_byte, return_byte, tab_byte, same, has}
use Rattle.rules.specs.Policies.{place_from}
use Rattle.lists.specs.Lists.{picked}
use Rattle.lists.specs.Tests.{and_left, and_right}
use Rattle.texts.specs.Fields.{same_true, Plain}

-- ---- a test that holds of every word
unfoldable pub every : (List ℕ → Bool) → List (List ℕ) → Bool
every p [] = true
every p (w ∷ ws) = p w && every p ws

pub every_at : (p : List ℕ → Bool) (ws : List (List ℕ)) (k : ℕ) → every p ws ≡ true → k < length ws
    → p (get_or ws k []) ≡ true
unfolding every
every_at p [] k e h = absurd (omega arith)
every_at p (w ∷ ws) zero e h = and_left (p w) _ e
every_at p (w ∷ ws) (suc k) e h = every_at p ws k (and_right (p w) _ e) (omega arith)

-- past the last word there is the empty one
pub none_at : (ws : List (List ℕ)) (k : ℕ) → length ws ≤ k → get_or ws k [] ≡ []
none_at [] k h = refl
none_at (w ∷ ws) zero h = absurd (omega arith)
none_at (w ∷ ws) (suc k) h = none_at ws k (omega arith)

-- so of each number, where the test holds of the empty word too
pub every_all : (p : List ℕ → Bool) (ws : List (List ℕ)) (k : ℕ) → every p ws ≡ true → p [] ≡ true
    → p (get_or ws k []) ≡ true
unfolding every
every_all p [] k e h = h
every_all p (w ∷ ws) zero e h = and_left (p w) _ e
every_all p (w ∷ ws) (suc k) e h = every_all p ws k (and_right (p w) _ e) h

-- ---- tests of a word: no tab, no newline and no return stands in it; it has at least a and at most b bytes
abbrev pub is_plain : List ℕ → Bool
is_plain s = not (has tab_byte s) && not (has newline_byte s) && not (has return_byte s)

abbrev pub is_long : ℕ → ℕ → List ℕ → Bool
is_long a b s = leb a (length s) && leb (length s) b

not-true : (b : Bool) → not b ≡ true → b ≡ false
not-true false e = refl
not-true true e = sym e

pub is_plain_lem : (s : List ℕ) → is_plain s ≡ true → Plain s
is_plain_lem s e =
    let a = and_left (not (has tab_byte s) && not (has newline_byte s)) _ e in
    record {
      no_tab = not-true (has tab_byte s) (and_left (not (has tab_byte s)) _ a);
      no_newline = not-true (has newline_byte s) (and_right (not (has tab_byte s)) _ a);
      no_return = not-true (has return_byte s) (and_right (not (has tab_byte s) && not (has newline_byte s)) _ e);
    }

pub is_long_lem : (a b : ℕ) (s : List ℕ) → is_long a b s ≡ true → (a ≤ length s) × (length s ≤ b)
is_long_lem a b s e = (leb-true a (length s) (and_left (leb a (length s)) _ e), leb-true (length s) b (and_right (leb a (length s)) _ e))

-- ---- no two words are the same
unfoldable pub distinct : List (List ℕ) → Bool
distinct [] = true
distinct (w ∷ ws) = every (λ v. not (same v w)) ws && distinct ws

same_self : (s : List ℕ) → same s s ≡ true
unfolding same
same_self [] = refl
same_self (x ∷ s) = rw (eq-eqb x x refl, same_self s)

-- a word is found at its place
pub place_found : (n : ℕ) (ws : List (List ℕ)) (k : ℕ) → distinct ws ≡ true → k < length ws
    → place_from n ws (get_or ws k []) ≡ Some (n + k)
unfolding place_from distinct
place_found n [] k e h = absurd (omega arith)
place_found n (w ∷ ws) zero e h = rw (same_self w, add-zero n)
place_found n (w ∷ ws) (suc k) e h =
    let others = every (λ v. not (same v w)) ws in
    let off : same (get_or ws k []) w ≡ false = not-true _ (every_at (λ v. not (same v w)) ws k (and_left others _ e) (omega arith)) in
    rw (off) (place_found (suc n) ws k (and_right others _ e) (omega arith) ∙ rw (add-suc, suc-add))

-- and what is found is the word at its place
pub place_read : (P : Option ℕ → Type 0) (n : ℕ) (ws : List (List ℕ)) (s : List ℕ) → P None
    → ((k : ℕ) → k < length ws → s ≡ get_or ws k [] → P (Some (n + k))) → P (place_from n ws s)
unfolding place_from
place_read P n [] s bad good = bad
place_read P n (w ∷ ws) s bad good =
    picked P (same s w) _ _ (λ e. rw (add-zero n) at (good 0 (omega arith) (same_true s w e)))
    (λ _. place_read P (suc n) ws s bad (λ k h e. rw (add-suc, ← suc-add) at (good (suc k) (omega arith) e)))
