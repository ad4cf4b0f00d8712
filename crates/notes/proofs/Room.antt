-- The lent room: three numbers stored behind those that stand.
use mathlib.Core.Path.{◌≡◌, refl, ap, sym, ◌∙◌}
use mathlib.Core.List.{List, [], ◌∷◌, ◌++◌, append_assoc}
use Prim.Native.Nat.{ℕ, suc, ◌+◌, ◌*◌, ◌<◌}
use native.Mathlib.Numerals.{add-one}
use native.Mathlib.Nat.{zero-add}
use native.Mathlib.Omega.{arith}
use mathlib.Core.Bool.{Bool, true, false}
use lib.ListN.{length, get_or, set, drop}
use Rattle.bridge.specs.Events.{entry}
use lib.Seq.{drop-cons}
use Rattle.rules.specs.Words.{bit, tab, sum, count_in}
use Rattle.rules.specs.Limits.{record_width}
use Rattle.rules.specs.Replay.{Record, numbers}
use Rattle.lists.specs.Lists.{tab_long, tab_snoc}
use Rattle.bridge.specs.Notes.{numbers_long, put3, event_at, note_one, note_to}
use Rattle.notes.specs.Noted.{open_record}

set3 : (p rest : List ℕ) (x y z a b c n : ℕ) → length p ≡ n
    → set (set (set (p ++ x ∷ y ∷ z ∷ rest) n a) (n + 1) b) (n + 2) c ≡ p ++ a ∷ b ∷ c ∷ rest
set3 [] rest x y z a b c n e = rw (← e)
set3 (q ∷ p) rest x y z a b c n e =
    let e2 : suc (length p) + 2 ≡ suc (length p + 2) = omega arith in
    let e1 : suc (length p) + 1 ≡ suc (length p + 1) = omega arith in
    rw (← e, e2, e1) (ap (λ (l : List ℕ). q ∷ l) (set3 p rest x y z a b c (length p) refl))

numbers_snoc : (rs : List Record) (r : Record) → numbers (rs ++ (r ∷ [])) ≡ numbers rs
    ++ (r.verdict ∷ r.finish ∷ r.demotion ∷ [])
unfolding numbers
numbers_snoc [] r = refl
numbers_snoc (x ∷ rs) r = ap (λ (l : List ℕ). x.verdict ∷ x.finish ∷ x.demotion ∷ l) (numbers_snoc rs r)

-- three numbers taken off what a list has from n on
three_off : (xs : List ℕ) (n : ℕ) → n + 2 < length xs
    → drop n xs ≡ get_or xs n 0 ∷ get_or xs (suc n) 0 ∷ get_or xs (suc (suc n)) 0 ∷ drop (suc (suc (suc n))) xs
three_off xs n h =
    drop-cons xs n 0 (omega arith) ∙
    ap (λ (l : List ℕ). get_or xs n 0 ∷ l) (drop-cons xs (suc n) 0 (omega arith) ∙
    ap (λ (l : List ℕ). get_or xs (suc n) 0 ∷ l) (drop-cons xs (suc (suc n)) 0 (omega arith)))

-- the numbers of n open records
abbrev pub opens : ℕ → List ℕ
opens n = numbers (tab (λ j. open_record) 0 n)

-- one record more is opened
pub open_next : (xs : List ℕ) (j : ℕ) → j * record_width + 2 < length xs
    → set (set (set (opens j ++ drop (j * record_width) xs) (j * record_width) 3) (j * record_width + 1) 0) (j * record_width + 2) 0
    ≡ opens (j + 1) ++ drop ((j + 1) * record_width) xs
open_next xs j h =
    let n = j * record_width in
    let long : length (opens j) ≡ n = numbers_long _ ∙ ap (λ (k : ℕ). k * record_width) (tab_long (λ j. open_record) 0 j) in
    let e : (j + 1) * record_width ≡ suc (suc (suc n)) = omega arith in
    rw (three_off xs n h, e, add-one j)
    (set3 (opens j) (drop (suc (suc (suc n))) xs) _ _ _ 3 0 0 n long ∙
    sym (rw (tab_snoc (λ (j : ℕ). open_record) 0 j, numbers_snoc (tab (λ j. open_record) 0 j) open_record)
    (append_assoc (opens j) (3 ∷ 0 ∷ 0 ∷ []) (drop (suc (suc (suc n))) xs))))

-- ---- the stores of one slot, one task more
module _ (t : ℕ) (place : List ℕ) (fin dem missed : List Bool) (i : ℕ) (xs out new : List ℕ)
    (so_far : out ≡ note_to t place fin dem missed i xs) where
  pub note_yes : (b : Bool) → b ≡ event_at fin dem missed i → b ≡ true
      → new ≡ put3 out (get_or place i 0) (entry t (get_or fin i false) (get_or dem i false) (get_or missed i false)
      (get_or out (get_or place i 0 * record_width + 2) 0))
      → new ≡ note_to t place fin dem missed (i + 1) xs
  unfolding note_to note_one
  note_yes b e h n = n ∙ rw (add-one i, sym e ∙ h, ← so_far)

  pub note_no : (b : Bool) → b ≡ event_at fin dem missed i → b ≡ false → new ≡ out
      → new ≡ note_to t place fin dem missed (i + 1) xs
  unfolding note_to note_one
  note_no b e h n = n ∙ so_far ∙ sym (rw (add-one i, sym e ∙ h))

-- a count goes over one more
pub tally : (p : ℕ → Bool) (j : ℕ) → count_in p 0 (j + 1) ≡ count_in p 0 j + bit (p j)
unfolding sum
tally p j = rw (add-one j, zero-add j)
