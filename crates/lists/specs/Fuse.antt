-- Two changes of a list by index made as one, and a change that is read at one index alone: laws of `map_at` (rules, Words).
-- Nothing of scheduling. For code that makes several of the steps in one pass over the 32 records.
use Rattle.std.specs.Prelude.{◌≡◌, refl, List, [], ◌∷◌, ℕ, suc, ◌<◌, length, get_or}
use Rattle.std.proofs.Common.{ap, sym, ◌∙◌, arith, ext_get_or}
use Rattle.rules.specs.Words.{map_from, map_at}
use Rattle.lists.specs.Lists.{map_from_long, map_at_at}

fuse_from : {A : Type 0} (f g : ℕ → A → A) (k : ℕ) (xs : List A)
    → map_from f k (map_from g k xs) ≡ map_from (λ i x. f i (g i x)) k xs
unfolding map_from
fuse_from f g k [] = refl
fuse_from f g k (x ∷ xs) = ap (λ l. f k (g k x) ∷ l) (fuse_from f g (suc k) xs)

-- g and then f, at each index, is one change
pub fuse : {A : Type 0} (f g : ℕ → A → A) (xs : List A) → map_at f (map_at g xs) ≡ map_at (λ i x. f i (g i x)) xs
fuse f g xs = fuse_from f g 0 xs

keep_from : {A : Type 0} (k : ℕ) (xs : List A) → map_from (λ i x. x) k xs ≡ xs
unfolding map_from
keep_from k [] = refl
keep_from k (x ∷ xs) = ap (λ l. x ∷ l) (keep_from (suc k) xs)

-- a change that keeps each element
pub keep_all : {A : Type 0} (xs : List A) → map_at (λ i x. x) xs ≡ xs
keep_all xs = keep_from 0 xs

-- two changes that agree on the elements that are there
pub same_each : {A : Type 0} (f g : ℕ → A → A) (xs : List A) (d : A)
    → ((i : ℕ) → i < length xs → f i (get_or xs i d) ≡ g i (get_or xs i d)) → map_at f xs ≡ map_at g xs
same_each f g xs d h =
    ext_get_or d (map_at f xs) (map_at g xs) (map_from_long f 0 xs ∙ sym (map_from_long g 0 xs))
    (λ i l. let k : i < length xs = omega (arith, map_from_long f 0 xs) in map_at_at f xs i d k ∙ h i k ∙ sym (map_at_at g xs i d k))
