-- The words that the rules are written in: a choice, a sum, a count, the first of many, a list by index. Nothing of scheduling.
-- Document 01 fixes none of them: they are what its sentences are put into. Read them before the other files of rules.
use Rattle.std.specs.Prelude.{ℕ, zero, suc, ◌+◌, Bool, true, false, ◌&&◌, List, [], ◌∷◌}

-- `a` where the test holds, else `b`
abbrev pub pick : {A : Type 0} → Bool → A → A → A
pick true a b = a
pick false a b = b

-- 1 where the test holds, else 0
abbrev pub bit : Bool → ℕ
bit true = 1
bit false = 0

-- f a + f (a + 1) + .. + f (a + l - 1)
unfoldable pub sum : (ℕ → ℕ) → ℕ → ℕ → ℕ
sum f a zero = 0
sum f a (suc l) = sum f a l + f (a + l)

-- how many of a, .., a + l - 1 pass the test
abbrev pub count_in : (ℕ → Bool) → ℕ → ℕ → ℕ
count_in p a l = sum (λ t. bit (p t)) a l

-- the test holds of 0, .., n - 1
unfoldable pub holds_below : (ℕ → Bool) → ℕ → Bool
holds_below p zero = true
holds_below p (suc n) = holds_below p n && p n

-- the number that is there already, or else `v` where the test holds
abbrev pub or_else : ℕ → Bool → ℕ → ℕ
or_else zero b v = pick b v 0
or_else (suc n) b v = suc n

-- one more than the first of a, .., a + l - 1 that passes the test; 0 where none does
unfoldable pub first_in : (ℕ → Bool) → ℕ → ℕ → ℕ
first_in p a zero = 0
first_in p a (suc l) = or_else (first_in p a l) (p (a + l)) (suc (a + l))

-- the list f k, f (k + 1), .., f (k + n - 1)
unfoldable pub tab : {A : Type 0} → (ℕ → A) → ℕ → ℕ → List A
tab f k zero = []
tab f k (suc n) = f k ∷ tab f (suc k) n

-- each element `x`, at its index `i` counted from k, becomes `f i x`
unfoldable pub map_from : {A : Type 0} → (ℕ → A → A) → ℕ → List A → List A
map_from f k [] = []
map_from f k (x ∷ xs) = f k x ∷ map_from f (suc k) xs

-- each element `x`, at its index `i`, becomes `f i x`
abbrev pub map_at : {A : Type 0} → (ℕ → A → A) → List A → List A
map_at f xs = map_from f 0 xs
