-- The tasks that a chain counts, as the rules count them by index.
use Rattle.std.proofs.Common.{◌≡◌, refl, Bool, true, false, cond, List, ◌∷◌, ℕ, ◌+◌, length, get_or, arith}
use Rattle.std.specs.List.{count_by}
use Rattle.std.proofs.lemmas.List.Recursion.{is_count_by}
use Rattle.rules.specs.Words.{bit, sum, count_in}
use Rattle.rules.specs.Limits.{max_tasks}
use Rattle.lists.specs.Sums.{sum_head, sum_shift}

one_more : (b : Bool) (n : ℕ) → bit b + n ≡ cond b (1 + n) n
one_more true n = refl
one_more false n = omega arith

count_index : {X : Type 0} (p : X → Bool) (d : X) (xs : List X) → count_in (λ i. p (get_or xs i d)) 0 (length xs) ≡ count_by p xs
unfolding sum
count_index p d =
    is_count_by (λ xs. count_in (λ i. p (get_or xs i d)) 0 (length xs)) p refl (λ x xs.
    rw (sum_head (λ i. bit (p (get_or (x ∷ xs) i d))) 0 (length xs), sum_shift (λ i. bit (p (get_or (x ∷ xs) i d))) 0 (length xs))
    (one_more (p x) _))

pub count_tasks : {X : Type 0} (p : X → Bool) (d : X) (xs : List X) (n : ℕ) → length xs ≡ max_tasks → n ≡ count_by p xs
    → n ≡ count_in (λ i. p (get_or xs i d)) 0 max_tasks
count_tasks p d xs n l e = rw (← l, count_index p d xs) e
