-- The first task that passes a test, as a loop looks for it: none of those before it passes.
use Rattle.std.proofs.Common.{◌≡◌, Bool, true, false, ℕ, zero, suc, ◌+◌, ◌-◌, ◌<◌, add-zero, add-suc, zero-add, add-one, arith}
use Rattle.rules.specs.Words.{first_in}
use Rattle.blame.specs.Agrees.{none_first}

-- what is found stays
first_stays : (p : ℕ → Bool) (k l x : ℕ) → first_in p 0 k ≡ suc x → first_in p 0 (k + l) ≡ suc x
unfolding first_in
first_stays p k zero x e = rw (add-zero k) e
first_stays p k (suc l) x e = rw (add-suc k l, first_stays p k l x e)

first_here : (p : ℕ → Bool) (i : ℕ) → ((k : ℕ) → k < i → p k ≡ false) → p i ≡ true → first_in p 0 (suc i) ≡ suc i
unfolding first_in
first_here p i h e = rw (zero-add i, none_first p i h, e)

pub first_found : (p : ℕ → Bool) (i n : ℕ) → ((k : ℕ) → k < i → p k ≡ false) → i < n → p i ≡ true → first_in p 0 n ≡ i + 1
first_found p i n h l e =
    let whole : suc i + (n - suc i) ≡ n = omega arith in
    rw (add-one i, ← whole) (first_stays p (suc i) (n - suc i) i (first_here p i h e))
