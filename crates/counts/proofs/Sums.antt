-- The counts, apart from the code.
use mathlib.Core.Path.{◌≡◌, ap₂, ◌∙◌}
use mathlib.Core.List.{List}
use Prim.Native.Nat.{ℕ, ◌+◌, ◌-◌, ◌*◌, ◌/◌, ◌≤◌}
use native.Mathlib.Nat.{zero-add, mul-le-mul_left, div-add-mod'}
use native.Mathlib.Numerals.{add-one}
use native.Mathlib.Omega.{arith}
use Rattle.rules.specs.Words.{sum}
use Rattle.rules.specs.Limits.{max_period}
use Rattle.rules.specs.Case.{period, deadline}
use Rattle.rules.specs.Counts.{availability, availabilities, count}

pub avail_small : (l t d : ℕ) → 1 ≤ t → d ≤ max_period → l ≤ max_period → l / t * d ≤ max_period * max_period
avail_small l t d p q r = omega (arith, mul-le-mul_left (l / t) p, mul-le-mul_left (l / t) q, div-add-mod' l t)

-- one more task, by T and D as they were read
pub added : (ts : List ℕ) (l i s a T D : ℕ) → s ≡ sum (λ i. availability (period ts i) (deadline ts i) l) 0 i → T ≡ period ts i
    → D ≡ deadline ts i → a ≡ availability T D l
    → s + a ≡ sum (λ i. availability (period ts i) (deadline ts i) l) 0 (i + 1)
unfolding sum
added ts l i s a T D p q r e = rw (add-one i, zero-add i) (ap₂ ◌+◌ p (e ∙ rw (q, r)))

pub count_is : (m : ℕ) (ts : List ℕ) (l s : ℕ) → s ≡ availabilities ts l → l - s / (m + 1) ≡ count m ts l
unfolding count
count_is m ts l s e = rw (← e, ← (add-one m))
