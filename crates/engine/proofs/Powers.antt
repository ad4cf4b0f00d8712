-- A loop that builds the number of a set: the power is that of the next bit, and the number so far is below it.
use mathlib.Core.Path.{◌≡◌, refl, ◌∙◌}
use mathlib.Core.Bool.{Bool, true, false}
use mathlib.Core.List.{List}
use Prim.Native.Nat.{ℕ, ◌+◌, ◌*◌, ◌^◌, ◌≤◌, ◌<◌}
use native.Mathlib.Nat.{pow-suc, zero-add, one-mul, zero-mul}
use native.Mathlib.Numerals.{add-one}
use native.Mathlib.Omega.{arith}
use lib.Pow.{pow_mono}
use lib.ListN.{get_or}
use Rattle.rules.specs.Words.{bit, sum, tab}
use Rattle.rules.specs.Limits.{max_tasks}
use Rattle.rules.specs.Slot.{TaskSet, set_number}
use Rattle.lists.specs.Lists.{tab_at}
use Rattle.lists.specs.Sums.{sum_cong}

pub record Doubling (s : TaskSet) (i power number : ℕ) : Type 0 where
  pub within : i ≤ max_tasks
  pub is : power ≡ 2 ^ i
  pub below : number < power
  pub small : power ≤ 4294967296
  pub so_far : number ≡ sum (λ j. bit (s j) * 2 ^ j) 0 i

pub doubling_none : (s : TaskSet) → Doubling s 0 1 0
unfolding sum
doubling_none s = record { within = omega arith; is = refl; below = omega arith; small = omega arith; so_far = refl }

-- one bit more, where `more` is the power if the bit is set and else 0
module _ (s : TaskSet) (i power number more : ℕ) (h : i < max_tasks) (w : Doubling s i power number) where
  doubling_more : more ≤ power → more ≡ bit (s i) * 2 ^ i → Doubling s (i + 1) (power * 2) (number + more)
  unfolding sum
  doubling_more l e =
      let p : power * 2 ≡ 2 ^ (i + 1) = rw (w.is, add-one, pow-suc) in
      let q : i + 1 ≤ max_tasks = omega arith in
      let m : 2 ^ (i + 1) ≤ 2 ^ max_tasks = pow_mono q in
      record {
        within = q;
        is = p;
        below = omega (arith, w.below);
        small = omega arith;
        so_far = rw (add-one i, zero-add i) (omega (arith, w.so_far, e));
      }

pub doubling_yes : (s : TaskSet) (i power number : ℕ) → i < max_tasks → Doubling s i power number → s i ≡ true
    → Doubling s (i + 1) (power * 2) (number + power)
doubling_yes s i power number h w e = doubling_more s i power number power h w (omega arith) (w.is ∙ rw (e, one-mul))

pub doubling_no : (s : TaskSet) (i power number : ℕ) → i < max_tasks → Doubling s i power number → s i ≡ false
    → Doubling s (i + 1) (power * 2) number
doubling_no s i power number h w e =
    let z : number + 0 ≡ number = omega arith in
    rw z at (doubling_more s i power number 0 h w (omega arith) (rw (e, zero-mul)))

-- the number of a set that stands in an array
pub array_number : (s : TaskSet) (xs : List Bool) → xs ≡ tab s 0 max_tasks → set_number (λ i. get_or xs i false) ≡ set_number s
unfolding set_number
array_number s xs e =
    sum_cong (λ i. bit (get_or xs i false) * 2 ^ i) (λ i. bit (s i) * 2 ^ i) 0 max_tasks
    (λ i p q. (let a : get_or xs i false ≡ s i = rw e (tab_at s max_tasks i false (omega arith)) in rw a))
