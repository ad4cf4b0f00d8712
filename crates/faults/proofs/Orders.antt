-- Order and separation of releases, as the code tests them: by the release before, and by one more than the last time (rules, Refusals).
use mathlib.Core.Path.{◌≡◌, refl}
use mathlib.Core.Bool.{true}
use mathlib.Core.List.{List}
use Prim.Native.Nat.{ℕ, zero, suc, ◌+◌, ◌-◌}
use native.Mathlib.Omega.{arith}
use lib.Dec.{leb}
use Rattle.rules.specs.Case.{time_of, name_of}
use Rattle.rules.specs.Refusals.{later_than, in_order, apart}

pub apart_some : (u T t : ℕ) → (u ≡ 0 → ⊥) → leb (u - 1 + T) t ≡ apart u T t
apart_some zero T t h = absurd (h refl)
apart_some (suc u) T t h = let z : suc u - 1 ≡ u = omega arith in rw z

pub order_first : (rs : List ℕ) (j : ℕ) → j ≡ 0 → true ≡ in_order rs j
unfolding in_order
order_first rs zero h = refl
order_first rs (suc j) h = absurd (omega arith)

pub order_next : (rs : List ℕ) (j : ℕ) → (j ≡ 0 → ⊥)
    → later_than (time_of rs (j - 1)) (name_of rs (j - 1)) (time_of rs j) (name_of rs j)
    ≡ in_order rs j
unfolding in_order
order_next rs zero h = absurd (h refl)
order_next rs (suc j) h = let z : suc j - 1 ≡ j = omega arith in rw z
