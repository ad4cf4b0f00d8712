-- The place of each task's last release, as a walk over the releases keeps it.
use mathlib.Core.Path.{◌≡◌, sym}
use mathlib.Core.List.{List}
use Prim.Native.Nat.{ℕ, suc, ◌+◌, ◌-◌, ◌<◌}
use native.Mathlib.Numerals.{add-one}
use native.Mathlib.Omega.{arith}
use lib.ListN.{set}
use borrow.Author.Tests.{eq-eqb, ne_eqb}
use Rattle.rules.specs.Limits.{max_tasks}
use Rattle.rules.specs.Case.{release_count, name_of}
use Rattle.lists.specs.Lists.{tab-set}
use Rattle.bridge.specs.Turn.{last_place}
use Rattle.traces.specs.Traces.{Orderly}
use Rattle.slots.specs.Walks.{places}

place_new : (rs : List ℕ) (k name : ℕ) → name_of rs k ≡ name → last_place rs (suc k) name ≡ k
unfolding last_place
place_new rs k name e = rw (eq-eqb (name_of rs k) name e)

place_old : (rs : List ℕ) (k name : ℕ) → (name_of rs k ≡ name → ⊥) → last_place rs (suc k) name ≡ last_place rs k name
unfolding last_place
place_old rs k name h = rw (ne_eqb (name_of rs k) name h)

-- a release more is kept
pub places_more : (rs : List ℕ) (k name : ℕ) (place : List ℕ) → Orderly rs → k < release_count rs → name ≡ name_of rs k
    → place ≡ places rs k → set place (name - 1) k ≡ places rs (k + 1)
places_more rs k name place u l e h =
    let n = u.named k l in
    let is : name_of rs k ≡ suc (name - 1) = omega arith in
    let small : name - 1 < max_tasks = omega arith in
    rw (add-one k, h) (rw (place_new rs k (suc (name - 1)) is) at
    (tab-set (λ i. last_place rs k (suc i)) (λ i. last_place rs (suc k) (suc i)) max_tasks (name - 1) small
    (λ i l q. sym (place_old rs k (suc i) (λ x. q (omega arith))))))
