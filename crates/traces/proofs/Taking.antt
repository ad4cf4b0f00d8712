-- A walk over the releases of one time.
use mathlib.Core.Path.{◌≡◌, ap, sym, ◌∙◌}
use mathlib.Core.Bool.{Bool, true, false, or-true, or-false}
use mathlib.Core.Logic.{◌⊎◌, inl, inr}
use mathlib.Core.List.{List}
use Prim.Native.Nat.{ℕ, zero, suc, ◌+◌, ◌-◌, ◌≤◌, ◌<◌}
use native.Mathlib.Nat.{eq-or-lt_of_le}
use native.Mathlib.Numerals.{add-one}
use native.Mathlib.Decide.{dec_lt}
use native.Mathlib.Omega.{arith}
use lib.Dec.{eqb}
use lib.ListN.{set}
use borrow.Author.Tests.{eqb-true, eq-eqb}
use Rattle.rules.specs.Words.{tab}
use Rattle.rules.specs.Limits.{max_tasks}
use Rattle.rules.specs.Case.{release_count, time_of, name_of}
use Rattle.rules.specs.Replay.{released_in}
use Rattle.lists.specs.Lists.{tab_cong, tab-set}
use Rattle.lists.specs.Tests.{and_no}
use Rattle.bridge.specs.Turn.{Reached}
use Rattle.bridge.specs.Records.{released_no}
use Rattle.traces.specs.Traces.{Orderly, releases}

pub record Taking (rs : List ℕ) (clock from k : ℕ) (released : List Bool) : Type 0 where
  pub onward : from ≤ k
  pub within : k ≤ release_count rs
  pub before : (j : ℕ) → j < k → time_of rs j < suc clock
  pub behind : (j : ℕ) → k ≤ j → j < release_count rs → clock ≤ time_of rs j
  pub at_released : released ≡ releases rs k clock

pub taking_none : (rs : List ℕ) (clock from : ℕ) → Reached rs from clock → Taking rs clock from from (tab (λ i. false) 0 max_tasks)
taking_none rs clock from w = record {
  onward = omega arith;
  within = w.within;
  before = λ j h. omega (arith, w.before j h);
  behind = w.behind;
  at_released = sym (tab_cong (released_in rs from clock) (λ i. false) 0 max_tasks
      (λ i p q. released_no rs from clock i (λ j h x y. omega (arith, w.before j h))));
}

-- a release more
released_new : (rs : List ℕ) (k t i : ℕ) → time_of rs k ≡ t → name_of rs k ≡ suc i → released_in rs (suc k) t i ≡ true
unfolding released_in
released_new rs k t i e f = rw (eq-eqb (time_of rs k) t e, eq-eqb (name_of rs k) (suc i) f) (or-true (released_in rs k t i))

released_old : (rs : List ℕ) (k t i : ℕ) → (time_of rs k ≡ t → name_of rs k ≡ suc i → ⊥)
    → released_in rs (suc k) t i ≡ released_in rs k t i
unfolding released_in
released_old rs k t i h =
    rw (and_no (eqb (time_of rs k) t) (eqb (name_of rs k) (suc i)) (λ p q. h (eqb-true _ _ p) (eqb-true _ _ q)))
    (or-false (released_in rs k t i))

pub taking_more : (rs : List ℕ) (clock from k v : ℕ) (released : List Bool)
    → Orderly rs → k < release_count rs → time_of rs k ≡ clock → v ≡ name_of rs k - 1
    → Taking rs clock from k released → Taking rs clock from (k + 1) (set released v true)
taking_more rs clock from k v released u h e z w =
    let n = u.named k h in
    let name : name_of rs k ≡ suc v = omega arith in
    let small : v < max_tasks = omega arith in
    rw (add-one k) (record {
      onward = omega (arith, w.onward);
      within = omega arith;
      before = λ j l. before j (eq-or-lt_of_le {n = j} {m = k} (omega arith));
      behind = λ j l m. w.behind j (omega arith) m;
      at_released = rw w.at_released (rw (released_new rs k clock v e name) at
          (tab-set (released_in rs k clock) (released_in rs (suc k) clock) max_tasks v small
          (λ i l q. sym (released_old rs k clock i (λ x y. q (omega arith))))));
    })
  where
    before : (j : ℕ) → (j ≡ k) ⊎ (j < k) → time_of rs j < suc clock
    before j (inl x) = omega (arith, ap (time_of rs) x)
    before j (inr x) = w.before j x

-- no release of the time from k on
released_rest : (rs : List ℕ) (k t i d : ℕ) → ((j : ℕ) → k ≤ j → j < k + d → time_of rs j ≡ t → ⊥)
    → released_in rs (k + d) t i ≡ released_in rs k t i
released_rest rs k t i zero h = let z : k + 0 ≡ k = omega arith in rw z
released_rest rs k t i (suc d) h =
    let z : k + suc d ≡ suc (k + d) = omega arith in
    rw z (released_old rs (k + d) t i (λ e f. h (k + d) (omega arith) (omega arith) e)
    ∙ released_rest rs k t i d (λ j p q. h j p (omega arith)))

pub taking_done : (rs : List ℕ) (clock from k : ℕ) (released : List Bool)
    → Orderly rs → (k < release_count rs → time_of rs k ≡ clock → ⊥)
    → Taking rs clock from k released
    → (from ≤ k) × Reached rs k (suc clock) × (released ≡ releases rs (release_count rs) clock)
taking_done rs clock from k released u stop w =
    let z : k + (release_count rs - k) ≡ release_count rs = omega (arith, w.within) in (
      w.onward,
      record { within = w.within; before = w.before; behind = later },
      w.at_released ∙
          tab_cong (released_in rs k clock) (released_in rs (release_count rs) clock) 0 max_tasks
          (λ i p q. sym (rw z at (released_rest rs k clock i (release_count rs - k) (λ j l m e. omega (arith, later j l (omega arith)))))),
    )
  where
    later : (j : ℕ) → k ≤ j → j < release_count rs → suc clock ≤ time_of rs j
    later j p q = go (dec_lt clock (time_of rs k))
      where
        go : Dec (clock < time_of rs k) → suc clock ≤ time_of rs j
        go (yes x) = omega (arith, u.sorted k j p q)
        go (no x) = absurd (stop (omega arith) (omega (arith, w.behind k (omega arith) (omega arith))))
