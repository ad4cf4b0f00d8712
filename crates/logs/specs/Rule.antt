-- The rule of a slot as facts: a set runs min(m, N) of the present jobs, and no job left waiting comes strictly before a running one by
-- kind and then deadline. `keeps_rule` of rules, Log, holds of just these sets. For every theorem about logs.
use Rattle.std.specs.Prelude.{◌≡◌, Bool, ◌&&◌, ◌||◌, ℕ, min, ◌≤◌, ◌<◌, eqb}
use Rattle.std.proofs.Math.Path.{refl}
use Rattle.std.proofs.Common.{sym, ◌∙◌, true≢false, arith}
use Rattle.std.proofs.Math.Bool.{true, false, not}
use borrow.Author.Tests.{eqb-true, eq-eqb}
use Rattle.rules.specs.Limits.{max_tasks}
use Rattle.rules.specs.declared.Run.{Run}
use Rattle.rules.specs.Words.{count_in}
use Rattle.rules.specs.Slot.{Setup, TaskSet, job_at, present, jobs_now}
use Rattle.rules.specs.Words.{holds_below}
use Rattle.rules.specs.Log.{sooner, wronged, keeps_rule}
use Rattle.lists.specs.Tests.{and_left, and_right}
use Rattle.lists.specs.Tests.{and_both}
use Rattle.lists.specs.Sums.{count_cong, count_lt}
use Rattle.lists.specs.Holds.{holds_says, holds_of}
use Rattle.lists.specs.Tests.{not_is, is_not}

pub record Obeys (g : Setup) (now : ℕ) (r : Run) (runs : TaskSet) : Type 0 where
  pub number : count_in runs 0 max_tasks ≡ min g.procs (jobs_now r)
  pub there : (i : ℕ) → i < max_tasks → runs i ≡ true → present r i ≡ true
  pub turn : (j i : ℕ) → j < max_tasks → i < max_tasks → present r j ≡ true → runs j ≡ false → runs i ≡ true
      → sooner g.policy now (job_at r j) (job_at r i) ≡ false

-- ---- the tests inside, over any truth values
implied : (a b : Bool) → (not a || b) ≡ true → a ≡ true → b ≡ true
implied true b e h = e
implied false b e h = absurd (true≢false (sym h))

implies : (a b : Bool) → (a ≡ true → b ≡ true) → (not a || b) ≡ true
implies true b h = h refl
implies false b h = refl

none_wronged : (p w i s : Bool) → not (p && not w && (i && s)) ≡ true → p ≡ true → w ≡ false → i ≡ true → s ≡ false
none_wronged p w i s e x y z = not_is s (rw (x, y, z) at e)

all_served : (p w i s : Bool) → (p ≡ true → w ≡ false → i ≡ true → s ≡ false) → not (p && not w && (i && s)) ≡ true
all_served true false true s h = is_not s (h refl refl refl)
all_served true false false s h = refl
all_served true true i s h = refl
all_served false w i s h = refl

module _ (g : Setup) (now : ℕ) (r : Run) (runs : TaskSet) where
  abbrev sized : Bool
  sized = eqb (count_in runs 0 max_tasks) (min g.procs (jobs_now r))

  abbrev inside : Bool
  inside = holds_below (λ i. not (runs i) || present r i) max_tasks

  abbrev orderly : Bool
  orderly = holds_below (λ j. holds_below (λ i. not (wronged g now r runs j i)) max_tasks) max_tasks

  -- a set that keeps the rule obeys it
  pub rule_obeyed : keeps_rule g now r runs ≡ true → Obeys g now r runs
  unfolding keeps_rule
  rule_obeyed e =
      let a = and_left (sized && inside) orderly e in
      let o = and_right (sized && inside) orderly e in
      record {
        number = eqb-true _ _ (and_left sized inside a);
        there = λ i h. implied (runs i) (present r i)
            (holds_says (λ i. not (runs i) || present r i) max_tasks (and_right sized inside a) i h);
        turn = λ j i h k. none_wronged (present r j) (runs j) (runs i) _
            (holds_says (λ i. not (wronged g now r runs j i)) max_tasks
            (holds_says (λ j. holds_below (λ i. not (wronged g now r runs j i)) max_tasks) max_tasks o j h) i k);
      }

  -- and the other way
  pub obeys_rule : Obeys g now r runs → keeps_rule g now r runs ≡ true
  unfolding keeps_rule
  obeys_rule o =
      and_both (sized && inside) orderly
      (and_both sized inside (eq-eqb _ _ o.number) (holds_of _ max_tasks (λ i h. implies (runs i) (present r i) (o.there i h))))
      (holds_of _ max_tasks (λ j h. holds_of _ max_tasks (λ i k. all_served (present r j) (runs j) (runs i) _ (o.turn j i h k))))

  -- a set with the same tasks obeys it too
  pub obeys_same : (other : TaskSet) → ((i : ℕ) → i < max_tasks → runs i ≡ other i) → Obeys g now r runs → Obeys g now r other
  obeys_same other same o = record {
    number = sym (count_cong runs other 0 max_tasks (λ i x y. same i (omega arith))) ∙ o.number;
    there = λ i h e. o.there i h (same i h ∙ e);
    turn = λ j i h k p w e. o.turn j i h k p (same j h ∙ w) (same i k ∙ e);
  }

  -- where N ≤ m every present job runs
  pub obeys_all : Obeys g now r runs → jobs_now r ≤ g.procs → (i : ℕ) → i < max_tasks → present r i ≡ true → runs i ≡ true
  unfolding jobs_now
  obeys_all o few i h p = go (runs i) refl
    where
      go : (b : Bool) → runs i ≡ b → runs i ≡ true
      go true e = e
      go false e = absurd (omega
          (arith, o.number, count_lt runs (present r) 0 max_tasks (λ t x y. o.there t (omega arith)) i (omega arith) (omega arith) e p))
