-- The pass over the tasks, as it goes on: the named counted, whether all named have a job, the least turn of a job that waits and the
-- greatest of one that runs. At its end the rule of the slot is told by these four.
use mathlib.Core.Path.{◌≡◌, refl, ap, sym, ◌∙◌}
use mathlib.Core.Bool.{Bool, true, false, ◌&&◌, ◌||◌, not, true≢false, and-true, and-false}
use Prim.Native.Nat.{ℕ, suc, ◌+◌, min, max, ◌≤◌, ◌<◌}
use native.Mathlib.Nat.{zero-add}
use native.Mathlib.Numerals.{add-one}
use native.Mathlib.Decide.{dec_lt}
use native.Mathlib.Omega.{arith}
use lib.Dec.{eqb, ltb}
use borrow.Author.Tests.{eq-eqb, ne_eqb, lt-ltb, le-ltb}
use Rattle.rules.specs.Words.{pick, bit, sum, count_in, holds_below}
use Rattle.rules.specs.Limits.{max_tasks}
use Rattle.rules.specs.Slot.{Setup, TaskSet, job_at, is_present, due_of, present, jobs_now}
use Rattle.rules.specs.Log.{sooner, wronged, keeps_rule}
use Rattle.rules.specs.declared.Run.{Run}
use Rattle.lists.specs.Sums.{count_le}
use Rattle.lists.specs.Holds.{holds_says, holds_same}
use Rattle.choice.specs.Turns.{turn, turn-sooner, idle_due, low_turn}
use Rattle.choice.proofs.Extremes.{least, greatest, least_top, extremes}

-- no turn of a job that waits: the largest number of 64 bits
abbrev pub no_turn : ℕ
no_turn = 18446744073709551615

-- whether the task at i has a job if it is named
abbrev pub there_if : Run → TaskSet → ℕ → Bool
there_if r runs i = not (runs i) || present r i

abbrev pub waiting_turn : ℕ → ℕ → Run → TaskSet → ℕ → ℕ
waiting_turn policy now r runs i = pick (present r i && not (runs i)) (turn policy now (job_at r i)) no_turn

abbrev pub running_turn : ℕ → ℕ → Run → TaskSet → ℕ → ℕ
running_turn policy now r runs i = pick (runs i && present r i) (turn policy now (job_at r i)) 0

pub record Passing (policy now : ℕ) (r : Run) (runs : TaskSet) (k count : ℕ) (there : Bool) (waiting running : ℕ) : Type 0 where
  pub within : k ≤ max_tasks
  pub counted : count ≡ count_in runs 0 k
  pub all : there ≡ holds_below (there_if r runs) k
  pub first : waiting ≡ least no_turn (waiting_turn policy now r runs) k
  pub last : running ≡ greatest (running_turn policy now r runs) k
  pub short : (i : ℕ) → i < k → due_of (job_at r i) < 4294967296

pub passing_none : (policy now : ℕ) (r : Run) (runs : TaskSet) → Passing policy now r runs 0 0 true no_turn 0
unfolding sum holds_below least greatest
passing_none policy now r runs = record {
  within = omega arith;
  counted = refl;
  all = refl;
  first = refl;
  last = refl;
  short = λ i l. absurd (omega arith);
}

module _ (policy now : ℕ) (r : Run) (runs : TaskSet) (k count : ℕ) (there : Bool) (waiting running : ℕ) (l : k < max_tasks)
    (w : Passing policy now r runs k count there waiting running) where
  -- one task more, by the definitions
  more : (count' : ℕ) (there' : Bool) (waiting' running' : ℕ) → count' ≡ count + bit (runs k)
      → there' ≡ (there && there_if r runs k)
      → waiting' ≡ min waiting (waiting_turn policy now r runs k) → running' ≡ max running (running_turn policy now r runs k)
      → due_of (job_at r k) < 4294967296
      → Passing policy now r runs (k + 1) count' there' waiting' running'
  unfolding sum holds_below least greatest
  more count' there' waiting' running' a b c d s = rw (add-one k) (record {
    within = omega arith;
    counted = rw (zero-add k) (omega (arith, a, w.counted));
    all = b ∙ ap (λ (x : Bool). x && there_if r runs k) w.all;
    first = c ∙ ap (λ (x : ℕ). min x (waiting_turn policy now r runs k)) w.first;
    last = d ∙ ap (λ (x : ℕ). max x (running_turn policy now r runs k)) w.last;
    short = λ i m. short_more i m (dec_lt i k);
  })
    where
      short_more : (i : ℕ) → i < suc k → Dec (i < k) → due_of (job_at r i) < 4294967296
      short_more i m (yes h) = w.short i h
      short_more i m (no h) = let e : i ≡ k = omega arith in rw e s

  pub passing_few : count ≤ max_tasks
  passing_few = omega (arith, w.counted, w.within, count_le runs 0 k)

  waiting_low : min waiting no_turn ≡ waiting
  waiting_low = omega (arith, w.first, least_top no_turn (waiting_turn policy now r runs) k)

  -- a job that is named
  pub passing_runs : (t : ℕ) → runs k ≡ true → is_present (job_at r k) ≡ true → t ≡ turn policy now (job_at r k)
      → due_of (job_at r k) < 4294967296
      → Passing policy now r runs (k + 1) (count + 1) there waiting (max running t)
  unfolding present
  passing_runs t e p q s =
      more (count + 1) there waiting (max running t) (rw e) (rw (e, p) (sym (and-true there))) (rw (e, p) (sym waiting_low))
      (rw (e, p, q)) s

  -- a task that is named and has no job
  pub passing_absent : runs k ≡ true → is_present (job_at r k) ≡ false
      → Passing policy now r runs (k + 1) (count + 1) false waiting running
  unfolding present
  passing_absent e p =
      more (count + 1) false waiting running (rw e) (rw (e, p) (sym (and-false there))) (rw (e, p) (sym waiting_low))
      (rw (e, p) (omega arith)) (idle_due (job_at r k) p)

  -- a job that is not named waits
  pub passing_waits : (t : ℕ) → runs k ≡ false → is_present (job_at r k) ≡ true → t ≡ turn policy now (job_at r k)
      → due_of (job_at r k) < 4294967296
      → Passing policy now r runs (k + 1) count there (min waiting t) running
  unfolding present
  passing_waits t e p q s =
      more count there (min waiting t) running (rw e (omega arith)) (rw e (sym (and-true there))) (rw (e, p, q)) (rw e (omega arith)) s

  -- an idle task that is not named
  pub passing_idle : runs k ≡ false → is_present (job_at r k) ≡ false → Passing policy now r runs (k + 1) count there waiting running
  unfolding present
  passing_idle e p =
      more count there waiting running (rw e (omega arith)) (rw e (sym (and-true there))) (rw (e, p) (sym waiting_low)) (rw e (omega arith))
      (idle_due (job_at r k) p)

-- ---- at the end
module _ (g : Setup) (now : ℕ) (r : Run) (runs : TaskSet)
    (short : (i : ℕ) → i < max_tasks → due_of (job_at r i) < 4294967296) where
  abbrev waits_at : ℕ → ℕ
  waits_at = waiting_turn g.policy now r runs

  abbrev runs_at : ℕ → ℕ
  runs_at = running_turn g.policy now r runs

  running_low : (i : ℕ) → i < max_tasks → runs_at i ≤ no_turn
  running_low i l = go (runs i && present r i)
    where
      go : (b : Bool) → pick b (turn g.policy now (job_at r i)) 0 ≤ no_turn
      go true = omega (arith, low_turn g.policy now (job_at r i) (short i l))
      go false = omega arith

  -- where the task at i has a job if it is named, a pair is wronged just where the one turn is below the other
  by_turns : (j i : ℕ) → j < max_tasks → i < max_tasks → there_if r runs i ≡ true
      → wronged g now r runs j i ≡ ltb (waits_at j) (runs_at i)
  by_turns j i l k t = go (present r j && not (runs j)) (runs i) refl (present r i) refl
    where
      go : (a b : Bool) → runs i ≡ b → (c : Bool) → present r i ≡ c
          → (a && (b && sooner g.policy now (job_at r j) (job_at r i)))
          ≡ ltb (pick a (turn g.policy now (job_at r j)) no_turn) (pick (b && c) (turn g.policy now (job_at r i)) 0)
      go true true p true q = turn-sooner g.policy now (job_at r j) (job_at r i) (short j l) (short i k)
      go true true p false q = absurd (true≢false (sym t ∙ rw (p, q)))
      go true false p c q = sym (le-ltb (turn g.policy now (job_at r j)) 0 (omega arith))
      go false true p true q =
          let z : turn g.policy now (job_at r i) ≤ no_turn = omega (arith, low_turn g.policy now (job_at r i) (short i k)) in
          sym (le-ltb no_turn (turn g.policy now (job_at r i)) z)
      go false true p false q = sym (le-ltb no_turn 0 (omega arith))
      go false false p c q = sym (le-ltb no_turn 0 (omega arith))

  -- so the order is told by the two extremes
  in_order_lem : holds_below (there_if r runs) max_tasks ≡ true
      → holds_below (λ j. holds_below (λ i. not (wronged g now r runs j i)) max_tasks) max_tasks
      ≡ not (ltb (least no_turn waits_at max_tasks) (greatest runs_at max_tasks))
  in_order_lem t =
      holds_same _ _ max_tasks (λ j l. holds_same _ _ max_tasks
      (λ i k. ap not (by_turns j i l k (holds_says (there_if r runs) max_tasks t i k)))) ∙
      extremes no_turn waits_at runs_at max_tasks running_low

  told : (b : Bool) (n : ℕ) → holds_below (there_if r runs) max_tasks ≡ b → n ≡ jobs_now r
      → keeps_rule g now r runs ≡ (eqb (count_in runs 0 max_tasks) (min g.procs n) && b
      && not (ltb (least no_turn waits_at max_tasks) (greatest runs_at max_tasks)))
  unfolding keeps_rule
  told true n t e = rw (t, e, in_order_lem t)
  told false n t e = rw (t, e, and-false (eqb (count_in runs 0 max_tasks) (min g.procs (jobs_now r))))

-- the rule is kept where so many are named as should run, all of them have a job, and no turn of a waiting job is below one of a running
module _ (g : Setup) (now : ℕ) (r : Run) (runs : TaskSet) (k count : ℕ) (there : Bool) (waiting running jobs : ℕ) (l : max_tasks ≤ k)
    (w : Passing g.policy now r runs k count there waiting running) (e : jobs ≡ jobs_now r) where
  rule_told : keeps_rule g now r runs ≡ (eqb count (min g.procs jobs) && there && not (ltb waiting running))
  rule_told =
      let z : k ≡ max_tasks = omega (arith, w.within) in
      let v = rw z at w in
      rw (v.counted, v.first, v.last) (told g now r runs v.short there jobs (sym v.all) e)

  pub wrong_number : (count ≡ min g.procs jobs → ⊥) → false ≡ keeps_rule g now r runs
  wrong_number h = sym (rule_told ∙ rw (ne_eqb count (min g.procs jobs) h))

  pub wrong_order : waiting < running → false ≡ keeps_rule g now r runs
  wrong_order h = sym (rule_told ∙ rw (lt-ltb waiting running h) (and-false (eqb count (min g.procs jobs) && there)))

  pub right_order : count ≡ min g.procs jobs → running ≤ waiting → there ≡ keeps_rule g now r runs
  right_order n h = sym (rule_told ∙ rw (eq-eqb count (min g.procs jobs) n, le-ltb waiting running h) (and-true there))
