-- The rule of a slot where no job waits: the set is that of the tasks that have a job, so where there is no job that of nobody. For
-- whoever checks a log: no order need be looked at.
use Rattle.std.specs.Prelude.{◌≡◌, Bool, ◌&&◌, ◌||◌, not, ℕ, min, ◌≤◌, ◌<◌, eqb}
use Rattle.std.proofs.Math.Path.{refl, sym}
use Rattle.std.proofs.Common.{◌∙◌, eq-eqb, eqb-true}
use Rattle.std.proofs.Math.Bool.{true, false}
use Rattle.std.specs.Bool.{beq}
use Rattle.std.proofs.lemmas.Bool.{false≢true}
use native.Mathlib.Omega.{arith}
use Rattle.rules.specs.declared.Run.{Run}
use Rattle.rules.specs.Words.{count_in, holds_below}
use Rattle.rules.specs.Limits.{max_tasks}
use Rattle.rules.specs.Slot.{Setup, TaskSet, present, jobs_now}
use Rattle.rules.specs.Log.{keeps_rule}
use Rattle.lists.specs.Sums.{count_cong, count_lt, none_counted}
use Rattle.lists.specs.Tests.{and_left, and_right, and_both, never_true}
use Rattle.lists.specs.Holds.{holds_says, holds_of, holds_same}

-- whether the task at i is in both sets or in neither
abbrev pub same_at : TaskSet → TaskSet → ℕ → Bool
same_at a b i = beq (a i) (b i)

-- whether the task at i is not in the set
abbrev pub absent : TaskSet → ℕ → Bool
absent runs i = not (runs i)

beq_same : (a b : Bool) → beq a b ≡ true → a ≡ b
beq_same true true e = refl
beq_same true false e = absurd (false≢true e)
beq_same false true e = absurd (false≢true e)
beq_same false false e = refl

same_beq : (a b : Bool) → a ≡ b → beq a b ≡ true
same_beq true true e = refl
same_beq true false e = absurd (false≢true (sym e))
same_beq false true e = absurd (false≢true e)
same_beq false false e = refl

-- the tasks of a set that keeps the rule have jobs
pub keeps_among : (g : Setup) (now : ℕ) (r : Run) (runs : TaskSet) → keeps_rule g now r runs ≡ true
    → (i : ℕ) → i < max_tasks → runs i ≡ true → present r i ≡ true
unfolding keeps_rule
keeps_among g now r runs e i l h =
    let sized = eqb (count_in runs 0 max_tasks) (min g.procs (jobs_now r)) in
    let inside = holds_below (λ i. not (runs i) || present r i) max_tasks in
    implied (runs i) (present r i)
    (holds_says (λ i. not (runs i) || present r i) max_tasks (and_right sized inside (and_left (sized && inside) _ e)) i l) h
  where
    implied : (a b : Bool) → (not a || b) ≡ true → a ≡ true → b ≡ true
    implied true b e h = e
    implied false b e h = absurd (false≢true h)

-- and there are so many of them as should run
keeps_number : (g : Setup) (now : ℕ) (r : Run) (runs : TaskSet) → keeps_rule g now r runs ≡ true
    → count_in runs 0 max_tasks ≡ min g.procs (jobs_now r)
unfolding keeps_rule
keeps_number g now r runs e =
    let sized = eqb (count_in runs 0 max_tasks) (min g.procs (jobs_now r)) in
    let inside = holds_below (λ i. not (runs i) || present r i) max_tasks in
    eqb-true (count_in runs 0 max_tasks) (min g.procs (jobs_now r)) (and_left sized inside (and_left (sized && inside) _ e))

module _ (g : Setup) (now : ℕ) (r : Run) (runs : TaskSet) (few : jobs_now r ≤ g.procs) where
  -- the set of all jobs keeps the rule: there are so many, and none waits
  pub all_run : ((i : ℕ) → i < max_tasks → present r i ≡ runs i) → keeps_rule g now r runs ≡ true
  unfolding keeps_rule jobs_now
  all_run same =
      let n : count_in runs 0 max_tasks ≡ count_in (present r) 0 max_tasks =
      count_cong runs (present r) 0 max_tasks (λ i u l. sym (same i (omega arith))) in
      and_both _ _
      (and_both _ _ (eq-eqb (count_in runs 0 max_tasks) (min g.procs (count_in (present r) 0 max_tasks)) (omega (arith, n, few)))
      (holds_of _ max_tasks (λ i l. rw (same i l) (either (runs i)))))
      (holds_of _ max_tasks (λ j l. holds_of _ max_tasks (λ i k. rw (same j l) (neither (runs j) _))))
    where
      either : (b : Bool) → (not b || b) ≡ true
      either true = refl
      either false = refl

      neither : (b x : Bool) → not (b && not b && x) ≡ true
      neither true x = refl
      neither false x = refl

  -- and no other does: a set of so many jobs that leaves out none has each
  pub only_all : keeps_rule g now r runs ≡ true → (i : ℕ) → i < max_tasks → present r i ≡ runs i
  only_all e i l = go (present r i) refl (runs i) refl
    where
      short : present r i ≡ true → runs i ≡ false → ⊥
      short p q =
          unfold jobs_now in
          omega (
            arith,
            few,
            keeps_number g now r runs e,
            count_lt runs (present r) 0 max_tasks (λ k u m z. keeps_among g now r runs e k (omega arith) z) i (omega arith)
                (omega arith) q p,
          )

      go : (a : Bool) → present r i ≡ a → (b : Bool) → runs i ≡ b → a ≡ b
      go true p true q = refl
      go false p false q = refl
      go true p false q = absurd (short p q)
      go false p true q = absurd (false≢true (sym p ∙ keeps_among g now r runs e i l q))

  -- so the rule is told by comparing the two
  pub none_waits : holds_below (same_at (present r) runs) max_tasks ≡ keeps_rule g now r runs
  none_waits = go (holds_below (same_at (present r) runs) max_tasks) refl
    where
      go : (b : Bool) → holds_below (same_at (present r) runs) max_tasks ≡ b → b ≡ keeps_rule g now r runs
      go true q =
          sym (all_run (λ i l. beq_same (present r i) (runs i) (holds_says (same_at (present r) runs) max_tasks q i l)))
      go false q =
          sym (never_true (keeps_rule g now r runs)
          (λ k. false≢true (sym q ∙ holds_of (same_at (present r) runs) max_tasks
          (λ i l. same_beq (present r i) (runs i) (only_all k i l)))))

-- where no task has a job just the set of nobody keeps the rule
pub nobody_keeps : (g : Setup) (now : ℕ) (r : Run) (runs : TaskSet) → jobs_now r ≡ 0
    → holds_below (absent runs) max_tasks ≡ keeps_rule g now r runs
unfolding jobs_now
nobody_keeps g now r runs e =
    holds_same (absent runs) (same_at (present r) runs) max_tasks (λ i l. left_out (runs i) (none_counted (present r) max_tasks i e l)) ∙
    none_waits g now r runs (omega (arith, e))
  where
    left_out : {a : Bool} (b : Bool) → a ≡ false → not b ≡ beq a b
    left_out true e = rw e
    left_out false e = rw e
