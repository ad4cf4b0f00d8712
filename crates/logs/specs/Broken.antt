-- Why a slot breaks the rule, in the words of the request: a number named that is no task, another number running than min(m, N), a named
-- task
-- without a present job, or a job left waiting that comes strictly before a running one. What the program says on 18.
use Rattle.std.specs.Prelude.{◌≡◌, refl, Bool, true, false, ◌&&◌, ◌||◌, not, ◌⊎◌, List, ℕ, zero, suc, min, ◌<◌, eqb}
use Rattle.std.proofs.Common.{true≢false, inl, inr, arith}
use Rattle.std.proofs.lemmas.Bool.{eqb-false}
use Rattle.rules.specs.Limits.{max_tasks}
use Rattle.rules.specs.declared.Run.{Run}
use Rattle.rules.specs.Words.{count_in}
use Rattle.rules.specs.Slot.{Setup, TaskSet, job_at, present, jobs_now}
use Rattle.rules.specs.Words.{holds_below}
use Rattle.rules.specs.Log.{sooner, wronged, keeps_rule, set_named, name_tasks, slot_stands}

-- a test that not every number below n passes fails at one
holds_fails : (p : ℕ → Bool) (n : ℕ) → holds_below p n ≡ false → (i : ℕ) × ((i < n) × (p i ≡ false))
unfolding holds_below
holds_fails p zero e = absurd (true≢false e)
holds_fails p (suc n) e = go (holds_below p n) refl (holds_fails p n) (p n) refl e
  where
    go : (a : Bool) → holds_below p n ≡ a → (holds_below p n ≡ false → (i : ℕ) × ((i < n) × (p i ≡ false))) → (b : Bool)
        → p n ≡ b → (a && b) ≡ false
        → (i : ℕ) × ((i < suc n) × (p i ≡ false))
    go false q ih b z e = let w = ih q in (w.0, (omega (arith, w.1.0), w.1.1))
    go true q ih false z e = (n, (omega arith, z))
    go true q ih true z e = absurd (true≢false e)

and_fails : (a b : Bool) → (a && b) ≡ false → (a ≡ false) ⊎ (b ≡ false)
and_fails true b e = inr e
and_fails false b e = inl refl

lacks : (a b : Bool) → (not a || b) ≡ false → (a ≡ true) × (b ≡ false)
lacks true b e = (refl, e)
lacks false b e = absurd (true≢false e)

is_wronged : (p w i s : Bool) → not (p && not w && (i && s)) ≡ false → (p ≡ true) × (w ≡ false) × (i ≡ true) × (s ≡ true)
is_wronged true false true true e = (refl, refl, refl, refl)
is_wronged true false true false e = absurd (true≢false e)
is_wronged true false false s e = absurd (true≢false e)
is_wronged true true i s e = absurd (true≢false e)
is_wronged false w i s e = absurd (true≢false e)

-- a task that is named has no present job
pub record Absent (r : Run) (runs : TaskSet) : Type 0 where
  pub task : ℕ
  pub below : task < max_tasks
  pub named : runs task ≡ true
  pub idle : present r task ≡ false

-- a job is left waiting that comes strictly before a running one
pub record Passed (g : Setup) (now : ℕ) (r : Run) (runs : TaskSet) : Type 0 where
  pub waiting : ℕ
  pub running : ℕ
  pub below : (waiting < max_tasks) × (running < max_tasks)
  pub there : present r waiting ≡ true
  pub waits : runs waiting ≡ false
  pub runs_too : runs running ≡ true
  pub first : sooner g.policy now (job_at r waiting) (job_at r running) ≡ true

pub data Reason (g : Setup) (now : ℕ) (r : Run) (ns : List ℕ) : Type 0 where
  no_task_lem : name_tasks ns ≡ false → Reason g now r ns
  another_number : (count_in (set_named ns) 0 max_tasks ≡ min g.procs (jobs_now r) → ⊥) → Reason g now r ns
  no_job : Absent r (set_named ns) → Reason g now r ns
  passed_over : Passed g now r (set_named ns) → Reason g now r ns

-- a slot that breaks the rule has a reason
pub broken_reason : (g : Setup) (now : ℕ) (r : Run) (ns : List ℕ) → slot_stands g now r ns ≡ false → Reason g now r ns
unfolding slot_stands keeps_rule
broken_reason g now r ns e = names (and_fails (name_tasks ns) _ e)
  where
    runs : TaskSet
    runs = set_named ns

    sized : Bool
    sized = eqb (count_in (set_named ns) 0 max_tasks) (min g.procs (jobs_now r))

    inside : Bool
    inside = holds_below (λ i. not (set_named ns i) || present r i) max_tasks

    orderly : Bool
    orderly = holds_below (λ j. holds_below (λ i. not (wronged g now r (set_named ns) j i)) max_tasks) max_tasks

    absent : inside ≡ false → Reason g now r ns
    absent q =
        let w = holds_fails (λ i. not (set_named ns i) || present r i) max_tasks q in
        let l = lacks (set_named ns w.0) (present r w.0) w.1.1 in
        no_job (record { task = w.0; below = w.1.0; named = l.0; idle = l.1 })

    passed : orderly ≡ false → Reason g now r ns
    passed q =
        let w = holds_fails (λ j. holds_below (λ i. not (wronged g now r (set_named ns) j i)) max_tasks) max_tasks q in
        let v = holds_fails (λ i. not (wronged g now r (set_named ns) w.0 i)) max_tasks w.1.1 in
        let l = is_wronged (present r w.0) (set_named ns w.0) (set_named ns v.0)
        (sooner g.policy now (job_at r w.0) (job_at r v.0)) v.1.1 in
        passed_over (record {
          waiting = w.0;
          running = v.0;
          below = (w.1.0, v.1.0);
          there = l.0;
          waits = l.1;
          runs_too =
              l.2;
          first = l.3;
        })

    front : (sized ≡ false) ⊎ (inside ≡ false) → Reason g now r ns
    front (inl q) = another_number (eqb-false _ _ q)
    front (inr q) = absent q

    rule : ((sized && inside) ≡ false) ⊎ (orderly ≡ false) → Reason g now r ns
    rule (inl q) = front (and_fails sized inside q)
    rule (inr q) = passed q

    names : (name_tasks ns ≡ false) ⊎ ((sized && inside && orderly) ≡ false) → Reason g now r ns
    names (inl q) = no_task_lem q
    names (inr q) = rule (and_fails (sized && inside) orderly q)
