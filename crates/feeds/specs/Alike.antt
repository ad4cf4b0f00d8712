-- The check looks at a set only at the 32 tasks of a run: sets that have the same tasks there keep the rule of a slot or break it alike
-- (`keeps_rule` of rules, Log). And the run that follows a log keeps its 32 tasks. For Feed.
use Rattle.std.specs.Prelude.{◌≡◌, refl, Bool, true, false, ◌&&◌, ◌||◌, not, ℕ, zero, suc, min, ◌<◌, eqb, ltb}
use Rattle.std.proofs.Common.{ap, ap₂, arith, lt-ltb}
use Rattle.rules.specs.declared.Run.{Run}
use Rattle.rules.specs.Limits.{max_tasks}
use Rattle.rules.specs.Slot.{Setup, TaskSet, job_at, present, jobs_now}
use Rattle.rules.specs.Replay.{idle_task}
use Rattle.rules.specs.Log.{sooner, keeps_rule, followed}
use Rattle.lists.specs.Lists.{tab_long}
use Rattle.lists.specs.Holds.{holds_same}
use Rattle.lists.specs.Sums.{count_cong}
use Rattle.bridge.specs.Steps.{Full, opened_full, worked_full}

pub keeps_same : (g : Setup) (now : ℕ) (r : Run) (a b : TaskSet) → ((i : ℕ) → i < max_tasks → a i ≡ b i)
    → keeps_rule g now r a ≡ keeps_rule g now r b
unfolding keeps_rule
keeps_same g now r a b same =
    ap₂ ◌&&◌ (ap₂ ◌&&◌ (ap (λ (n : ℕ). eqb n (min g.procs (jobs_now r)))
    (count_cong a b 0 max_tasks (λ i x y. same i (omega arith))))
    (holds_same _ _ max_tasks (λ i x. ap (λ (p : Bool). not p || present r i) (same i x))))
    (holds_same _ _ max_tasks (λ j x. holds_same _ _ max_tasks (λ i y.
    ap₂ (λ (p q : Bool). not (present r j && not p && (q && sooner g.policy now (job_at r j) (job_at r i)))) (same j x) (same i y))))

-- the tasks of a run that are in a set
abbrev pub within : TaskSet → TaskSet
within set i = set i && ltb i max_tasks

pub within_same : (set : TaskSet) (i : ℕ) → i < max_tasks → within set i ≡ set i
within_same set i h = rw (lt-ltb i max_tasks h) (go (set i))
  where
    go : (b : Bool) → (b && true) ≡ b
    go true = refl
    go false = refl

pub followed_full : (g : Setup) (released works : ℕ → TaskSet) (t : ℕ) → Full (followed g released works t)
unfolding followed
followed_full g released works zero = tab_long idle_task 0 max_tasks
followed_full g released works (suc t) = worked_full (works t) _ (opened_full g t (released t) _ (followed_full g released works t))
