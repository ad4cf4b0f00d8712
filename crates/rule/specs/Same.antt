-- What the rule of a slot (`keeps_rule` of rules, Log) looks at, and so what it does not: it goes by the members of the set below 32, and
-- by
-- presence, kind and deadline of each job. Step 4 keeps all three, so a set may be judged on the run before it or after it. For whoever
-- checks a log: the code judges the run after steps 1 to 3 and a set in an array, the definition the run after step 4 and a set of names.
use Rattle.std.specs.Prelude.{◌≡◌, refl, ◌||◌, ℕ, min, ◌<◌, length}
use Rattle.std.proofs.Math.Path.{ap, ap₂}
use Rattle.std.proofs.Math.Bool.{◌&&◌, not}
use Rattle.std.proofs.Common.{arith}
use Rattle.std.proofs.Math.Dec.{eqb}
use Rattle.rules.specs.declared.Run.{Run}
use Rattle.rules.specs.Limits.{max_tasks}
use Rattle.rules.specs.Slot.{Setup, TaskSet, job_at, present, jobs_now, lowered}
use Rattle.rules.specs.Log.{wronged, keeps_rule}
use Rattle.lists.specs.Sums.{count_cong}
use Rattle.lists.specs.Holds.{holds_same}
use Rattle.choice.specs.Lowered.{Alike, lowered_alike}

module _ (g : Setup) (now : ℕ) (r s : Run) (runs others : TaskSet)
    (alike : (i : ℕ) → i < max_tasks → Alike g.policy now (job_at r i) (job_at s i))
    (same : (i : ℕ) → i < max_tasks → others i ≡ runs i) where
  there_same : (i : ℕ) → i < max_tasks → present s i ≡ present r i
  unfolding present
  there_same i l = (alike i l).there

  jobs_same : jobs_now s ≡ jobs_now r
  unfolding jobs_now
  jobs_same = count_cong (present s) (present r) 0 max_tasks (λ i u l. there_same i (omega arith))

  wronged-same : (j i : ℕ) → j < max_tasks → i < max_tasks → wronged g now s others j i ≡ wronged g now r runs j i
  wronged-same j i l k =
      let a = alike j l in
      let b = alike i k in
      rw (there_same j l, same j l, same i k, a.sort, b.sort, a.due, b.due)

  -- runs whose jobs are alike, and sets with the same members, keep the rule alike
  pub keeps_alike : keeps_rule g now s others ≡ keeps_rule g now r runs
  unfolding keeps_rule
  keeps_alike =
      ap₂ ◌&&◌
      (ap₂ ◌&&◌
      (ap₂ (λ c n. eqb c (min g.procs n)) (count_cong others runs 0 max_tasks (λ i u l. same i (omega arith))) jobs_same)
      (holds_same _ _ max_tasks (λ i l. ap₂ (λ a b. not a || b) (same i l) (there_same i l))))
      (holds_same _ _ max_tasks (λ j l. holds_same _ _ max_tasks (λ i k. ap not (wronged-same j i l k))))

-- a run before step 4 and after it
pub keeps-lowered : (g : Setup) (now : ℕ) (r : Run) (runs : TaskSet) → length r.tasks ≡ max_tasks
    → keeps_rule g now (lowered g r) runs ≡ keeps_rule g now r runs
keeps-lowered g now r runs full =
    keeps_alike g now r (lowered g r) runs runs (λ i l. lowered_alike g r full i l now) (λ i l. refl)
