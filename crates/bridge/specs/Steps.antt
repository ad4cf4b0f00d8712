-- What each step of a slot does to the job of one task: the definitions of rules, Slot, which speak of the whole run, read at one index,
-- and that a run keeps its 32 tasks. Cited wherever one job is followed: by Jobs and Stands here, by the crates slot and theory.
use Rattle.std.specs.Prelude.{◌≡◌, refl, Bool, true, false, ◌&&◌, ℕ, ◌<◌, length}
use Rattle.std.proofs.Math.Path.{ap, ap₂}
use Rattle.std.proofs.Common.{◌∙◌, arith}
use Rattle.std.proofs.Math.ListN.{get_or}
use Rattle.rules.specs.Words.{pick}
use Rattle.rules.specs.Limits.{max_tasks}
use Rattle.rules.specs.Policies.{demoting}
use Rattle.rules.specs.Slot.{Setup, TaskSet, run_of, no_task, with_job, job_at, left_of, due_of, each_task, is_missed, judged_task, judged}
use Rattle.rules.specs.Slot.{released_job, released_task, joined_task, joined, is_demoted_now, demoted_task, demoted, contention_free}
use Rattle.rules.specs.Slot.{lowered_job, lowered_task, lowered, readied, opened, chosen, worked_job, worked_task, worked, after, ran}
use Rattle.rules.specs.declared.Job.{Job}
use Rattle.rules.specs.declared.Job.TheVariants.{Idle, Demoted}
use Rattle.rules.specs.declared.Task.{Task}
use Rattle.rules.specs.declared.Run.{Run}
use Rattle.lists.specs.Lists.{map_from_long, map_from_cong, map_at_at}

abbrev pub Full : Run → Type 0
Full r = length r.tasks ≡ max_tasks

-- ---- a run stays full
pub each_full : (f : ℕ → Task → Task) (r : Run) → Full r → Full (each_task f r)
each_full f r h = map_from_long f 0 r.tasks ∙ h

pick_full : (b : Bool) (x y : Run) → Full x → Full y → Full (pick b x y)
pick_full true x y p q = p
pick_full false x y p q = q

pub judged_full : (now : ℕ) (r : Run) → Full r → Full (judged now r)
unfolding judged
judged_full now r h = each_full _ r h

pub joined_full : (g : Setup) (now : ℕ) (s : TaskSet) (r : Run) → Full r → Full (joined g now s r)
unfolding joined
joined_full g now s r h = each_full _ r h

pub demoted_full : (g : Setup) (r : Run) → Full r → Full (demoted g r)
unfolding demoted
demoted_full g r h = pick_full (demoting g.policy) _ _ (each_full _ r h) h

pub lowered_full : (g : Setup) (r : Run) → Full r → Full (lowered g r)
unfolding lowered
lowered_full g r h = pick_full (demoting g.policy && contention_free g r) _ _ (each_full _ r h) h

pub worked_full : (s : TaskSet) (r : Run) → Full r → Full (worked s r)
unfolding worked
worked_full s r h = each_full _ r h

pub readied_full : (g : Setup) (now : ℕ) (s : TaskSet) (r : Run) → Full r → Full (readied g now s r)
readied_full g now s r h = joined_full g now s (judged now r) (judged_full now r h)

pub opened_full : (g : Setup) (now : ℕ) (s : TaskSet) (r : Run) → Full r → Full (opened g now s r)
unfolding opened
opened_full g now s r h = lowered_full g _ (demoted_full g _ (readied_full g now s r h))

pub after_full : (g : Setup) (now : ℕ) (s : TaskSet) (r : Run) → Full r → Full (after g now s r)
unfolding after
after_full g now s r h = worked_full _ _ (opened_full g now s r h)

-- ---- what a step makes of one job
abbrev pub judged_job : ℕ → Job → Job
judged_job now j = pick (is_missed now j) Idle j

abbrev pub demoted_job : Bool → Job → Job
demoted_job cf j = pick (cf && is_demoted_now j) (Demoted (left_of j) (due_of j)) j

abbrev pub readied_job : Setup → ℕ → TaskSet → Run → ℕ → Job
readied_job g now s r i = pick (s i) (released_job g now i) (judged_job now (job_at r i))

-- whether the slot lowers the free counts
abbrev pub lowers : Setup → ℕ → TaskSet → Run → Bool
lowers g now s r = demoting g.policy && contention_free g (demoted g (readied g now s r))

abbrev pub opened_job : Bool → Bool → Job → Job
opened_job cf lowers j = pick lowers (lowered_job (demoted_job cf j)) (demoted_job cf j)

pick_job : (b : Bool) (x y : Task) → (pick b x y).job ≡ pick b x.job y.job
pick_job true x y = refl
pick_job false x y = refl

judged_job_lem : (now : ℕ) (t : Task) → (judged_task now t).job ≡ judged_job now t.job
judged_job_lem now t = pick_job (is_missed now t.job) (with_job t Idle) t

demoted_job_lem : (t : Task) → (demoted_task t).job ≡ pick (is_demoted_now t.job) (Demoted (left_of t.job) (due_of t.job)) t.job
demoted_job_lem t = pick_job (is_demoted_now t.job) (with_job t (Demoted (left_of t.job) (due_of t.job))) t

pick_run : (b : Bool) (x y : Run) (i : ℕ) → job_at (pick b x y) i ≡ pick b (job_at x i) (job_at y i)
pick_run true x y i = refl
pick_run false x y i = refl

pick-and : {A : Type 0} (a b : Bool) (x y : A) → pick a (pick b x y) y ≡ pick (a && b) x y
pick-and true b x y = refl
pick-and false b x y = refl

module _ (i : ℕ) (l : i < max_tasks) where
  each_at : (f : ℕ → Task → Task) (r : Run) → Full r → get_or (each_task f r).tasks i no_task ≡ f i (get_or r.tasks i no_task)
  each_at f r h = map_at_at f r.tasks i no_task (omega arith)

  pub judged_at : (now : ℕ) (r : Run) → Full r → job_at (judged now r) i ≡ judged_job now (job_at r i)
  unfolding judged
  judged_at now r h = ap (λ (t : Task). t.job) (each_at (λ i t. judged_task now t) r h) ∙ judged_job_lem now (get_or r.tasks i no_task)

  pub readied_at : (g : Setup) (now : ℕ) (s : TaskSet) (r : Run) → Full r → job_at (readied g now s r) i ≡ readied_job g now s r i
  unfolding joined
  readied_at g now s r h =
      ap (λ (t : Task). t.job) (each_at (joined_task g now s) (judged now r) (judged_full now r h)) ∙
      pick_job (s i) (released_task g now i (get_or (judged now r).tasks i no_task)) (get_or (judged now r).tasks i no_task)
      ∙ ap (pick (s i) (released_job g now i)) (judged_at now r h)

  pub demoted_at_lem : (g : Setup) (r : Run) → Full r → job_at (demoted g r) i ≡ demoted_job (demoting g.policy) (job_at r i)
  unfolding demoted
  demoted_at_lem g r h =
      pick_run (demoting g.policy) (each_task (λ i t. demoted_task t) r) r i ∙
      ap (λ (j : Job). pick (demoting g.policy) j (job_at r i))
      (ap (λ (t : Task). t.job) (each_at (λ i t. demoted_task t) r h) ∙ demoted_job_lem (get_or r.tasks i no_task)) ∙
      pick-and (demoting g.policy) (is_demoted_now (job_at r i)) (Demoted (left_of (job_at r i)) (due_of (job_at r i))) (job_at r i)

  pub opened_at_lem : (g : Setup) (now : ℕ) (s : TaskSet) (r : Run) → Full r
      → job_at (opened g now s r) i ≡ opened_job (demoting g.policy) (lowers g now s r) (readied_job g now s r i)
  unfolding opened lowered
  opened_at_lem g now s r h =
      let f = readied_full g now s r h in
      let e = demoted_at_lem g (readied g now s r) f ∙ ap (demoted_job (demoting g.policy)) (readied_at g now s r h) in
      let d = demoted g (readied g now s r) in
      pick_run (lowers g now s r) (each_task (λ i t. lowered_task t) d) d i ∙
      ap₂ (pick (lowers g now s r)) (ap (λ (t : Task). t.job) (each_at (λ i t. lowered_task t) _ (demoted_full g _ f))
      ∙ ap lowered_job e) e

  pub worked_at_lem : (s : TaskSet) (r : Run) → Full r → job_at (worked s r) i ≡ pick (s i) (worked_job (job_at r i)) (job_at r i)
  unfolding worked
  worked_at_lem s r h =
      let t = get_or r.tasks i no_task in
      ap (λ (t : Task). t.job) (each_at (λ i t. pick (s i) (worked_task t) t) r h) ∙ pick_job (s i) (worked_task t) t

  pub after_at : (g : Setup) (now : ℕ) (s : TaskSet) (r : Run) → Full r
      → job_at (after g now s r) i ≡ pick (ran g now s r i) (worked_job (job_at (opened g now s r) i)) (job_at (opened g now s r) i)
  unfolding after ran
  after_at g now s r h = worked_at_lem (chosen g now (opened g now s r)) (opened g now s r) (opened_full g now s r h)

-- ---- two sets with the same tasks do the same work
pub worked_same : (a b : TaskSet) (r : Run) → Full r → ((i : ℕ) → i < max_tasks → a i ≡ b i) → worked a r ≡ worked b r
unfolding worked
worked_same a b r full same =
    ap run_of (map_from_cong (λ i t. pick (a i) (worked_task t) t) (λ i t. pick (b i) (worked_task t) t) 0 r.tasks
    (λ i t x y. ap (λ (p : Bool). pick p (worked_task t) t) (same i (omega (arith, full)))))
