-- Steps 4 to 6 of a run are steps 4 to 6 of each task; and a slot is its parts.
use mathlib.Core.Path.{◌≡◌, refl, ap, ap₂, sym, ◌∙◌}
use mathlib.Core.Bool.{Bool, true, false, ◌&&◌}
use mathlib.Core.List.{List, []}
use Prim.Native.Nat.{ℕ, ◌<◌}
use native.Mathlib.Omega.{arith}
use lib.Dec.{leb, ltb}
use lib.ListN.{get_or}
use Rattle.rules.specs.Words.{pick, bit}
use Rattle.rules.specs.Limits.{max_tasks}
use Rattle.rules.specs.Policies.{demoting}
use Rattle.rules.specs.Slot.{Setup, setup_of, TaskSet, no_task, run_of, with_job, job_at, left_of, present, each_task}
use Rattle.rules.specs.Slot.{jobs_now, contention_free, lowered, opened, job_before, comes_before, rank, chosen, last_unit}
use Rattle.rules.specs.Slot.{worked_task, worked, after, ran, finished}
use Rattle.rules.specs.declared.Job.{Job}
use Rattle.rules.specs.declared.Task.{Task}
use Rattle.rules.specs.declared.Run.{Run}
use Rattle.lists.specs.Lists.{tab_at, tab_cong, members}
use Rattle.lists.specs.Sums.{sum_cong}
use Rattle.lists.specs.Tests.{and_left}
use Rattle.lists.specs.Fuse.{fuse, same_each}
use Rattle.bridge.specs.Steps.{Full, demoted_full, lowered_full, readied_full, worked_same}
use Rattle.jobs.specs.Tasks.{worked_if, worked_on}
use Rattle.choice.specs.Keys.{Chosen}
use Rattle.choice.specs.Lowered.{Alike, lowers_task, lowers_in, lowered_each, lowered_alike}
use Rattle.slot.specs.Stepped.{Among, settled_run, Settles, Works, Worked, Stepped}
use Rattle.slot.proofs.Working.{Left}

-- ---- step 4 keeps what the order and the last unit look at
same_before : (policy now : ℕ) (a b a' b' : Job) (j i : ℕ) → Alike policy now a a' → Alike policy now b b'
    → job_before policy now a' j b' i ≡ job_before policy now a j b i
unfolding job_before
same_before policy now a b a' b' j i p q = rw (p.there, p.sort, q.sort, p.due, q.due)

module _ (g : Setup) (now : ℕ) (d : Run) (h : Full d) where
  kept : (i : ℕ) → i < max_tasks → Alike g.policy now (job_at d i) (job_at (lowered g d) i)
  kept i l = lowered_alike g d h i l now

  -- so the same jobs are chosen
  same_chosen : (i : ℕ) → i < max_tasks → chosen g now (lowered g d) i ≡ chosen g now d i
  unfolding chosen present rank
  same_chosen i l =
      ap₂ (λ a n. a && ltb n g.procs) (kept i l).there
      (sum_cong (λ j. bit (comes_before g now (lowered g d) j i)) (λ j. bit (comes_before g now d j i)) 0 max_tasks
      (λ j u v. ap bit (same_before g.policy now (job_at d j) (job_at d i) _ _ j i (kept j (omega arith)) (kept i l))))

  with_pick : (b : Bool) (t : Task) → pick b (worked_task t) t ≡ with_job t (worked_if b t.job)
  with_pick true t = refl
  with_pick false t = refl

  works : (runs : TaskSet) → worked runs (lowered g d) ≡ each_task (λ i t. worked_on (lowers_in g d) (runs i) t) d
  unfolding worked
  works runs =
      ap (each_task (λ i t. pick (runs i) (worked_task t) t)) (lowered_each g d) ∙
      ap run_of
      (fuse (λ i t. pick (runs i) (worked_task t) t) (λ i t. lowers_task (lowers_in g d) t) d.tasks ∙
      same_each _ (λ i t. worked_on (lowers_in g d) (runs i) t) d.tasks no_task
      (λ i l. with_pick (runs i) (lowers_task (lowers_in g d) (get_or d.tasks i no_task))))

  -- the run that a pass over each task leaves
  pub worked_run : (runs : TaskSet) (b : Bool) (n : ℕ) → n ≡ jobs_now d → b ≡ (demoting g.policy && leb n g.procs)
      → (a : Run)
      → a ≡ each_task (λ i t. worked_on b (runs i) t) d → a ≡ worked runs (lowered g d)
  unfolding contention_free
  worked_run runs b n e q a w =
      let z : b ≡ lowers_in g d = q ∙ ap (λ k. demoting g.policy && leb k g.procs) e in
      (rw z at w) ∙ sym (works runs)

  -- what the last pass leaves is steps 4 to 6
  pub worked_as : (runs : TaskSet) (b : Bool) (n : ℕ) → n ≡ jobs_now d → b ≡ (demoting g.policy && leb n g.procs)
      → (a : Run) (fs ls : List Bool) → Left b now runs d a fs ls → Works g now runs d a fs ls
  unfolding contention_free
  worked_as runs b n e q a fs ls w =
      let z : b ≡ lowers_in g d = q ∙ ap (λ k. demoting g.policy && leb k g.procs) e in
      let v = rw z at w in
      record {
        run = v.run ∙ sym (works runs);
        finished = v.finished ∙ tab_cong _ _ 0 max_tasks (λ i u l. ap (λ k. runs i && last_unit k) (sym (kept i (omega arith)).left));
        missed_next = v.next;
      }

-- ---- the slot, from what its parts answer
module _ (g : Setup) (now : ℕ) (s : TaskSet) (r d : Run) (full : Full r) (n : ℕ) (ms ds ps : List Bool)
    (p : Settles g now s r d n ms ds ps)
    (rs : List Bool)
    (c : Chosen g.procs g.policy now d rs) (e : Run) (fs ls : List Bool)
    (w : Worked g.procs g.policy now (members rs) d e fs ls) where
  pub stepped : Stepped g now s r e n ms ds rs fs ls
  unfolding after opened ran finished
  stepped =
      let f = demoted_full g _ (readied_full g now s r full) in
      let x = rw p.run at (c g.table) in
      let v = rw p.run at (w g.table) in
      let o : (i : ℕ) → i < max_tasks → members rs i ≡ chosen g now (lowered g (settled_run g now s r)) i =
      λ i l. rw x (tab_at (chosen g now (settled_run g now s r)) max_tasks i false l) ∙ sym (same_chosen g now _ f i l) in
      record {
        run = v.run ∙ worked_same _ _ _ (lowered_full g _ f) o;
        jobs = p.jobs ∙ ap jobs_now p.run;
        missed = p.missed;
        demoted = p.demoted;
        ran = x ∙ tab_cong _ _ 0 max_tasks (λ i u l. sym (same_chosen g now _ f i (omega arith)));
        finished = v.finished ∙ tab_cong _ _ 0 max_tasks
            (λ i u l. ap (λ b. b && last_unit (left_of (job_at (lowered g (settled_run g now s r)) i)))
            (o i (omega arith)));
        missed_next = v.missed_next;
      }

-- only jobs that are there are chosen
pub among : (procs policy now : ℕ) (d : Run) (rs : List Bool) → Chosen procs policy now d rs → Among (members rs) d
unfolding chosen
among procs policy now d rs c i l e =
    and_left (present d i) _ (sym (tab_at (chosen (setup_of procs policy []) now d) max_tasks i false l) ∙ rw (c []) at e)
