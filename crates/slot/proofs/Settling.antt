-- Steps 1 to 3 of a run are steps 1 to 3 of each task; and the first pass as it goes on.
use mathlib.Core.Path.{◌≡◌, refl, ap, sym, ◌∙◌}
use mathlib.Core.Bool.{Bool, true, false, ◌&&◌, ◌||◌, and-false}
use mathlib.Core.List.{List}
use Prim.Native.Nat.{ℕ, ◌+◌, ◌≤◌, ◌<◌}
use native.Mathlib.Nat.{zero-add}
use native.Mathlib.Numerals.{add-one}
use native.Mathlib.Omega.{arith}
use lib.ListN.{length, get_or, set, take, drop, length-append, length-drop, get_or-append}
use lib.Seq.{get_or-set_same, length-take-le, get_or-take}
use Rattle.rules.specs.Words.{pick, bit, sum, count_in, map_at}
use Rattle.rules.specs.Limits.{max_tasks}
use Rattle.rules.specs.Policies.{demoting}
use Rattle.rules.specs.Slot.{Setup, TaskSet, free_count_in, no_task, run_of, with_job, job_at, is_present, present, each_task, is_missed}
use Rattle.rules.specs.Slot.{judged_task}
use Rattle.rules.specs.Slot.{judged}
use Rattle.rules.specs.Slot.{released_task, joined_task, joined, readied, is_demoted_now, demoted_task, demoted, jobs_now, missed}
use Rattle.rules.specs.Slot.{demoted_now}
use Rattle.rules.specs.declared.Job.{Job}
use Rattle.rules.specs.declared.Job.TheVariants.{Idle}
use Rattle.rules.specs.declared.Task.{Task}
use Rattle.rules.specs.declared.Run.{Run}
use Rattle.lists.specs.Lists.{map_at_at}
use Rattle.lists.specs.Tests.{or_left, or_right}
use Rattle.lists.specs.Fill.{Filling, filling_at, each_none, each_store, each_keep, filling_all}
use Rattle.lists.specs.Fuse.{fuse, keep_all}
use Rattle.bridge.specs.Steps.{Full}
use Rattle.bridge.specs.Jobs.{idle_now}
use Rattle.jobs.specs.Tasks.{readied_task, demoted_if}
use Rattle.choice.proofs.Marks.{nobody, Marking, mark_none, mark_store, mark_keep, mark_all}
use Rattle.slot.specs.Stepped.{settled_run, Settles}

-- step 3 for one task under a policy
abbrev demoted_under : Bool → Task → Task
demoted_under cf t = demoted_if (cf && is_demoted_now t.job) t

-- steps 1 and 2, and steps 1 to 3, for the task at i
abbrev pub ready_task : Setup → ℕ → TaskSet → ℕ → Task → Task
ready_task g now s i t = joined_task g now s i (judged_task now t)

abbrev pub settled_task : Setup → ℕ → TaskSet → ℕ → Task → Task
settled_task g now s i t = demoted_under (demoting g.policy) (ready_task g now s i t)

module _ (g : Setup) (now : ℕ) (s : TaskSet) (r : Run) where
  ready : readied g now s r ≡ each_task (ready_task g now s) r
  unfolding joined judged
  ready = ap run_of (fuse (joined_task g now s) (λ i t. judged_task now t) r.tasks)

  demote : (b : Bool) (x : Run) → pick b (each_task (λ i t. demoted_task t) x) x ≡ each_task (λ i t. demoted_under b t) x
  demote true x = refl
  demote false x = sym (ap run_of (keep_all x.tasks))

  pub settled_run_lem : settled_run g now s r ≡ each_task (settled_task g now s) r
  unfolding demoted
  settled_run_lem =
      demote (demoting g.policy) (readied g now s r) ∙ ap (each_task (λ i t. demoted_under (demoting g.policy) t)) ready ∙
      ap run_of (fuse (λ i t. demoted_under (demoting g.policy) t) (ready_task g now s) r.tasks)

  ready_at_lem : (i : ℕ) → i < max_tasks → Full r → get_or (readied g now s r).tasks i no_task
      ≡ ready_task g now s i (get_or r.tasks i no_task)
  ready_at_lem i l h = ap (λ (x : Run). get_or x.tasks i no_task) ready ∙ map_at_at (ready_task g now s) r.tasks i no_task (omega arith)

-- what the code makes of a task in steps 1 and 2 is what the definitions say
number_kept : (b : Bool) (t : Task) → (pick b (with_job t Idle) t).number ≡ t.number
number_kept true t = refl
number_kept false t = refl

ready_as : (g : Setup) (now : ℕ) (i f : ℕ) (b : Bool) (t : Task) → (b ≡ true → f ≡ free_count_in g i)
    → readied_task g.table i f b now t ≡ pick b (released_task g now i (judged_task now t)) (judged_task now t)
ready_as g now i f true t h = rw (h refl, number_kept (is_missed now t.job) t)
ready_as g now i f false t h = refl

-- a task that is not released and whose job is neither missed nor demoted stays as it is
ready_same : (g : Setup) (now : ℕ) (s : TaskSet) (i : ℕ) (t : Task) → s i ≡ false → is_missed now t.job ≡ false
    → ready_task g now s i t ≡ t
ready_same g now s i t n m = rw (n, m)

demoted-same : (cf : Bool) (t : Task) → (cf && is_demoted_now t.job) ≡ false → demoted_under cf t ≡ t
demoted-same cf t e = rw e

-- what has been filled in is there
pub filling_past : (n : ℕ) (ys xs s : List Task) (i : ℕ) (d : Task) → i < n → Filling n ys xs s (i + 1)
    → get_or s i d ≡ get_or ys i d
filling_past n ys xs s i d l w =
    ap (λ (z : List Task). get_or z i d) w.so_far ∙
    get_or-append (take (i + 1) ys) (drop (i + 1) xs) d i (omega (arith, length-take-le (i + 1) ys (omega (arith, w.long')))) ∙
    get_or-take (i + 1) ys i d (omega arith)

-- a run that is being filled has its 32 tasks
pub long : {ys xs ts : List Task} {i : ℕ} → Filling max_tasks ys xs ts i → length ts ≡ max_tasks
long {ys} {xs} {ts} {i} w =
    ap length w.so_far ∙ length-append (take i ys) (drop i xs)
    ∙ omega (arith, w.within, w.long, length-take-le i ys (omega (arith, w.within, w.long')), length-drop i xs)

-- one task more is counted
pub count-more : (p : ℕ → Bool) (i n m : ℕ) (b : Bool) → n ≡ count_in p 0 i → m ≡ n + bit b → p i ≡ b
    → m ≡ count_in p 0 (i + 1)
unfolding sum
count-more p i n m b e h q = rw (add-one i, zero-add i, q) (omega arith)

-- ---- the first pass as it goes on: the tasks, the missed, the demoted and the jobs, all up to i
pub record Settling (g : Setup) (now : ℕ) (s : TaskSet) (r : Run) (ts : List Task) (ms ds ps : List Bool) (n i : ℕ) : Type 0 where
  pub full : Full r
  pub tasks : Filling max_tasks (map_at (settled_task g now s) r.tasks) r.tasks ts i
  pub removed : Marking (missed g now s r) ms i
  pub demotes : Marking (demoted_now g now s r) ds i
  pub there : Marking (present (settled_run g now s r)) ps i
  pub few : n ≤ i
  pub counts : n ≡ count_in (present (settled_run g now s r)) 0 i

-- the same where the task at i is settled_run and not yet counted
pub record Changed (g : Setup) (now : ℕ) (s : TaskSet) (r : Run) (ts : List Task) (ms ds : List Bool) (i : ℕ) : Type 0 where
  pub full : Full r
  pub tasks : Filling max_tasks (map_at (settled_task g now s) r.tasks) r.tasks ts (i + 1)
  pub removed : Marking (missed g now s r) ms (i + 1)
  pub demotes : Marking (demoted_now g now s r) ds (i + 1)

pub settle_none : (g : Setup) (now : ℕ) (s : TaskSet) (r : Run) → Full r → Settling g now s r r.tasks nobody nobody nobody 0 0
unfolding sum
settle_none g now s r h =
    record {
      full = h;
      tasks = each_none (settled_task g now s) max_tasks r.tasks h;
      removed = mark_none _;
      demotes = mark_none _;
      there =
          mark_none _;
      few = omega arith;
      counts = refl;
    }

pub bit_few : (n m i : ℕ) (b : Bool) → n ≤ i → m ≡ n + bit b → m ≤ i + 1
bit_few n m i true l e = omega arith
bit_few n m i false l e = omega arith

module _ (g : Setup) (now : ℕ) (s : TaskSet) (r : Run) (ts : List Task) (ms ds ps : List Bool) (n i : ℕ) (l : i < max_tasks)
    (w : Settling g now s r ts ms ds ps n i) where
  was : get_or ts i no_task ≡ get_or r.tasks i no_task
  was = filling_at max_tasks (map_at (settled_task g now s) r.tasks) r.tasks ts i no_task l w.tasks

  removed_as : missed g now s r i ≡ is_missed now (get_or ts i no_task).job
  unfolding missed
  removed_as = ap (λ (t : Task). is_missed now t.job) (sym was)

  demotes_as : demoted_now g now s r i ≡ (demoting g.policy && is_demoted_now (ready_task g now s i (get_or ts i no_task)).job)
  unfolding demoted_now
  demotes_as = ap (λ (t : Task). demoting g.policy && is_demoted_now t.job)
      (ready_at_lem g now s r i l w.full ∙ ap (ready_task g now s i) (sym was))

  stored : (f : ℕ) (u v : Task) (a b : Bool) → (s i ≡ true → f ≡ free_count_in g i)
      → u ≡ readied_task g.table i f (s i) now (get_or ts i no_task)
      → b ≡ (demoting g.policy && is_demoted_now u.job) → v ≡ demoted_if b u → a ≡ is_missed now (get_or ts i no_task).job
      → Changed g now s r (set ts i v) (set ms i a) (set ds i b) i
  stored f u v a b h y q z x =
      let e : u ≡ ready_task g now s i (get_or ts i no_task) = y ∙ ready_as g now i f (s i) (get_or ts i no_task) h in
      let o : v ≡ settled_task g now s i (get_or ts i no_task) = z ∙ rw (q, e) in
      record {
        full = w.full;
        tasks = each_store (settled_task g now s) max_tasks r.tasks ts i no_task v l w.tasks o;
        removed = mark_store (missed g now s r) ms i a l w.removed (x ∙ sym removed_as);
        demotes = mark_store (demoted_now g now s r) ds i b l w.demotes (q ∙ rw e (sym demotes_as));
      }

  -- no step changes it
  kept : (s i || is_missed now (get_or ts i no_task).job || (demoting g.policy && is_demoted_now (get_or ts i no_task).job)) ≡ false
      → Changed g now s r ts ms ds i
  kept e =
      let untouched = or_left (s i || is_missed now (get_or ts i no_task).job) _ e in
      let stays = or_right (s i || is_missed now (get_or ts i no_task).job) _ e in
      let in-time = or_right (s i) (is_missed now (get_or ts i no_task).job) untouched in
      let k = ready_same g now s i (get_or ts i no_task) (or_left (s i) _ untouched) in-time in
      record {
        full = w.full;
        tasks = each_keep (settled_task g now s) max_tasks r.tasks ts i no_task l w.tasks
            (ap (demoted_under (demoting g.policy)) k ∙ demoted-same (demoting g.policy) (get_or ts i no_task) stays);
        removed = mark_keep (missed g now s r) ms i l w.removed (removed_as ∙ in-time);
        demotes = mark_keep (demoted_now g now s r) ds i l w.demotes
            (demotes_as ∙ ap (λ (t : Task). demoting g.policy && is_demoted_now t.job) k ∙ stays);
      }

  here : {ts' : List Task} {ms' ds' : List Bool} → Changed g now s r ts' ms' ds' i
      → is_present (job_at (settled_run g now s r) i) ≡ is_present (get_or ts' i no_task).job
  here {ts'} v =
      ap (λ (x : Run). is_present (job_at x i)) (settled_run_lem g now s r) ∙
      ap (λ (x : Task). is_present x.job) (sym (filling_past max_tasks _ _ ts' i no_task l v.tasks))

  -- it is counted
  counted : (ts' : List Task) (ms' ds' : List Bool) (d : Bool) (m : ℕ) → Changed g now s r ts' ms' ds' i
      → d ≡ is_present (get_or ts' i no_task).job
      → m ≡ n + bit (is_present (get_or ts' i no_task).job) → Settling g now s r ts' ms' ds' (set ps i d) m (i + 1)
  unfolding present
  counted ts' ms' ds' d m v p k =
      let t = here v in
      record {
        full = v.full;
        tasks = v.tasks;
        removed = v.removed;
        demotes = v.demotes;
        there = mark_store (present (settled_run g now s r)) ps i d l w.there (p ∙ sym t);
        few = bit_few n m i (is_present (get_or ts' i no_task).job) w.few k;
        counts = count-more (present (settled_run g now s r)) i n m (is_present (get_or ts' i no_task).job) w.counts k t;
      }

  -- it is changed, written and counted
  pub settle_store : (f : ℕ) (u v : Task) (a b d : Bool) (m : ℕ) → (s i ≡ true → f ≡ free_count_in g i)
      → u ≡ readied_task g.table i f (s i) now (get_or ts i no_task)
      → b ≡ (demoting g.policy && is_demoted_now u.job) → v ≡ demoted_if b u → a ≡ is_missed now (get_or ts i no_task).job
      → d ≡ is_present v.job → m ≡ n + bit (is_present v.job)
      → Settling g now s r (set ts i v) (set ms i a) (set ds i b) (set ps i d) m (i + 1)
  settle_store f u v a b d m h y q z x p k =
      let e : get_or (set ts i v) i no_task ≡ v = get_or-set_same ts i v no_task (omega (arith, long w.tasks)) in
      counted (set ts i v) (set ms i a) (set ds i b) d m (stored f u v a b h y q z x) (rw e p) (rw e k)

  -- it can be changed and is not: it has a job, and is counted as it stands
  pub settle_keep : (s i || is_present (get_or ts i no_task).job) ≡ true
      → (s i || is_missed now (get_or ts i no_task).job || (demoting g.policy && is_demoted_now (get_or ts i no_task).job)) ≡ false
      → Settling g now s r ts ms ds (set ps i true) (n + 1) (i + 1)
  settle_keep c e =
      let untouched = or_left (s i || is_missed now (get_or ts i no_task).job) _ e in
      let p : is_present (get_or ts i no_task).job ≡ true = rw (or_left (s i) (is_missed now (get_or ts i no_task).job) untouched) at c in
      counted ts ms ds true (n + 1) (kept e) (sym p) (rw p refl)

  -- it has no job, and none is released
  pub settle_skip : (s i || is_present (get_or ts i no_task).job) ≡ false → Settling g now s r ts ms ds ps n (i + 1)
  unfolding present
  settle_skip e =
      let idle = or_right (s i) (is_present (get_or ts i no_task).job) e in
      let v = kept (idle_kept (demoting g.policy) (s i) (get_or ts i no_task).job (or_left (s i) _ e) idle) in
      let t = here v ∙ idle in
      record {
        full = v.full;
        tasks = v.tasks;
        removed = v.removed;
        demotes = v.demotes;
        there = mark_keep (present (settled_run g now s r)) ps i l w.there t;
        few = omega (arith, w.few);
        counts = count-more (present (settled_run g now s r)) i n n false w.counts (omega arith) t;
      }
    where
      idle_kept : (cf b : Bool) (j : Job) → b ≡ false → is_present j ≡ false
          → (b || is_missed now j || (cf && is_demoted_now j)) ≡ false
      idle_kept cf b j n p = rw (n, idle_now j p, and-false cf)

pub settle_all : (g : Setup) (now : ℕ) (s : TaskSet) (r a : Run) (ms ds ps : List Bool) (n i : ℕ) → max_tasks ≤ i
    → Settling g now s r a.tasks ms ds ps n i
    → Settles g now s r a n ms ds ps
unfolding jobs_now
settle_all g now s r a ms ds ps n i l w =
    let e : i ≡ max_tasks = omega (arith, w.tasks.within) in
    let x : a ≡ settled_run g now s r = ap run_of (filling_all max_tasks _ _ _ i l w.tasks) ∙ sym (settled_run_lem g now s r) in
    record {
      run = x;
      jobs = rw x (rw e at w.counts);
      missed = mark_all _ ms i l w.removed;
      demoted = mark_all _ ds i l w.demotes;
      present = rw x (mark_all (present (settled_run g now s r)) ps i l w.there);
    }
