-- The last pass as it goes on: steps 4 to 6 of each task up to i, for a set that is given, with the sets that finished and that the next
-- step 1 removes as missed; and the pass that leaves the run alone, with what is known of it before the next slot.
use mathlib.Core.Path.{◌≡◌, refl, ap, sym, ◌∙◌}
use mathlib.Core.Bool.{Bool, true, false, ◌&&◌, not, and-false, true≢false}
use mathlib.Core.List.{List}
use Prim.Native.Nat.{ℕ, suc, ◌+◌, ◌≤◌, ◌<◌}
use native.Mathlib.Nat.{not-suc-le-zero}
use native.Mathlib.Numerals.{add-one}
use native.Mathlib.Decide.{dec_lt}
use native.Mathlib.Omega.{arith}
use lib.ListN.{length, get_or, set}
use lib.Seq.{get_or-set_same, set-get_or, set-set}
use Rattle.rules.specs.Words.{pick, bit, sum, count_in, tab, map_at}
use Rattle.rules.specs.Limits.{max_tasks}
use Rattle.rules.specs.Slot.{TaskSet, no_task, run_of, job_at, is_present, left_of, is_missed, each_task, last_unit}
use Rattle.rules.specs.Slot.{present, jobs_now, lowered_task, worked_task}
use Rattle.rules.specs.Policies.{demoting}
use Rattle.rules.specs.declared.Job.TheVariants.{Idle}
use Rattle.rules.specs.declared.Task.{Task}
use Rattle.rules.specs.declared.Run.{Run}
use Rattle.lists.specs.Lists.{map_at_at, tab_cong}
use Rattle.lists.specs.Fill.{Filling, filling_at, each_none, each_store, each_keep, filling_all}
use Rattle.lists.specs.Sums.{count_cong}
use Rattle.lists.specs.Tests.{and_left, and_right, not_is}
use Rattle.bridge.specs.Steps.{Full}
use Rattle.bridge.specs.Jobs.{idle_now}
use Rattle.jobs.specs.Tasks.{worked_on}
use Rattle.choice.proofs.Marks.{nobody, Marking, mark_none, mark_store, mark_keep, mark_all}
use Rattle.slot.specs.Stepped.{missed_in}
use Rattle.bridge.specs.Quiet.{changes}
use Rattle.slot.specs.Calm.{Ahead}
use Rattle.slot.proofs.Settling.{filling_past, long, count-more, bit_few}

-- an idle task is left as it is
idle_stays : (lowers runs : Bool) (t : Task) → t.job ≡ Idle → worked_on lowers runs t ≡ t
idle_stays true true t j = rw j
idle_stays true false t j = rw j
idle_stays false true t j = rw j
idle_stays false false t j = refl

module _ (lowers : Bool) (now : ℕ) (runs : TaskSet) where
  abbrev pub work_task : ℕ → Task → Task
  work_task i t = worked_on lowers (runs i) t

  abbrev pub finishes : Run → TaskSet
  finishes r i = runs i && last_unit (left_of (job_at r i))

  -- the job that the pass leaves is at its deadline
  abbrev pub misses_next : Run → TaskSet
  misses_next r i = is_missed (suc now) (work_task i (get_or r.tasks i no_task)).job

  pub record Working (r : Run) (ts : List Task) (fs ls : List Bool) (i : ℕ) : Type 0 where
    pub full : Full r
    pub tasks : Filling max_tasks (map_at work_task r.tasks) r.tasks ts i
    pub finished : Marking (finishes r) fs i
    pub next : Marking (misses_next r) ls i

  pub work_none : (r : Run) → Full r → Working r r.tasks nobody nobody 0
  work_none r h = record {
    full = h;
    tasks = each_none work_task max_tasks r.tasks h;
    finished = mark_none (finishes r);
    next =
        mark_none (misses_next r);
  }

  module _ (r : Run) (ts : List Task) (fs ls : List Bool) (i : ℕ) (l : i < max_tasks) (w : Working r ts fs ls i) where
    was : get_or ts i no_task ≡ get_or r.tasks i no_task
    was = filling_at max_tasks (map_at work_task r.tasks) r.tasks ts i no_task l w.tasks

    finishes_as : finishes r i ≡ (runs i && last_unit (left_of (get_or ts i no_task).job))
    finishes_as = ap (λ (t : Task). runs i && last_unit (left_of t.job)) (sym was)

    next_as : misses_next r i ≡ is_missed (suc now) (work_task i (get_or ts i no_task)).job
    next_as = ap (λ (t : Task). is_missed (suc now) (work_task i t).job) (sym was)

    -- it has a job
    pub work_store : (v : Task) (b d : Bool) → v ≡ work_task i (get_or ts i no_task)
        → b ≡ (runs i && last_unit (left_of (get_or ts i no_task).job))
        → d ≡ is_missed (now + 1) v.job → Working r (set ts i v) (set fs i b) (set ls i d) (i + 1)
    work_store v b d o q y = record {
      full = w.full;
      tasks = each_store work_task max_tasks r.tasks ts i no_task v l w.tasks o;
      finished = mark_store (finishes r) fs i b l w.finished (q ∙ sym finishes_as);
      next = mark_store (misses_next r) ls i d l w.next (y ∙ rw (add-one now, o) (sym next_as));
    }

    -- it has no job, so it does not run
    pub work_keep : (runs i ≡ true → is_present (get_or r.tasks i no_task).job ≡ true) → is_present (get_or ts i no_task).job ≡ false
        → Working r ts fs ls (i + 1)
    work_keep only e =
        let j : (get_or ts i no_task).job ≡ Idle = idle_now (get_or ts i no_task).job e in
        let z : runs i ≡ false = unset (runs i) (λ h. sym (ap (λ (t : Task). is_present t.job) was ∙ only h) ∙ e) in
        let k = idle_stays lowers (runs i) (get_or ts i no_task) j in
        record {
          full = w.full;
          tasks = each_keep work_task max_tasks r.tasks ts i no_task l w.tasks k;
          finished = mark_keep (finishes r) fs i l w.finished (finishes_as ∙ rw z);
          next = mark_keep (misses_next r) ls i l w.next (next_as ∙ ap (λ (t : Task). is_missed (suc now) t.job) k ∙ rw j);
        }
      where
        unset : (b : Bool) → (b ≡ true → true ≡ false) → b ≡ false
        unset true h = absurd (true≢false (h refl))
        unset false h = refl

  -- what the pass leaves
  pub record Left (r a : Run) (fs ls : List Bool) : Type 0 where
    pub run : a ≡ each_task work_task r
    pub finished : fs ≡ tab (finishes r) 0 max_tasks
    pub next : ls ≡ missed_in (suc now) a

  pub work_all : (r a : Run) (fs ls : List Bool) (i : ℕ) → max_tasks ≤ i → Working r a.tasks fs ls i → Left r a fs ls
  work_all r a fs ls i l w =
      let x : a ≡ each_task work_task r = ap run_of (filling_all max_tasks _ _ _ i l w.tasks) in
      record {
        run = x;
        finished = mark_all (finishes r) fs i l w.finished;
        next =
            mark_all (misses_next r) ls i l w.next ∙
            rw x (tab_cong (misses_next r) _ 0 max_tasks
            (λ i u k. ap (λ (t : Task). is_missed (suc now) t.job)
            (sym (map_at_at work_task r.tasks i no_task (omega (arith, w.full))))));
      }

-- ---- the run alone, with what is known of it before the next slot
-- the list after a step of the task at i, which is written only where the step is taken
abbrev pub put : List Task → ℕ → Bool → (Task → Task) → List Task
put ts i b f = set ts i (pick b (f (get_or ts i no_task)) (get_or ts i no_task))

module _ (ts : List Task) (i : ℕ) (b : Bool) (f : Task → Task) where
  pub put_taken : (s : Run) (v : Task) → b ≡ true → v ≡ f (get_or ts i no_task) → s ≡ run_of (set ts i v)
      → s.tasks ≡ put ts i b f
  put_taken s v e q h = rw (h, e, q)

  pub put_left : (s : Run) → b ≡ false → s ≡ run_of ts → s.tasks ≡ put ts i b f
  put_left s e h = rw (h, e) (sym (set-get_or ts i no_task))

-- both steps, each written by itself
put_both : (ts us vs : List Task) (i : ℕ) (a b : Bool) → i < length ts → us ≡ put ts i a lowered_task
    → vs ≡ put us i b worked_task
    → vs ≡ set ts i (worked_on a b (get_or ts i no_task))
put_both ts us vs i a b l p q =
    let u : Task = pick a (lowered_task (get_or ts i no_task)) (get_or ts i no_task) in
    q ∙ rw (p, get_or-set_same ts i u no_task l, set-set ts i u (pick b (worked_task u) u)) (ap (set ts i) (both a b (get_or ts i no_task)))
  where
    both : (a b : Bool) (t : Task) → pick b (worked_task (pick a (lowered_task t) t)) (pick a (lowered_task t) t) ≡ worked_on a b t
    both true true t = refl
    both true false t = refl
    both false true t = refl
    both false false t = refl

-- the task that the pass leaves at j, and whether it has a job then
abbrev worked_at : Bool → TaskSet → Run → ℕ → Task
worked_at lowers runs r j = worked_on lowers (runs j) (get_or r.tasks j no_task)

abbrev remains : Bool → TaskSet → Run → TaskSet
remains lowers runs r j = is_present (worked_at lowers runs r j).job

-- the pass has done the tasks before i
abbrev pub Done : Bool → TaskSet → Run → List Task → ℕ → Type 0
Done lowers runs r ts i = Filling max_tasks (map_at (λ j t. worked_on lowers (runs j) t) r.tasks) r.tasks ts i

pub record Running (lowers : Bool) (runs : TaskSet) (policy next : ℕ) (r : Run) (ts : List Task) (n : ℕ) (same : Bool)
    (i : ℕ) : Type 0
  where
    pub tasks : Done lowers runs r ts i
    pub few : n ≤ i
    pub counts : n ≡ count_in (remains lowers runs r) 0 i
    pub calm : same ≡ true → (j : ℕ) → j < i → changes policy next (worked_at lowers runs r j).job ≡ false

module _ (lowers : Bool) (runs : TaskSet) (policy next : ℕ) (r : Run) where
  pub running_none : Full r → Running lowers runs policy next r r.tasks 0 true 0
  unfolding sum
  running_none h = record {
    tasks = each_none (λ j t. worked_on lowers (runs j) t) max_tasks r.tasks h;
    few = omega arith;
    counts = refl;
    calm = λ e j l. absurd (not-suc-le-zero l);
  }

  module _ (ts : List Task) (n : ℕ) (same : Bool) (i : ℕ) (l : i < max_tasks) (w : Running lowers runs policy next r ts n same i) where
    -- both steps of the task at i are written where they change it
    pub running_put : (us vs : List Task) → us ≡ put ts i lowers lowered_task → vs ≡ put us i (runs i) worked_task
        → Done lowers runs r vs (i + 1)
    running_put us vs p q =
        rw (put_both ts us vs i lowers (runs i) (omega (arith, long w.tasks)) p q)
        (each_store (λ j t. worked_on lowers (runs j) t) max_tasks r.tasks ts i no_task _ l w.tasks refl)

    -- one task more is done, and its job known
    running_more : (ts' : List Task) (m : ℕ) (c : Bool) → Done lowers runs r ts' (i + 1)
        → m ≡ n + bit (is_present (get_or ts' i no_task).job)
        → (c ≡ true → same ≡ true) → (c ≡ true → changes policy next (get_or ts' i no_task).job ≡ false)
        → Running lowers runs policy next r ts' m c (i + 1)
    running_more ts' m c f k s e =
        let x : get_or ts' i no_task ≡ worked_at lowers runs r i =
        filling_past max_tasks _ _ ts' i no_task l f ∙ map_at_at _ r.tasks i no_task (omega (arith, f.long)) in
        record {
          tasks = f;
          few = bit_few n m i (is_present (get_or ts' i no_task).job) w.few k;
          counts = count-more (remains lowers runs r) i n m (is_present (get_or ts' i no_task).job) w.counts k
              (ap (λ (t : Task). is_present t.job) (sym x));
          calm = λ h j u. elim (dec_lt j i) [
            | yes v ↦ w.calm (s h) j v
            | no v ↦ (let z : j ≡ i = omega arith in rw z (ap (λ (t : Task). changes policy next t.job) (sym x) ∙ e h))
          ];
        }

    -- it has a job then
    pub running_there : (ts' : List Task) (b : Bool) → Done lowers runs r ts' (i + 1) → is_present (get_or ts' i no_task).job ≡ true
        → b ≡ changes policy next (get_or ts' i no_task).job → Running lowers runs policy next r ts' (n + 1) (same && not b) (i + 1)
    running_there ts' b f p q =
        running_more ts' (n + 1) (same && not b) f (rw p refl) (and_left same (not b)) (λ h. sym q ∙ not_is b (and_right same (not b) h))

    -- it has none then
    pub running_gone : (ts' : List Task) → Done lowers runs r ts' (i + 1) → is_present (get_or ts' i no_task).job ≡ false
        → Running lowers runs policy next r ts' n same (i + 1)
    running_gone ts' f p =
        running_more ts' n same f (rw p (omega arith)) (λ h. h)
        (λ h. rw (idle_now (get_or ts' i no_task).job p) (and-false (demoting policy)))

    -- it had none, and both steps leave it as it is
    pub running_skip : is_present (get_or ts i no_task).job ≡ false → Running lowers runs policy next r ts n same (i + 1)
    running_skip p =
        running_gone ts
        (each_keep (λ j t. worked_on lowers (runs j) t) max_tasks r.tasks ts i no_task l w.tasks
        (idle_stays lowers (runs i) (get_or ts i no_task) (idle_now (get_or ts i no_task).job p))) p

  module _ (a : Run) (n : ℕ) (same : Bool) (i : ℕ) (l : max_tasks ≤ i)
      (w : Running lowers runs policy next r a.tasks n same i) where
    pub running_all : a ≡ each_task (λ j t. worked_on lowers (runs j) t) r
    running_all = ap run_of (filling_all max_tasks _ _ _ i l w.tasks)

    left_at : (j : ℕ) → j < max_tasks → job_at a j ≡ (worked_at lowers runs r j).job
    left_at j u =
        rw running_all
        (ap (λ (t : Task). t.job)
        (map_at_at (λ j t. worked_on lowers (runs j) t) r.tasks j no_task (omega (arith, w.tasks.long))))

    pub running_ahead : Ahead policy next a n same
    unfolding jobs_now present
    running_ahead =
        let e : i ≡ max_tasks = omega (arith, w.tasks.within) in
        record {
          jobs = (rw e at w.counts) ∙ count_cong (remains lowers runs r) (present a) 0 max_tasks
              (λ j u v. ap is_present (sym (left_at j (omega arith))));
          stays = λ h j u. rw (left_at j u) (w.calm h j (omega arith));
        }
