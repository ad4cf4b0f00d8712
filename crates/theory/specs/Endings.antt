-- How the job of a release ends, by the states: finished, removed by step 1 at its deadline, or left when step 1 of the end is done
-- (`closing` of rules, Replay). Laws states what follows for the verdicts missed and open.
use Rattle.std.specs.Prelude.{◌≡◌, Bool, ◌&&◌, eqb, leb}
use Rattle.std.proofs.Math.Path.{refl}
use Rattle.std.proofs.Common.{ap, sym, ◌∙◌, inl, inr, arith}
use Rattle.std.proofs.Math.Bool.{true, false, false≢true}
use Prim.Native.Nat.{ℕ, suc, ◌+◌, ◌-◌, min, ◌≤◌, ◌<◌}
use borrow.Author.Tests.{le-leb, lt-leb, leb-true, leb-false, eq-eqb, eqb-true, ne_eqb}
use Rattle.rules.specs.declared.Job.{Job}
use Rattle.rules.specs.Words.{bit, count_in}
use Rattle.rules.specs.Limits.{max_tasks}
use Rattle.rules.specs.Case.{Case, deadline, release_count, time_of, name_of}
use Rattle.rules.specs.Slot.{job_at, is_present, due_of, present, jobs_now, is_missed, missed}
use Rattle.rules.specs.Replay.{released_at, state_at, closing, missed_at, slots_by, finish_by, demotion_by, verdict_of, verdict_by}
use Rattle.rules.specs.Replay.{record_by}
use Rattle.lists.specs.Sums.{sum_cong, sum_swap, count_none}
use Rattle.bridge.specs.Steps.{judged_job, judged_at}
use Rattle.bridge.specs.Jobs.{Stand}
use Rattle.bridge.specs.Stands.{state_full, stands, replay_of, replay_state}
use Rattle.legal.specs.Legal.{Legal}
use Rattle.lists.specs.Tests.{never_true, and_left, and_right}
use Rattle.bridge.specs.Records.{released_some, task_at, good_at, sole}
use Rattle.lists.specs.Tests.{and_both}
use Rattle.theory.specs.Counting.{count_only}
use Rattle.theory.specs.Enough.{From, judged_from, state_from_lem}
use Rattle.theory.specs.Accept.{lawful, stand_due}
use Rattle.theory.specs.Verdicts.{missed_says, open_says}

-- ---- where the jobs of the states come from
module _ (c : Case) (g : Legal c) (i : ℕ) (l : i < max_tasks) where
  -- a job that stands at t comes from a release before t, and its deadline is not past
  from_release : (t : ℕ) → is_present (job_at (state_at c t) i) ≡ true → From (replay_of c) i t t (job_at (state_at c t) i)
  from_release t = rw (replay_state c t) at (state_from_lem (replay_of c) i l lasts t)
    where
      lasts : (t : ℕ) → released_at c t i ≡ true → 0 < deadline c.table i
      lasts t r =
          let m = g.good i ((lawful c g).named t i r) in
          omega (arith, m.some, m.fits)

  -- what step 1 of the end leaves
  left_at : job_at (closing c) i ≡ judged_job c.end (job_at (state_at c c.end) i)
  unfolding closing
  left_at = judged_at i l c.end (state_at c c.end) (state_full c c.end)

  -- a job left at the end has a later deadline
  left_from : is_present (job_at (closing c) i) ≡ true → From (replay_of c) i c.end (suc c.end) (job_at (closing c) i)
  left_from e = rw left_at (judged_from (replay_of c) i c.end (job_at (state_at c c.end) i) (from_release c.end) (rw left_at at e))

  -- the release that a job comes from, by its place in the trace
  place : (t u : ℕ) (x : Job) → From (replay_of c) i t u x
      → (j : ℕ) × ((j < release_count c.trace) × (task_at c j ≡ i) × (due_of x ≡ time_of c.trace j + deadline c.table i))
  place t u x f =
      let r = released_some c.trace (release_count c.trace) f.at i f.released in
      (r.0, (r.1.0, omega (arith, r.1.2), omega (arith, f.due, r.1.1)))

module _ (c : Case) (g : Legal c) (j : ℕ) (h : j < release_count c.trace) where
  abbrev i : ℕ
  i = task_at c j

  abbrev a : ℕ
  a = time_of c.trace j

  abbrev due : ℕ
  due = a + deadline c.table i

  abbrev verdict : ℕ
  verdict = verdict_of (finish_by c i a c.end) (leb due c.end)

  -- ---- at the deadline
  pub missed_removed : verdict ≡ 2 → (due ≤ c.end) × (missed_at c due i ≡ true)
  unfolding missed_at missed
  missed_removed e =
      let r = missed_says (finish_by c i a c.end) _ e in
      let come : due ≤ c.end = leb-true _ _ r.1 in
      (come, go r.0 (stand_due c g j h c.end come))
    where
      go : finish_by c i a c.end ≡ 0
          → Stand (finish_by c i a c.end) (demotion_by c i a c.end) due (job_at (state_at c due) i)
          → is_missed due (job_at (state_at c due) i) ≡ true
      go z (inl (q, v)) = rw v.there (eq-eqb _ _ v.its)
      go z (inr (p, q)) = absurd (omega arith)

  pub removed_missed : due ≤ c.end → missed_at c due i ≡ true → verdict ≡ 2
  unfolding missed_at missed
  removed_missed come e = go (stand_due c g j h c.end come)
    where
      go : Stand (finish_by c i a c.end) (demotion_by c i a c.end) due (job_at (state_at c due) i) → verdict ≡ 2
      go (inl (q, v)) = rw (q, le-leb due c.end come)
      go (inr (p, q)) = absurd (false≢true (sym (ap is_present q) ∙ and_left (is_present (job_at (state_at c due) i)) _ e))

  -- ---- at the end
  -- how the job stands at the end, before step 1, where its deadline is later
  stand_end : c.end < due → Stand (finish_by c i a c.end) (demotion_by c i a c.end) due (job_at (state_at c c.end) i)
  unfolding finish_by demotion_by slots_by
  stand_end later =
      let n = c.end - suc a in
      let z : suc (a + n) ≡ c.end = omega (arith, g.before_end j h) in
      let y : min (deadline c.table i) (c.end - a) ≡ suc n = omega (arith, g.before_end j h) in
      rw y (rw z at (stands c i a (sole c g j h) n (omega (arith, g.before_end j h))))

  pub open_left : verdict ≡ 3 → (is_present (job_at (closing c) i) ≡ true) × (due_of (job_at (closing c) i) ≡ due)
  open_left e =
      let r = open_says (finish_by c i a c.end) _ e in
      let later : c.end < due = leb-false due c.end r.1 in
      rw (left_at c g i (sole c g j h).task) (go later r.0 (stand_end later))
    where
      go : c.end < due → finish_by c i a c.end ≡ 0
          → Stand (finish_by c i a c.end) (demotion_by c i a c.end) due (job_at (state_at c c.end) i)
          → (is_present (judged_job c.end (job_at (state_at c c.end) i)) ≡ true)
          × (due_of (judged_job c.end (job_at (state_at c c.end) i)) ≡ due)
      go later z (inr (p, q)) = absurd (omega arith)
      go later z (inl (q, v)) =
          let n : eqb (due_of (job_at (state_at c c.end) i)) c.end ≡ false =
          ne_eqb (due_of (job_at (state_at c c.end) i)) c.end (λ x. omega (arith, v.its)) in
          rw (v.there, n) (v.there, v.its)

  pub left_open : is_present (job_at (closing c) i) ≡ true → due_of (job_at (closing c) i) ≡ due → verdict ≡ 3
  left_open e d =
      let f = left_from c g i (sole c g j h).task e in
      let later : c.end < due = omega (arith, f.ahead, f.due) in
      go later (stand_end later)
    where
      go : c.end < due → Stand (finish_by c i a c.end) (demotion_by c i a c.end) due (job_at (state_at c c.end) i) → verdict ≡ 3
      go later (inl (q, v)) = rw (q, lt-leb due c.end later)
      go later (inr (p, q)) =
          absurd (false≢true (sym (ap (λ (x : Job). is_present (judged_job c.end x)) q)
          ∙ sym (ap is_present (left_at c g i (sole c g j h).task)) ∙ e))

-- ---- each job removed or left is that of a release
module _ (c : Case) (g : Legal c) (i : ℕ) (l : i < max_tasks) where
  pub removed_release : (t : ℕ) → missed_at c t i ≡ true
      → (j : ℕ) × ((j < release_count c.trace) × (task_at c j ≡ i) × (time_of c.trace j + deadline c.table i ≡ t))
  unfolding missed_at missed
  removed_release t e =
      let x = job_at (state_at c t) i in
      let r = place c g i l t t x (from_release c g i l t (and_left (is_present x) _ e)) in
      let d : due_of x ≡ t = eqb-true _ _ (and_right (is_present x) _ e) in
      (r.0, (r.1.0, r.1.1, omega (arith, r.1.2)))

  pub left_release : is_present (job_at (closing c) i) ≡ true
      → (j : ℕ)
      × ((j < release_count c.trace) × (task_at c j ≡ i)
      × (due_of (job_at (closing c) i) ≡ time_of c.trace j + deadline c.table i))
  left_release e = place c g i l _ _ (job_at (closing c) i) (left_from c g i l e)

-- ---- the open records are as many as the jobs that are left
module _ (c : Case) (g : Legal c) where
  abbrev n : ℕ
  n = release_count c.trace

  -- release j is open
  abbrev is_open : ℕ → Bool
  is_open j = eqb (record_by c c.end j).verdict 3

  -- release j is open and of the task at i
  abbrev opens : ℕ → ℕ → Bool
  opens i j = is_open j && eqb (task_at c j) i

  left_of_lem : (i j : ℕ) → j < n → opens i j ≡ true
      → (task_at c j ≡ i) × (is_present (job_at (closing c) i) ≡ true)
      × (due_of (job_at (closing c) i) ≡ time_of c.trace j + deadline c.table i)
  unfolding record_by verdict_by
  left_of_lem i j h e =
      let z : task_at c j ≡ i = eqb-true _ _ (and_right (is_open j) _ e) in
      let r = open_left c g j h (eqb-true _ _ (and_left (is_open j) _ e)) in
      (z, rw z at r.0, rw z at r.1)

  -- no two releases of a task are open
  one_open : (i j k : ℕ) → j < k → k < n → opens i j ≡ true → opens i k ≡ true → ⊥
  one_open i j k h l x y =
      let p = left_of_lem i j (omega arith) x in
      let q = left_of_lem i k l y in
      let m = good_at c g k l in
      let same : name_of c.trace j ≡ name_of c.trace k = omega (arith, p.0, q.0, g.named j (omega arith), g.named k l) in
      omega (arith, g.separate j k h l same, p.2, q.2, m.some, m.fits, m.within)

  -- of the releases of a task one is open where its job is left, and none where it has none
  task_opens : (i : ℕ) → i < max_tasks → count_in (opens i) 0 n ≡ bit (is_present (job_at (closing c) i))
  unfolding record_by verdict_by
  task_opens i l = go (is_present (job_at (closing c) i)) refl
    where
      go : (b : Bool) → is_present (job_at (closing c) i) ≡ b → count_in (opens i) 0 n ≡ bit b
      go false e = count_none (opens i) 0 n (λ j x y.
          never_true (opens i j) (λ q. false≢true (sym e ∙ (left_of_lem i j (omega arith) q).1)))
      go true e =
          let r = left_release c g i l e in
          let v = left_open c g r.0 r.1.0 (rw r.1.1 e) (rw r.1.1 r.1.2) in
          count_only (opens i) 0 n r.0 (omega arith) (omega (arith, r.1.0))
          (and_both (is_open r.0) _ (eq-eqb _ 3 v) (eq-eqb _ i r.1.1))
          (λ j k x y. one_open i j k x (omega arith))

  -- an open release is open of its own task alone
  by_task : (j : ℕ) → j < n → bit (is_open j) ≡ count_in (λ i. opens i j) 0 max_tasks
  by_task j h = go (is_open j) refl
    where
      go : (b : Bool) → is_open j ≡ b → bit b ≡ count_in (λ i. opens i j) 0 max_tasks
      go false e = sym (count_none (λ i. opens i j) 0 max_tasks (λ i x y. rw e))
      go true e =
          sym (count_only (λ i. opens i j) 0 max_tasks (task_at c j) (omega arith) (omega (arith, g.named j h, g.tasks_few))
          (and_both (is_open j) _ e (eq-eqb (task_at c j) _ refl))
          (λ i k x y p q. apart i k x (eqb-true (task_at c j) i (and_right (is_open j) _ p))
          (eqb-true (task_at c j) k (and_right (is_open j) _ q))))
        where
          apart : (i k : ℕ) → i < k → task_at c j ≡ i → task_at c j ≡ k → ⊥
          apart i k x p q = omega arith

  pub open_count : count_in (λ j. eqb (record_by c c.end j).verdict 3) 0 (release_count c.trace) ≡ jobs_now (closing c)
  unfolding jobs_now present
  open_count =
      sum_cong _ _ 0 n (λ j x y. by_task j (omega arith)) ∙ sum_swap (λ i j. bit (opens i j)) 0 n 0 max_tasks ∙
      sum_cong _ _ 0 max_tasks (λ i x y. task_opens i (omega arith))
