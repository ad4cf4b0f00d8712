-- Part 1 of demand 3, for any course: a window of l slots has at least `count` (rules, Counts) contention-free ones, whatever is worked in
-- them; so no free count is too high. This is source document 001, Lemma 2; Demand3 says it of courses and of the replay.
use Rattle.std.specs.Prelude.{◌≡◌, refl, Bool, true, false, ◌⊎◌, List}
use Rattle.std.proofs.Math.Path.{ap}
use Rattle.std.proofs.Common.{sym, ◌∙◌, true≢false, inl, inr, le-div_iff_mul-le, eq-or-lt_of_le, arith, eq-eqb}
use Rattle.std.proofs.lemmas.Bool.{false≢true}
use Prim.Native.Nat.{ℕ, zero, suc, ◌+◌, ◌-◌, ◌/◌, ◌≤◌, ◌<◌}
use Rattle.std.proofs.Math.Dec.{ltb, leb}
use Rattle.rules.specs.declared.Job.{Job}
use Rattle.rules.specs.declared.Job.TheVariants.{Idle}
use Rattle.rules.specs.Words.{pick, bit, sum, count_in}
use Rattle.rules.specs.Limits.{max_tasks}
use Rattle.rules.specs.Case.{task_count, period, deadline}
use Rattle.rules.specs.Counts.{availability, availabilities, count, free_count}
use Rattle.rules.specs.Slot.{free_count_in, job_at, is_present, due_of, is_missed, contention_free, worked_job}
use Rattle.bridge.specs.Steps.{judged_job}
use Rattle.lists.specs.Sums.{sum_split, sum_mono, sum_const, sum_swap, count_cong, count_mono, count_none}
use Rattle.lists.specs.Tests.{never_true}
use Rattle.bridge.specs.Jobs.{went_on}
use Rattle.bridge.specs.Course.{Course, state_in, contention_free_in, found_in, open_in, course_first, next_in}
use Rattle.theory.specs.Counting.{over_count, count_both}
use Rattle.theory.specs.Window.{span_in, spanned, window}
use Rattle.theory.specs.Release.{times, sporadic, in_times}
use Rattle.theory.specs.Lawful.{Lawful, kept_in, jobs_found}

-- ---- a job that is there comes from a release whose deadline is ahead
-- the job j of the task at i comes from a release before `late`, and its deadline is not before `early`
pub record From (k : Course) (i late early : ℕ) (j : Job) : Type 0 where
  pub at : ℕ
  pub released : k.released at i ≡ true
  pub past : at < late
  pub due : due_of j ≡ at + deadline k.setup.table i
  pub ahead : early ≤ at + deadline k.setup.table i

-- what work leaves of a job was there before it, with the same deadline
worked_kept : (b : Bool) (o : Job) → is_present (pick b (worked_job o) o) ≡ true
    → (is_present o ≡ true) × (due_of (pick b (worked_job o) o) ≡ due_of o)
worked_kept false o e = (e, refl)
worked_kept true o e = let w = went_on o e in (sym w.there ∙ e, w.due)

module _ (k : Course) (i : ℕ) where
  abbrev D : ℕ
  D = deadline k.setup.table i

  -- step 1 of t keeps no job whose deadline is t
  pub judged_from : (t : ℕ) (j : Job) → (is_present j ≡ true → From k i t t j) → is_present (judged_job t j) ≡ true
      → From k i t (suc t) (judged_job t j)
  judged_from t j s = go (is_missed t j) refl
    where
      go : (b : Bool) → is_missed t j ≡ b → is_present (pick b Idle j) ≡ true → From k i t (suc t) (pick b Idle j)
      go true q e = absurd (false≢true e)
      go false q e =
          let f = s e in
          record {
            at = f.at;
            released = f.released;
            past = f.past;
            due = f.due;
            ahead = ahead f (eq-or-lt_of_le {n = t} {m = f.at + D} f.ahead);
          }
        where
          ahead : (f : From k i t t j) → (t ≡ f.at + D) ⊎ (t < f.at + D) → t < f.at + D
          ahead f (inr h) = h
          ahead f (inl h) = absurd (true≢false (sym (rw (e, eq-eqb (due_of j) t (f.due ∙ sym h))) ∙ q))

  module _ (l : i < max_tasks) (pos : (t : ℕ) → k.released t i ≡ true → 0 < D) where
    found_from : (t : ℕ) → (is_present (job_at (state_in k t) i) ≡ true → From k i t t (job_at (state_in k t) i))
        → is_present (found_in k t i) ≡ true → From k i (suc t) (suc t) (found_in k t i)
    found_from t s = go (k.released t i) refl
      where
        go : (b : Bool) → k.released t i ≡ b → is_present (found_in k t i) ≡ true → From k i (suc t) (suc t) (found_in k t i)
        go true q e = rw q (record { at = t; released = q; past = omega arith; due = refl; ahead = omega (arith, pos t q) })
        go false q e =
            let f = judged_from t (job_at (state_in k t) i) s (rw q at e) in
            rw q (record { at = f.at; released = f.released; past = omega (arith, f.past); due = f.due; ahead = f.ahead })

    -- before step 1 of t
    pub state_from_lem : (t : ℕ) → is_present (job_at (state_in k t) i) ≡ true → From k i t t (job_at (state_in k t) i)
    state_from_lem zero e = absurd (false≢true (sym (ap is_present (course_first k i l)) ∙ e))
    state_from_lem (suc t) e =
        let w = worked_kept (k.works t i) (open_in k t i) (sym (ap is_present (next_in k t i l)) ∙ e) in
        let m = kept_in k t i l in
        let f = found_from t (state_from_lem t) (sym m.there ∙ w.0) in
        record {
          at = f.at;
          released = f.released;
          past = f.past;
          due = ap due_of (next_in k t i l) ∙ w.1 ∙ m.due ∙ f.due;
          ahead = f.ahead;
        }

    -- after steps 1 and 2 of t
    pub ready_from : (t : ℕ) → is_present (found_in k t i) ≡ true → From k i (suc t) (suc t) (found_in k t i)
    ready_from t = found_from t (state_from_lem t)

-- ---- the sum of the jobs that are there
module _ (k : Course) (g : Lawful k) where
  abbrev ts : List ℕ
  ts = k.setup.table

  abbrev jobs_at : ℕ → ℕ
  jobs_at t = count_in (λ i. is_present (found_in k t i)) 0 max_tasks

  -- the slots of a window in which a task has a job
  task_slots : (i : ℕ) → i < task_count ts → (a l : ℕ)
      → count_in (λ t. is_present (found_in k t i)) a l ≤ availability (period ts i) (deadline ts i) l
  task_slots i h a l =
      let m = g.good i h in
      let rel : ℕ → Bool = λ t. k.released t i in
      let pos : 0 < deadline ts i = omega (arith, m.some, m.fits) in
      let rs = times rel 0 (a + l) in
      let w = window (period ts i) (deadline ts i) pos m.within 0 rs (sporadic rel (period ts i)
      (g.separate i) 0 (a + l) 0 (λ v x y. omega arith)) a l in
      omega (
        arith,
        w,
        count_mono (λ t. is_present (found_in k t i)) (spanned rs (deadline ts i)) a l (λ t x y e.
            let f = ready_from k i (omega (arith, g.tasks_few)) (λ u r. pos) t e in
            in_times rel (deadline ts i) t f.at 0 (a + l) f.released (omega arith) (omega (arith, f.past))
            (span_in (deadline ts i) f.at t (omega (arith, f.past)) f.ahead)),
      )

  no_slots : (i : ℕ) → i < max_tasks → task_count ts ≤ i → (t : ℕ) → is_present (found_in k t i) ≡ false
  no_slots i l h t = never_true (is_present (found_in k t i)) (λ e.
      let f = ready_from k i l (λ u r. absurd (omega (arith, g.named u i r))) t e in
      omega (arith, g.named f.at i f.released))

  jobs_sum : (a l : ℕ) → sum jobs_at a l ≤ availabilities ts l
  unfolding availabilities
  jobs_sum a l =
      let n = task_count ts in
      let z : n + (max_tasks - n) ≡ max_tasks = omega (arith, g.tasks_few) in
      let f : ℕ → ℕ = λ i. count_in (λ t. is_present (found_in k t i)) a l in
      let swap : sum jobs_at a l ≡ sum f 0 max_tasks = sum_swap (λ i t. bit (is_present (found_in k t i))) a l 0 max_tasks in
      let split : sum f 0 max_tasks ≡ sum f 0 n + sum f (0 + n) (max_tasks - n) = rw z at (sum_split f 0 n (max_tasks - n)) in
      let front = sum_mono f (λ i. availability (period ts i) (deadline ts i) l) 0 n (λ i x y. task_slots i (omega arith) a l) in
      let back = sum_mono f (λ i. 0) (0 + n) (max_tasks - n) (λ i x y.
      omega (arith, count_none (λ t. is_present (found_in k t i)) a l (λ t u v. no_slots i (omega arith) (omega arith) t)))
      in
      omega (arith, swap, split, front, back, sum_const 0 (0 + n) (max_tasks - n))

  pub enough : (a l : ℕ) → count k.setup.procs k.setup.table l ≤ count_in (contention_free_in k) a l
  unfolding count contention_free_in contention_free
  enough a l =
      let m = k.setup.procs in
      let busy : count_in (λ t. ltb m (jobs_at t)) a l ≤ availabilities ts l / suc m =
      (le-div_iff_mul-le {k = suc m} (omega arith)).1 (omega (arith, over_count jobs_at m a l, jobs_sum a l))
      in
      let calm : count_in (contention_free_in k) a l ≡ count_in (λ t. leb (jobs_at t) m) a l =
      count_cong _ _ a l (λ t x y. ap (λ (n : ℕ). leb n m) (jobs_found k t)) in
      omega (arith, busy, calm, count_both jobs_at m a l)

  -- so the free count of a job is no more than the contention-free slots from its release to its deadline. Here alone it is asked which
  -- count the setup gives
  pub never_over : (i a : ℕ) → free_count_in k.setup i ≤ count_in (contention_free_in k) a (deadline k.setup.table i)
  unfolding free_count
  never_over i a = enough a (deadline k.setup.table i)
