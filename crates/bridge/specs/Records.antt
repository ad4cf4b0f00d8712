-- How the record of a release (rules, Replay) goes on from time t to t + 1, and when its task is idle; which releases of the trace the
-- set released at a time is; and `sole`, that a task of an accepted case never has two jobs at once (document 01, "The model"). Turn
-- takes these together for all releases of a task.
use Rattle.std.specs.Prelude.{◌≡◌, Bool, ◌&&◌, ◌||◌, ◌⊎◌, List, eqb, leb}
use Rattle.std.proofs.Math.Path.{refl, sym}
use Rattle.std.proofs.Common.{ap, ◌∙◌, true≢false, inl, inr, eq-or-lt_of_le, add-suc, add-zero, eqb-true, eq-eqb, le-leb}
use Rattle.std.proofs.Math.Bool.{true, false, and-false, or-true}
use Rattle.std.proofs.lemmas.Bool.{false≢true, lt-leb}
use Prim.Native.Nat.{ℕ, zero, suc, ◌+◌, ◌-◌, ◌≤◌, ◌<◌}
use Rattle.std.proofs.Math.Decide.{dec_lt}
use native.Mathlib.Omega.{arith}
use Rattle.rules.specs.Words.{pick, or_else, first_in}
use Rattle.rules.specs.Limits.{max_tasks}
use Rattle.rules.specs.Case.{Case, task_count, period, execution, deadline, release_count, time_of, name_of}
use Rattle.rules.specs.Policies.{demoting}
use Rattle.rules.specs.Slot.{job_at, is_present, is_demoted, due_of, is_demoted_now}
use Rattle.rules.specs.Replay.{released_in, released_at, state_from, state_at, finished_at, demoted_at, slots_by, finish_by}
use Rattle.rules.specs.Replay.{demotion_by, verdict_by, verdict_of, Record, record_of, job_record}
use Rattle.rules.specs.declared.Job.{Job}
use Rattle.rules.specs.declared.Job.TheVariants.{Idle}
use Rattle.lists.specs.Tests.{and_left, and_right, and_no}
use Rattle.bridge.specs.Steps.{judged_job}
use Rattle.bridge.specs.Jobs.{Stand, written, idle_now, demotes_once}
use Rattle.bridge.specs.Course.{Sole, fresh_idle}
use Rattle.bridge.specs.Stands.{replay_of, ready_at, open_at, kept_at, ready, stands, next_at, ran-present, demoted_at_lem}
use Rattle.legal.specs.Legal.{Legal, Good}

-- ---- the set released at t
released_yes : (rs : List ℕ) (n t i j : ℕ) → j < n → time_of rs j ≡ t → name_of rs j ≡ suc i → released_in rs n t i ≡ true
unfolding released_in
released_yes rs zero t i j h e f = absurd (omega arith)
released_yes rs (suc n) t i j h e f = go (released_yes rs n t i j) (eq-or-lt_of_le {n = j} {m = n} (omega arith))
  where
    go : (j < n → time_of rs j ≡ t → name_of rs j ≡ suc i → released_in rs n t i ≡ true) → (j ≡ n) ⊎ (j < n)
        → (released_in rs n t i || (eqb (time_of rs n) t && eqb (name_of rs n) (suc i))) ≡ true
    go ih (inl q) =
        let x : time_of rs n ≡ t = ap (time_of rs) (sym q) ∙ e in
        let y : name_of rs n ≡ suc i = ap (name_of rs) (sym q) ∙ f in
        rw (eq-eqb (time_of rs n) t x, eq-eqb (name_of rs n) (suc i) y) (or-true (released_in rs n t i))
    go ih (inr q) = rw (ih q e f)

pub released_no : (rs : List ℕ) (n t i : ℕ) → ((j : ℕ) → j < n → time_of rs j ≡ t → name_of rs j ≡ suc i → ⊥)
    → released_in rs n t i ≡ false
unfolding released_in
released_no rs zero t i h = refl
released_no rs (suc n) t i h =
    rw (released_no rs n t i (λ j l. h j (omega arith)))
    (and_no (eqb (time_of rs n) t) (eqb (name_of rs n) (suc i)) (λ p q. h n (omega arith) (eqb-true _ _ p) (eqb-true _ _ q)))

-- a release of the set is one of the trace
pub released_some : (rs : List ℕ) (n t i : ℕ) → released_in rs n t i ≡ true
    → (j : ℕ) × ((j < n) × (time_of rs j ≡ t) × (name_of rs j ≡ suc i))
unfolding released_in
released_some rs zero t i e = absurd (false≢true e)
released_some rs (suc n) t i e = go (released_in rs n t i) refl (released_some rs n t i) e
  where
    go : (b : Bool) → released_in rs n t i ≡ b
        → (released_in rs n t i ≡ true → (j : ℕ) × ((j < n) × (time_of rs j ≡ t) × (name_of rs j ≡ suc i)))
        → (b || (eqb (time_of rs n) t && eqb (name_of rs n) (suc i))) ≡ true
        → (j : ℕ) × ((j < suc n) × (time_of rs j ≡ t) × (name_of rs j ≡ suc i))
    go true q ih z = let r = ih q in (r.0, (omega (arith, r.1.0), r.1.1, r.1.2))
    go false q ih z = (
      n,
      (
        omega arith,
        eqb-true _ _ (and_left (eqb (time_of rs n) t) _ z),
        eqb-true _ _ (and_right (eqb (time_of rs n) t) _ z),
      ),
    )

pub released_named : (c : Case) → Legal c → (t i : ℕ) → released_at c t i ≡ true → i < task_count c.table
released_named c g t i e =
    let r = released_some c.trace (release_count c.trace) t i e in
    omega (arith, g.named r.0 r.1.0, r.1.2)

-- ---- each release of an accepted case is the only one of its task up to its deadline
abbrev pub task_at : Case → ℕ → ℕ
task_at c j = name_of c.trace j - 1

module _ (c : Case) (g : Legal c) where
  pub good_at : (j : ℕ) → j < release_count c.trace
      → Good (period c.table (task_at c j)) (execution c.table (task_at c j)) (deadline c.table (task_at c j))
  good_at j h = g.good (task_at c j) (omega (arith, g.named j h))

  pub sole : (j : ℕ) → j < release_count c.trace → Sole (replay_of c) (task_at c j) (time_of c.trace j)
  sole j h =
      let n = g.named j h in
      let d = (good_at j h).within in
      record {
        task = omega (arith, g.tasks_few);
        released = released_yes c.trace _ _ _ j h refl (omega arith);
        alone = λ u p q. released_no c.trace _ u _ (λ k l e f. other u p q k l e f (dec_lt k j));
      }
    where
      other : (u : ℕ) → time_of c.trace j < u → u < time_of c.trace j + deadline c.table (task_at c j)
          → (k : ℕ) → k < release_count c.trace → time_of c.trace k ≡ u → name_of c.trace k ≡ suc (task_at c j)
          → Dec (k < j) → ⊥
      other u p q k l e f (yes z) = omega (arith, g.in_order_lem k j (omega arith) h)
      other u p q k l e f (no z) = later (eq-or-lt_of_le {n = j} {m = k} (omega arith))
        where
          later : (j ≡ k) ⊎ (j < k) → ⊥
          later (inl x) = omega (arith, ap (time_of c.trace) x)
          later (inr x) =
              let same : name_of c.trace j ≡ name_of c.trace k = omega (arith, g.named j h) in
              let d = (good_at j h).within in
              omega (arith, g.separate j k x l same, ap (λ (v : ℕ). period c.table (v - 1)) same)

-- ---- when a task is idle
module _ (c : Case) (i : ℕ) (l : i < max_tasks) where
  -- a slot that finds no job after steps 1 and 2 leaves none
  idle_next : (t : ℕ) → ready_at c t i ≡ Idle → job_at (state_at c (suc t)) i ≡ Idle
  idle_next t e =
      let n : is_present (open_at c t i) ≡ false = (kept_at c t i).there ∙ ap is_present e in
      next_at c i l t ∙ rw (ran-present c i l t n) (idle_now (open_at c t i) n)

  idle_ready : (t : ℕ) → released_at c t i ≡ false → job_at (state_at c t) i ≡ Idle → ready_at c t i ≡ Idle
  idle_ready t r e = rw (r, e)

  -- while nothing is released, a task that was idle stays so
  pub stays_idle : (t n : ℕ) → ((u : ℕ) → t < u → u ≤ t + n → released_at c u i ≡ false) → ready_at c t i ≡ Idle
      → ready_at c (t + n) i ≡ Idle
  stays_idle t zero h e = rw (add-zero t) e
  stays_idle t (suc n) h e =
      rw (add-suc t n) (idle_ready (suc (t + n)) (h (suc (t + n)) (omega arith) (omega arith))
      (idle_next (t + n) (stays_idle t n (λ u p q. h u p (omega arith)) e)))

  pub at_first : job_at (state_at c 0) i ≡ Idle
  unfolding state_at state_from
  at_first = fresh_idle i l

  pub never_released : (t : ℕ) → ((u : ℕ) → u ≤ t → released_at c u i ≡ false) → ready_at c t i ≡ Idle
  never_released t h =
      let z : 0 + t ≡ t = omega arith in
      rw z at (stays_idle 0 t (λ u p q. h u (omega arith)) (idle_ready 0 (h 0 (omega arith)) at_first))

-- at its deadline the job of a release is gone
due_gone : (f d due : ℕ) (j : Job) → Stand f d due j → judged_job due j ≡ Idle
due_gone f d due j (inl (e, v)) = rw (v.there, eq-eqb (due_of j) due v.its)
due_gone f d due j (inr (p, e)) = rw e

pub over : (c : Case) (i a : ℕ) → Sole (replay_of c) i a → 0 < deadline c.table i
    → (t : ℕ) → a + deadline c.table i ≤ t → ((u : ℕ) → a < u → u ≤ t → released_at c u i ≡ false)
    → ready_at c t i ≡ Idle
over c i a s pos t h none =
    let D = deadline c.table i in
    let e : suc (a + (D - 1)) ≡ a + D = omega arith in
    let z : (a + D) + (t - (a + D)) ≡ t = omega arith in
    let g = rw e at (stands c i a s (D - 1) (omega arith)) in
    rw z at (stays_idle c i s.task (a + D) (t - (a + D)) (λ u p q. none u (omega arith) (omega arith))
    (rw (none (a + D) (omega arith) (omega arith)) (due_gone _ _ (a + D) _ g)))

-- ---- the record from t to t + 1
or_else_some : (f v : ℕ) (b : Bool) → 0 < f → or_else f b v ≡ f
or_else_some zero v b h = absurd (omega arith)
or_else_some (suc f) v b h = refl

or_else_none : (f v : ℕ) (b : Bool) → f ≡ 0 → or_else f b v ≡ pick b v 0
or_else_none zero v b h = refl
or_else_none (suc f) v b h = absurd (omega arith)

or_else-not : (f v : ℕ) → or_else f false v ≡ f
or_else-not zero v = refl
or_else-not (suc f) v = refl

verdict_some : (f : ℕ) (a b : Bool) → 0 < f → verdict_of f a ≡ verdict_of f b
verdict_some zero a b h = absurd (omega arith)
verdict_some (suc f) a b h = refl

-- what the slot at t writes for a job that is there: its deadline is due, its demotion so far d
abbrev pub noted : ℕ → Bool → Bool → ℕ → ℕ → Record
noted t fin dm due d = record_of (verdict_of (pick fin (suc t) 0) (leb due (suc t))) (pick fin (suc t) 0) (pick dm (suc t) d)

-- of the job of task i released at a that is there at t: its deadline, its record as it stands, and its record after the slot
pub record LiveAt (c : Case) (i a t : ℕ) : Type 0 where
  pub due : due_of (open_at c t i) ≡ a + deadline c.table i
  pub before : job_record c i a t ≡ record_of 3 0 (demotion_by c i a t)
  pub behind : job_record c i a (suc t) ≡ noted t (finished_at c t i) (demoted_at c t i) (a + deadline c.table i) (demotion_by c i a t)

module _ (c : Case) (i a : ℕ) (s : Sole (replay_of c) i a) (pos : 0 < deadline c.table i) where
  -- the record depends only on how many of its slots have been, and on whether its deadline has come
  same_slots : (t u : ℕ) → slots_by c i a t ≡ slots_by c i a u
      → leb (a + deadline c.table i) t ≡ leb (a + deadline c.table i) u → job_record c i a t ≡ job_record c i a u
  unfolding finish_by demotion_by verdict_by
  same_slots t u e f = rw (e, f)

  pub future : (t : ℕ) → t < a → job_record c i a (suc t) ≡ job_record c i a t
  unfolding slots_by
  future t h = same_slots (suc t) t (omega arith)
      (lt-leb (a + deadline c.table i) (suc t) (omega arith) ∙ sym (lt-leb (a + deadline c.table i) t (omega arith)))

  pub past : (t : ℕ) → a + deadline c.table i ≤ t → job_record c i a (suc t) ≡ job_record c i a t
  unfolding slots_by
  past t h = same_slots (suc t) t (omega arith)
      (le-leb (a + deadline c.table i) (suc t) (omega arith) ∙ sym (le-leb (a + deadline c.table i) t (omega arith)))

  slots_at : (n : ℕ) → n ≤ deadline c.table i → slots_by c i a (a + n) ≡ n
  unfolding slots_by
  slots_at n h = omega arith

  module _ (n : ℕ) (h : n < deadline c.table i) where
    abbrev fin : ℕ
    fin = first_in (λ t. finished_at c t i) a n

    abbrev dem : ℕ
    dem = first_in (λ t. demoted_at c t i) a n

    now : job_record c i a (a + n) ≡ record_of (verdict_of fin (leb (a + deadline c.table i) (a + n))) fin dem
    unfolding finish_by demotion_by verdict_by
    now = rw (slots_at n (omega arith))

    next : job_record c i a (suc (a + n))
        ≡ record_of (verdict_of (or_else fin (finished_at c (a + n) i) (suc (a + n))) (leb (a + deadline c.table i) (suc (a + n))))
        (or_else fin (finished_at c (a + n) i) (suc (a + n)))
        (or_else dem (demoted_at c (a + n) i) (suc (a + n)))
    unfolding finish_by demotion_by verdict_by first_in
    next = let e : slots_by c i a (suc (a + n)) ≡ suc n = rw (← add-suc) (slots_at (suc n) h) in rw e

    pub absent_at : is_present (open_at c (a + n) i) ≡ false → job_record c i a (suc (a + n)) ≡ job_record c i a (a + n)
    absent_at e = go (ready c i a s n h)
      where
        go : Stand fin dem (a + deadline c.table i) (ready_at c (a + n) i) → job_record c i a (suc (a + n)) ≡ job_record c i a (a + n)
        go (inl (z, v)) = absurd (true≢false (sym ((kept_at c (a + n) i).there ∙ v.there) ∙ e))
        go (inr (p, z)) =
            let q : demoted_at c (a + n) i ≡ false = demoted_at_lem c i s.task (a + n) ∙ rw z (and-false (demoting c.policy)) in
            next ∙
            rw (q, or_else_some fin (suc (a + n)) (finished_at c (a + n) i) p, or_else-not dem (suc (a + n)))
            (ap (λ (x : ℕ). record_of x fin dem) (verdict_some fin _ _ p) ∙ sym now)

    pub live_at : is_present (open_at c (a + n) i) ≡ true → LiveAt c i a (a + n)
    unfolding demotion_by
    live_at e = go (ready c i a s n h)
      where
        dem_next : (b : Bool) (j : Job) (d v : ℕ) → is_demoted j ≡ written d
            → or_else d (b && is_demoted_now j) v ≡ pick (b && is_demoted_now j) v d
        dem_next b j zero v q = refl
        dem_next false j (suc d) v q = refl
        dem_next true j (suc d) v q = rw (demotes_once j q)

        go : Stand fin dem (a + deadline c.table i) (ready_at c (a + n) i) → LiveAt c i a (a + n)
        go (inr (p, z)) = absurd (true≢false (sym e ∙ (kept_at c (a + n) i).there ∙ ap is_present z))
        go (inl (z, v)) = record {
          due = (kept_at c (a + n) i).due ∙ v.its;
          before = now ∙ rw (z, lt-leb (a + deadline c.table i) (a + n) (omega arith), slots_at n (omega arith));
          behind =
              next ∙
              rw (
                or_else_none fin (suc (a + n)) (finished_at c (a + n) i) z,
                demoted_at_lem c i s.task (a + n),
                slots_at n (omega arith),
                dem_next (demoting c.policy) (ready_at c (a + n) i) dem (suc (a + n)) v.demoted,
              );
        }
