-- One slot for all releases of one task: at most the last one's record changes, and how. Laws of `record_by` (rules, Replay) in the words
-- of a replay that keeps, for each task, the place of its last release. Events and Notes make of them what the replay writes.
use Rattle.std.specs.Prelude.{◌≡◌, refl, Bool, true, false, ◌⊎◌, List, eqb}
use Rattle.std.proofs.Common.{ap, sym, ◌∙◌, true≢false, inl, inr, eq-or-lt_of_le, eqb-true}
use Prim.Native.Nat.{ℕ, zero, suc, ◌+◌, ◌-◌, ◌≤◌, ◌<◌}
use Rattle.std.proofs.Math.Decide.{dec_lt, dec_le}
use native.Mathlib.Omega.{arith}
use Rattle.std.proofs.lemmas.Bool.{eqb-false}
use Rattle.rules.specs.Words.{pick}
use Rattle.rules.specs.Limits.{max_tasks}
use Rattle.rules.specs.Case.{Case, period, deadline, release_count, time_of, name_of}
use Rattle.rules.specs.Slot.{is_present, due_of}
use Rattle.rules.specs.Replay.{finished_at, demoted_at, demotion_by, record_of, job_record, record_by}
use Rattle.rules.specs.declared.Job.TheVariants.{Idle}
use Rattle.bridge.specs.Stands.{ready_at, open_at, kept_at}
use Rattle.legal.specs.Legal.{Legal}
use Rattle.bridge.specs.Records.{released_no, task_at, good_at, sole, never_released, over, noted, future, past, absent_at, live_at}

-- the last of the first k releases that has the name (0 where none has)
unfoldable pub last_place : List ℕ → ℕ → ℕ → ℕ
last_place rs zero name = 0
last_place rs (suc j) name = pick (eqb (name_of rs j) name) j (last_place rs j name)

pub data Last (rs : List ℕ) (k name : ℕ) : Type 0 where
  none : ((j : ℕ) → j < k → name_of rs j ≡ name → ⊥) → Last rs k name
  last : last_place rs k name < k → name_of rs (last_place rs k name) ≡ name
      → ((j : ℕ) → last_place rs k name < j → j < k → name_of rs j ≡ name → ⊥) → Last rs k name

pub find_last : (rs : List ℕ) (k name : ℕ) → Last rs k name
unfolding last_place
find_last rs zero name = none (λ j h e. absurd (omega arith))
find_last rs (suc k) name = go (find_last rs k name) (eqb (name_of rs k) name) refl
  where
    go : Last rs k name → (b : Bool) → eqb (name_of rs k) name ≡ b → Last rs (suc k) name
    go l true q =
        let z : last_place rs (suc k) name ≡ k = rw q in
        last (omega arith) (rw z (eqb-true _ _ q)) (λ j h x e. absurd (omega arith))
    go (none f) false q = none (λ j h e. at_last j (eq-or-lt_of_le {n = j} {m = k} (omega arith)) e)
      where
        at_last : (j : ℕ) → (j ≡ k) ⊎ (j < k) → name_of rs j ≡ name → ⊥
        at_last j (inl x) e = eqb-false _ _ q (ap (name_of rs) (sym x) ∙ e)
        at_last j (inr x) e = f j x e
    go (last p e f) false q =
        let z : last_place rs (suc k) name ≡ last_place rs k name = rw q in
        last (omega arith) (rw z e) (λ j h x y. at_last j (omega arith) (eq-or-lt_of_le {n = j} {m = k} (omega arith)) y)
      where
        at_last : (j : ℕ) → last_place rs k name < j → (j ≡ k) ⊎ (j < k) → name_of rs j ≡ name → ⊥
        at_last j h (inl x) y = eqb-false _ _ q (ap (name_of rs) (sym x) ∙ y)
        at_last j h (inr x) y = f j h x y

-- the first k releases are those before time t
pub record Reached (rs : List ℕ) (k t : ℕ) : Type 0 where
  pub within : k ≤ release_count rs
  pub before : (j : ℕ) → j < k → time_of rs j < t
  pub behind : (j : ℕ) → k ≤ j → j < release_count rs → t ≤ time_of rs j

module _ (c : Case) (g : Legal c) (t k : ℕ) (w : Reached c.trace k (suc t)) where
  -- a record stays where its job is not there
  keep : (j : ℕ) → j < release_count c.trace
      → (time_of c.trace j ≤ t → t < time_of c.trace j + deadline c.table (task_at c j)
      → is_present (open_at c t (task_at c j)) ≡ false)
      → record_by c (suc t) j ≡ record_by c t j
  unfolding record_by
  keep j h f = go (dec_lt t a) (dec_le (a + D) t)
    where
      a : ℕ
      a = time_of c.trace j

      D : ℕ
      D = deadline c.table (task_at c j)

      pos : 0 < D
      pos = omega (arith, (good_at c g j h).some, (good_at c g j h).fits)

      go : Dec (t < a) → Dec (a + D ≤ t) → job_record c (task_at c j) a (suc t) ≡ job_record c (task_at c j) a t
      go (yes x) y = future c (task_at c j) a (sole c g j h) pos t x
      go (no x) (yes y) = past c (task_at c j) a (sole c g j h) pos t y
      go (no x) (no y) =
          let z : a + (t - a) ≡ t = omega arith in
          rw z at (absent_at c (task_at c j) a (sole c g j h) pos (t - a) (omega arith) (rw z (f (omega arith) (omega arith))))

  module _ (i : ℕ) (l : i < max_tasks) where
    -- of a task that is not there no record changes
    pub turn_idle : is_present (open_at c t i) ≡ false
        → (j : ℕ) → j < release_count c.trace → name_of c.trace j ≡ suc i → record_by c (suc t) j ≡ record_by c t j
    turn_idle e j h q = keep j h (λ x y. let z : task_at c j ≡ i = omega arith in rw z e)

    -- the place of the task's last release
    abbrev p : ℕ
    p = last_place c.trace k (suc i)

    -- of a task that is there: how the record of its last release stands and goes on, and that no other record of the task changes
    pub record Lives : Type 0 where
      pub within : p < release_count c.trace
      pub its : name_of c.trace p ≡ suc i
      pub early : t < due_of (open_at c t i)
      pub old : record_by c t p ≡ record_of 3 0 (record_by c t p).demotion
      pub new : record_by c (suc t) p ≡ noted t (finished_at c t i) (demoted_at c t i) (due_of (open_at c t i)) (record_by c t p).demotion
      pub others : (j : ℕ) → j < release_count c.trace → name_of c.trace j ≡ suc i → (j ≡ p → ⊥)
          → record_by c (suc t) j ≡ record_by c t j

    idle_open : ready_at c t i ≡ Idle → is_present (open_at c t i) ≡ false
    idle_open e = (kept_at c t i).there ∙ ap is_present e

    pub turn_live : is_present (open_at c t i) ≡ true → Lives
    unfolding record_by
    turn_live e = go (find_last c.trace k (suc i))
      where
        go : Last c.trace k (suc i) → Lives
        go (none f) = absurd (true≢false (sym e ∙ idle_open (never_released c i l t
            (λ u x. released_no c.trace _ u i (λ j h q r. early u x j h q r (dec_lt j k))))))
          where
            early : (u : ℕ) → u ≤ t → (j : ℕ) → j < release_count c.trace
                → time_of c.trace j ≡ u → name_of c.trace j ≡ suc i → Dec (j < k) → ⊥
            early u x j h q r (yes y) = f j y r
            early u x j h q r (no y) = omega (arith, w.behind j (omega arith) h)
        go (last b q f) =
            let h : p < release_count c.trace = omega (arith, w.within) in
            let z : task_at c p ≡ i = omega arith in
            there h z (w.before _ b) (dec_le (time_of c.trace p + deadline c.table i) t)
          where
            there : p < release_count c.trace → task_at c p ≡ i → time_of c.trace p < suc t
                → Dec (time_of c.trace p + deadline c.table i ≤ t) → Lives
            there h z before (yes y) =
                let s = rw z at (sole c g p h) in
                let m = rw z at (good_at c g p h) in
                absurd (true≢false (sym e ∙ idle_open (over c i (time_of c.trace p) s (omega (arith, m.some, m.fits)) t y
                (λ u x v. released_no c.trace _ u i (λ j n q r. between u x v j n q r (dec_lt p j) (dec_lt j k))))))
              where
                between : (u : ℕ) → time_of c.trace p < u → u ≤ t
                    → (j : ℕ) → j < release_count c.trace → time_of c.trace j ≡ u → name_of c.trace j ≡ suc i
                    → Dec (p < j) → Dec (j < k) → ⊥
                between u x v j n q r (yes m) (yes o) = f j m o r
                between u x v j n q r (yes m) (no o) = omega (arith, w.behind j (omega arith) n)
                between u x v j n q r (no m) o = omega (arith, g.in_order_lem j p (omega arith) h)
            there h z before (no y) =
                let s = rw z at (sole c g p h) in
                let m = rw z at (good_at c g p h) in
                let d : time_of c.trace p + (t - time_of c.trace p) ≡ t = omega arith in
                let v = live_at c i (time_of c.trace p) s (omega (arith, m.some, m.fits)) (t - time_of c.trace p)
                (omega arith) (rw d e) in
                let u = rw d at v in
                record {
                  within = h;
                  its = q;
                  early = rw u.due (omega arith);
                  old = same_record z u.before;
                  new = fresh_record z u.due u.behind;
                  others = λ j n r x. keep j n (λ a b. absurd (other j n r x a b (dec_lt j p) (dec_lt j k)));
                }
              where
                same_record : task_at c p ≡ i
                    → job_record c i (time_of c.trace p) t ≡ record_of 3 0 (demotion_by c i (time_of c.trace p) t)
                    → record_by c t p ≡ record_of 3 0 (record_by c t p).demotion
                same_record z b = rw z b

                fresh_record : task_at c p ≡ i → due_of (open_at c t i) ≡ time_of c.trace p + deadline c.table i
                    → job_record c i (time_of c.trace p) (suc t)
                    ≡ noted t (finished_at c t i) (demoted_at c t i) (time_of c.trace p + deadline c.table i)
                    (demotion_by c i (time_of c.trace p) t)
                    → record_by c (suc t) p ≡ noted t (finished_at c t i) (demoted_at c t i) (due_of (open_at c t i))
                    (record_by c t p).demotion
                fresh_record z a b = rw (z, a) b

                other : (j : ℕ) → j < release_count c.trace → name_of c.trace j ≡ suc i → (j ≡ p → ⊥)
                    → time_of c.trace j ≤ t → t < time_of c.trace j + deadline c.table (task_at c j)
                    → Dec (j < p) → Dec (j < k) → ⊥
                other j n r x a b (yes o) v =
                    let same : name_of c.trace j ≡ name_of c.trace p = r ∙ sym q in
                    omega (arith, g.separate j p o h same, (good_at c g j n).within, ap (λ (v : ℕ). period c.table (v - 1)) same)
                other j n r x a b (no o) (yes v) =
                    let y : p < j = lt j (eq-or-lt_of_le {n = p} {m = j} (omega arith)) x in
                    f j y v r
                  where
                    lt : (j : ℕ) → (p ≡ j) ⊎ (p < j) → (j ≡ p → ⊥) → p < j
                    lt j (inl e) n = absurd (n (sym e))
                    lt j (inr h) n = h
                other j n r x a b (no o) (no v) = omega (arith, w.behind j (omega arith) n)
