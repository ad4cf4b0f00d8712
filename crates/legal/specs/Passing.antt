-- What it means to pass each test on numbers (rules, Refusals). Each test is opened here and in the proof of the function that makes it,
-- and nowhere else: Legal, the proofs of the checks and the theorems cite these laws.
use Rattle.std.specs.Prelude.{◌≡◌, ◌&&◌, List, ℕ, suc, ◌*◌, ◌-◌, ◌%◌, ◌≤◌, ◌<◌, length, ltb}
use Rattle.std.proofs.Math.Path.{refl}
use Rattle.std.proofs.Math.Bool.{true}
use Rattle.std.proofs.Common.{arith}
use Rattle.std.proofs.Math.Dec.{eqb, leb}
use borrow.Author.Tests.{eqb-true, leb-true, ltb-true, le-leb, eq-eqb, ne_eqb}
use Rattle.rules.specs.Limits.{max_procs, max_tasks, max_period, max_end, max_releases, task_width, release_width}
use Rattle.rules.specs.Case.{task_count, period, execution, deadline, release_count, time_of, name_of}
use Rattle.rules.specs.Policies.{max_policy}
use Rattle.rules.specs.Refusals.{no_fault, procs_fault, policy_fault, table_fault, task_stands, task_fault, tasks_fault, end_fault}
use Rattle.rules.specs.Refusals.{trace_fault, named, last_before, in_order, apart, release_tests, release_fault, releases_fault}
use Rattle.rules.specs.Refusals.{releases_of}
use Rattle.rules.specs.Refusals.{fault_of, absent_fault, absences_fault, room_fault, slot_fault}
use Rattle.lists.specs.Tests.{and_left, and_right}
use Rattle.lists.specs.Sums.{count_none, count_there, count_some}
use Rattle.legal.specs.Firsts.{unless_clear, unless_none, row_clear, row_none, first_of_clear}

-- ---- 4: processors
pub record Procs (m : ℕ) : Type 0 where
  pub some : 1 ≤ m
  pub few : m ≤ max_procs

pub procs_clear : (m : ℕ) → (procs_fault m).number ≡ 0 → Procs m
unfolding procs_fault
procs_clear m e =
    let q : (leb 1 m && leb m max_procs) ≡ true = unless_clear _ 4 0 (omega arith) e in
    record { some = leb-true 1 m (and_left (leb 1 m) _ q); few = leb-true m max_procs (and_right (leb 1 m) _ q) }

-- ---- 14: policy, both ways
pub policy_clear : (p : ℕ) → (policy_fault p).number ≡ 0 → p ≤ max_policy
unfolding policy_fault
policy_clear p e = leb-true p max_policy (unless_clear _ 14 0 (omega arith) e)

pub policy_none : (p : ℕ) → p ≤ max_policy → policy_fault p ≡ no_fault
unfolding policy_fault
policy_none p h = rw (le-leb p max_policy h)

-- ---- 5: the number of tasks
pub record Tasks (ts : List ℕ) : Type 0 where
  pub threes : length ts ≡ task_count ts * task_width
  pub some : 1 ≤ task_count ts
  pub few : task_count ts ≤ max_tasks

pub table_clear : (ts : List ℕ) → (table_fault ts).number ≡ 0 → Tasks ts
unfolding table_fault
table_clear ts e =
    let n = task_count ts in
    let q : (eqb (length ts % task_width) 0 && leb 1 n && leb n max_tasks) ≡ true = unless_clear _ 5 0 (omega arith) e in
    let r : (eqb (length ts % task_width) 0 && leb 1 n) ≡ true = and_left _ (leb n max_tasks) q in
    record {
      threes = omega (arith, eqb-true (length ts % task_width) 0 (and_left _ (leb 1 n) r));
      some = leb-true 1 n (and_right (eqb (length ts % task_width) 0) (leb 1 n) r);
      few = leb-true n max_tasks (and_right (eqb (length ts % task_width) 0 && leb 1 n) (leb n max_tasks) q);
    }

-- ---- 6: each task
pub record Good (T C D : ℕ) : Type 0 where
  pub some : 1 ≤ C
  pub fits : C ≤ D
  pub within : D ≤ T
  pub small : T ≤ max_period

module _ (ts : List ℕ) (i : ℕ) where
  pub task_clear : (task_fault ts i).number ≡ 0 → Good (period ts i) (execution ts i) (deadline ts i)
  unfolding task_fault
  task_clear e =
      let T = period ts i in
      let C = execution ts i in
      let D = deadline ts i in
      let q : task_stands T C D ≡ true = unless_clear _ 6 (suc i) (omega arith) e in
      let q1 : (leb 1 C && leb C D && leb D T) ≡ true = and_left _ (leb T max_period) q in
      let q2 : (leb 1 C && leb C D) ≡ true = and_left _ (leb D T) q1 in
      record {
        some = leb-true 1 C (and_left _ (leb C D) q2);
        fits = leb-true C D (and_right (leb 1 C) (leb C D) q2);
        within = leb-true D T (and_right (leb 1 C && leb C D) (leb D T) q1);
        small = leb-true T max_period (and_right (leb 1 C && leb C D && leb D T) (leb T max_period) q);
      }

  -- a task that passes has no place either
  pub task_none : (task_fault ts i).number ≡ 0 → task_fault ts i ≡ no_fault
  unfolding task_fault
  task_none e = unless_none (task_stands (period ts i) (execution ts i) (deadline ts i)) 6 (suc i) (omega arith) e

pub tasks_clear : (ts : List ℕ) → (tasks_fault ts).number ≡ 0
    → (i : ℕ) → i < task_count ts → Good (period ts i) (execution ts i) (deadline ts i)
tasks_clear ts e i h = task_clear ts i (first_of_clear (task_fault ts) (task_count ts) e i h)

-- a table that stands: it passes 5 and 6
pub record Sound (ts : List ℕ) : Type 0 where
  pub few : task_count ts ≤ max_tasks
  pub good : (i : ℕ) → i < task_count ts → Good (period ts i) (execution ts i) (deadline ts i)

pub sound_table : (ts : List ℕ) → (table_fault ts).number ≡ 0 → (tasks_fault ts).number ≡ 0 → Sound ts
sound_table ts e f = record { few = (table_clear ts e).few; good = tasks_clear ts f }

-- ---- 7: the end
pub end_clear : (e : ℕ) → (end_fault e).number ≡ 0 → e ≤ max_end
unfolding end_fault
end_clear e h = leb-true e max_end (unless_clear _ 7 0 (omega arith) h)

-- ---- 12: the number of releases
pub record Releases (rs : List ℕ) : Type 0 where
  pub twos : length rs ≡ release_count rs * release_width
  pub few : release_count rs ≤ max_releases

pub trace_clear : (rs : List ℕ) → (trace_fault rs).number ≡ 0 → Releases rs
unfolding trace_fault
trace_clear rs e =
    let n = release_count rs in
    let q : (eqb (length rs % release_width) 0 && leb n max_releases) ≡ true = unless_clear _ 12 0 (omega arith) e in
    record {
      twos = omega (arith, eqb-true (length rs % release_width) 0 (and_left _ (leb n max_releases) q));
      few = leb-true n max_releases (and_right (eqb (length rs % release_width) 0) (leb n max_releases) q);
    }

-- ---- 8, 11, 9, 10: each release
pub record Released (ts : List ℕ) (e : ℕ) (rs : List ℕ) (j : ℕ) : Type 0 where
  pub some : 1 ≤ name_of rs j
  pub known : name_of rs j ≤ task_count ts
  pub soon : time_of rs j < e
  pub order : in_order rs j ≡ true
  pub since : apart (last_before rs j (name_of rs j)) (period ts (name_of rs j - 1)) (time_of rs j) ≡ true

-- 8, wherever a name is tested
pub named_clear : (ts : List ℕ) (name : ℕ) → named ts name ≡ true → (1 ≤ name) × (name ≤ task_count ts)
named_clear ts name q = (leb-true 1 name (and_left (leb 1 name) _ q), leb-true name (task_count ts) (and_right (leb 1 name) _ q))

module _ (ts : List ℕ) (e : ℕ) (rs : List ℕ) (j : ℕ) where
  pub release_clear : (release_fault ts e rs j).number ≡ 0 → Released ts e rs j
  unfolding release_fault
  release_clear h =
      let w = row_clear (release_tests ts e rs j) h in
      let n = named_clear ts (name_of rs j) (unless_clear (named ts (name_of rs j)) 8 (suc j) (omega arith) w.0) in
      record {
        some = n.0;
        known = n.1;
        soon = ltb-true _ e (unless_clear (ltb (time_of rs j) e) 11 (suc j) (omega arith) w.1.0);
        order = unless_clear (in_order rs j) 9 (suc j) (omega arith) w.1.1.0;
        since = unless_clear _ 10 (suc j) (omega arith) w.1.1.1.0;
      }

  -- a release that passes has no place either
  pub release_none : (release_fault ts e rs j).number ≡ 0 → release_fault ts e rs j ≡ no_fault
  unfolding release_fault
  release_none h = let tests = release_tests ts e rs j in row_none tests (row_clear tests h)

pub releases_clear : (ts : List ℕ) (e : ℕ) (rs : List ℕ) → (releases_fault ts e rs).number ≡ 0
    → (j : ℕ) → j < release_count rs → Released ts e rs j
releases_clear ts e rs h j l = release_clear ts e rs j (first_of_clear (release_fault ts e rs) (release_count rs) h j l)

-- ---- 16: each task has a release, both ways
-- a release of the task at i
pub record Appears (rs : List ℕ) (i : ℕ) : Type 0 where
  pub release : ℕ
  pub of_trace : release < release_count rs
  pub of_task : name_of rs release ≡ suc i

module _ (rs : List ℕ) (i : ℕ) where
  pub absent_clear : (absent_fault rs i).number ≡ 0 → Appears rs i
  unfolding absent_fault
  absent_clear e =
      let some = leb-true 1 (releases_of rs i) (unless_clear _ 16 (suc i) (omega arith) e) in
      let r = count_some (λ j. eqb (name_of rs j) (suc i)) 0 (release_count rs) some in
      record { release = r.0; of_trace = omega (arith, r.1.1); of_task = eqb-true _ _ r.1.2 }

  pub absent_none : Appears rs i → absent_fault rs i ≡ no_fault
  unfolding absent_fault
  absent_none a =
      let named_here = eq-eqb (name_of rs a.release) (suc i) a.of_task in
      let some = count_there (λ j. eqb (name_of rs j) (suc i)) 0 (release_count rs) a.release (omega arith)
      (omega (arith, a.of_trace)) named_here in
      rw (le-leb 1 (releases_of rs i) some)

  -- a task that no release names
  pub absent_found : (Appears rs i → ⊥) → absent_fault rs i ≡ fault_of 16 (suc i)
  unfolding absent_fault
  absent_found h =
      let none = count_none (λ j. eqb (name_of rs j) (suc i)) 0 (release_count rs) (λ j x y.
      ne_eqb (name_of rs j) (suc i) (λ q. h (record { release = j; of_trace = omega arith; of_task = q }))) in
      rw none refl

pub absences_clear : (ts rs : List ℕ) → (absences_fault ts rs).number ≡ 0 → (i : ℕ) → i < task_count ts → Appears rs i
absences_clear ts rs e i h = absent_clear rs i (first_of_clear (absent_fault rs) (task_count ts) e i h)

-- ---- 13: the room, both ways
pub room_clear : (need room : ℕ) → (room_fault need room).number ≡ 0 → need ≤ room
unfolding room_fault
room_clear need room e = leb-true need room (unless_clear _ 13 0 (omega arith) e)

pub room_none : (need room : ℕ) → need ≤ room → room_fault need room ≡ no_fault
unfolding room_fault
room_none need room h = rw (le-leb need room h)

-- ---- 15: the named slot
pub slot_clear : (e s : ℕ) → (slot_fault e s).number ≡ 0 → s < e
unfolding slot_fault
slot_clear e s h = ltb-true s e (unless_clear _ 15 0 (omega arith) h)
