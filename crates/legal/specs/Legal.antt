-- What an accepted case gives (document 01, "Refusals by number"): from `case_fault`, which finds nothing, each test as a fact, and the
-- order and separation of any two releases. `legal` is how every theorem about accepted cases, and the replay, comes by these facts;
-- what it is to pass one test is said in Passing.
use Rattle.std.specs.Prelude.{◌≡◌, Bool, ◌&&◌, ◌⊎◌, List, [], ◌∷◌, length, ltb}
use Rattle.std.proofs.Math.Path.{refl}
use Rattle.std.proofs.Common.{ap, sym, ◌∙◌, inl, inr, eq-or-lt_of_le, eqb-true, leb-true, ltb-true}
use Rattle.std.proofs.Math.Bool.{true, false}
use Prim.Native.Nat.{ℕ, zero, suc, ◌+◌, ◌*◌, ◌-◌, ◌≤◌, ◌<◌}
use native.Mathlib.Omega.{arith}
use Rattle.std.proofs.Math.Dec.{eqb}
use Rattle.std.proofs.lemmas.Bool.{eqb-false}
use Rattle.rules.specs.Words.{pick}
use Rattle.rules.specs.Case.{Case, task_count, period, execution, deadline, release_count, time_of, name_of}
use Rattle.rules.specs.Policies.{max_policy}
use Rattle.rules.specs.Refusals.{procs_fault, policy_fault, table_fault, tasks_fault, end_fault, trace_fault, last_before, later_than}
use Rattle.rules.specs.Refusals.{in_order}
use Rattle.rules.specs.Refusals.{apart, releases_fault, absences_fault, room_fault, slot_fault, case_tests, case_fault, counts_tests}
use Rattle.rules.specs.Refusals.{counts_fault}
use Rattle.rules.specs.Refusals.{replay_fault, running_fault, Accepted}
use Rattle.rules.specs.Limits.{max_procs, max_tasks, max_end, max_releases, task_width, release_width, record_width}
use Rattle.lists.specs.Tests.{and_left, or_cases}
use Rattle.legal.specs.Firsts.{row_clear}
use Rattle.legal.specs.Passing.{Procs, Sound, sound_table, procs_clear, policy_clear, table_clear, tasks_clear, end_clear}
use Rattle.legal.specs.Passing.{trace_clear, Released, releases_clear, Appears, absences_clear, room_clear, slot_clear}
pub use Rattle.legal.specs.Firsts.{unless_clear, next_clear}
pub use Rattle.legal.specs.Passing.{Good}

-- ---- the order of any two releases, from that of neighbours
later_le : (t₀ n₀ t n : ℕ) → later_than t₀ n₀ t n ≡ true → t₀ ≤ t
later_le t₀ n₀ t n e = go (or_cases (ltb t₀ t) _ e)
  where
    go : (ltb t₀ t ≡ true) ⊎ ((eqb t₀ t && ltb n₀ n) ≡ true) → t₀ ≤ t
    go (inl q) = omega (arith, ltb-true t₀ t q)
    go (inr q) = omega (arith, eqb-true t₀ t (and_left (eqb t₀ t) _ q))

module _ (rs : List ℕ) (n : ℕ) (order : (j : ℕ) → j < n → in_order rs j ≡ true) where
  sorted_by : (d j : ℕ) → j + d < n → time_of rs j ≤ time_of rs (j + d)
  unfolding in_order
  sorted_by zero j h = let z : j + 0 ≡ j = omega arith in rw z (omega arith)
  sorted_by (suc d) j h =
      let z : j + suc d ≡ suc (j + d) = omega arith in
      rw z (omega (
        arith,
        sorted_by d j (omega arith),
        later_le (time_of rs (j + d)) (name_of rs (j + d)) (time_of rs (suc (j + d)))
            (name_of rs (suc (j + d))) (order (suc (j + d)) (omega arith)),
      ))

  pub sorted : (j k : ℕ) → j ≤ k → k < n → time_of rs j ≤ time_of rs k
  sorted j k p q =
      let z : j + (k - j) ≡ k = omega arith in
      rw z at (sorted_by (k - j) j (omega arith))

  -- the last release of the name is at least as late as any earlier one
  last_late : (k j name : ℕ) → j < k → k ≤ n → name_of rs j ≡ name → time_of rs j < last_before rs k name
  unfolding last_before
  last_late zero j name h p e = absurd (omega arith)
  last_late (suc k) j name h p e = go (λ x. last_late k j name x (omega arith) e)
      (eqb (name_of rs k) name) refl (eq-or-lt_of_le {n = j} {m = k} (omega arith))
    where
      go : (j < k → time_of rs j < last_before rs k name) → (b : Bool) → eqb (name_of rs k) name ≡ b → (j ≡ k) ⊎ (j < k)
          → time_of rs j < pick b (suc (time_of rs k)) (last_before rs k name)
      go ih true q x = omega (arith, sorted j k (omega arith) (omega arith))
      go ih false q (inl x) = absurd (eqb-false _ _ q (ap (name_of rs) (sym x) ∙ e))
      go ih false q (inr x) = ih x

apart_le : (u T t x : ℕ) → apart u T t ≡ true → x < u → x + T ≤ t
apart_le zero T t x e h = absurd (omega arith)
apart_le (suc u) T t x e h = omega (arith, leb-true (u + T) t e)

-- ---- an accepted case
pub record Legal (c : Case) : Type 0 where
  pub procs_some : 1 ≤ c.procs
  pub procs_few : c.procs ≤ max_procs
  pub policy_known : c.policy ≤ max_policy
  pub threes : length c.table ≡ task_count c.table * task_width
  pub tasks_some : 1 ≤ task_count c.table
  pub tasks_few : task_count c.table ≤ max_tasks
  pub good : (i : ℕ) → i < task_count c.table → Good (period c.table i) (execution c.table i) (deadline c.table i)
  pub end_small : c.end ≤ max_end
  pub twos : length c.trace ≡ release_count c.trace * release_width
  pub releases_few : release_count c.trace ≤ max_releases
  pub named : (j : ℕ) → j < release_count c.trace → (1 ≤ name_of c.trace j) × (name_of c.trace j ≤ task_count c.table)
  pub before_end : (j : ℕ) → j < release_count c.trace → time_of c.trace j < c.end
  pub in_order_lem : (j k : ℕ) → j ≤ k → k < release_count c.trace → time_of c.trace j ≤ time_of c.trace k
  pub separate : (j k : ℕ) → j < k → k < release_count c.trace → name_of c.trace j ≡ name_of c.trace k
      → time_of c.trace j + period c.table (name_of c.trace k - 1) ≤ time_of c.trace k
  pub appear : (i : ℕ) → i < task_count c.table → Appears c.trace i

-- an accepted case passes each test of its row
pub record Passes (c : Case) : Type 0 where
  pub by_procs : (procs_fault c.procs).number ≡ 0
  pub by_policy : (policy_fault c.policy).number ≡ 0
  pub by_table : (table_fault c.table).number ≡ 0
  pub by_tasks : (tasks_fault c.table).number ≡ 0
  pub by_end : (end_fault c.end).number ≡ 0
  pub by_trace : (trace_fault c.trace).number ≡ 0
  pub by_releases : (releases_fault c.table c.end c.trace).number ≡ 0
  pub by_absences : (absences_fault c.table c.trace).number ≡ 0

pub case_passes : (c : Case) → Accepted c → Passes c
unfolding Accepted case_fault
case_passes c ok =
    let w = row_clear (case_tests c) ok in
    record {
      by_procs = w.0;
      by_policy = w.1.0;
      by_table = w.1.1.0;
      by_tasks = w.1.1.1.0;
      by_end = w.1.1.1.1.0;
      by_trace = w.1.1.1.1.1.0;
      by_releases = w.1.1.1.1.1.1.0;
      by_absences = w.1.1.1.1.1.1.1.0;
    }

pub legal : (c : Case) → Accepted c → Legal c
legal c ok =
    let p = case_passes c ok in
    let m = procs_clear c.procs p.by_procs in
    let t = table_clear c.table p.by_table in
    let s = trace_clear c.trace p.by_trace in
    let n = release_count c.trace in
    let r : (j : ℕ) → j < n → Released c.table c.end c.trace j =
    releases_clear c.table c.end c.trace p.by_releases in
    let o : (j : ℕ) → j < n → in_order c.trace j ≡ true = λ j h. (r j h).order in
    record {
      procs_some = m.some;
      procs_few = m.few;
      policy_known = policy_clear c.policy p.by_policy;
      threes = t.threes;
      tasks_some = t.some;
      tasks_few = t.few;
      good = tasks_clear c.table p.by_tasks;
      end_small = end_clear c.end p.by_end;
      twos = s.twos;
      releases_few = s.few;
      named = λ j h. ((r j h).some, (r j h).known);
      before_end = λ j h. (r j h).soon;
      in_order_lem = sorted c.trace n o;
      separate = λ j i h l q. apart_le _ _ _ _ (r i l).since (last_late c.trace n o i j (name_of c.trace i) h (omega arith) q);
      appear = absences_clear c.table c.trace p.by_absences;
    }

-- the processors of an accepted case, and its table
pub accepted_procs : (c : Case) → Accepted c → Procs c.procs
accepted_procs c ok = procs_clear c.procs (case_passes c ok).by_procs

pub accepted_table : (c : Case) → Accepted c → Sound c.table
accepted_table c ok = let p = case_passes c ok in sound_table c.table p.by_table p.by_tasks

-- ---- what the checks of each call give where they find nothing
pub record CountsClear (m : ℕ) (ts : List ℕ) (room : ℕ) : Type 0 where
  pub procs : Procs m
  pub sound : Sound ts
  pub roomy : task_count ts ≤ room

pub counts_clear : (m : ℕ) (ts : List ℕ) (room : ℕ) → (counts_fault m ts room).number ≡ 0 → CountsClear m ts room
unfolding counts_fault
counts_clear m ts room e =
    let w = row_clear (counts_tests m ts room) e in
    record {
      procs = procs_clear m w.0;
      sound = sound_table ts w.1.0 w.1.1.0;
      roomy = room_clear (task_count ts) room w.1.1.1.0;
    }

pub replay_clear : (c : Case) (room : ℕ) → (replay_fault c room).number ≡ 0
    → Accepted c × (release_count c.trace * record_width ≤ room)
unfolding replay_fault Accepted
replay_clear c room e =
    let w = row_clear (case_fault c ∷ room_fault (release_count c.trace * record_width) room ∷ []) e in
    (w.0, room_clear _ room w.1.0)

pub running_clear : (c : Case) (s : ℕ) → (running_fault c s).number ≡ 0 → Accepted c × (s < c.end)
unfolding running_fault Accepted
running_clear c s e =
    let w = row_clear (case_fault c ∷ slot_fault c.end s ∷ []) e in
    (w.0, slot_clear c.end s w.1.0)
