-- The replay of an accepted case is a lawful course, and what its records say is what the course's slots say: so what Enough and Demoted
-- prove of courses holds of the replay (rules, Replay). For Demand3 and Endings.
use Rattle.std.specs.Prelude.{◌≡◌, true, ℕ, suc, ◌+◌, ◌-◌, ◌≤◌, ◌<◌}
use Rattle.std.proofs.Common.{ap, ◌∙◌}
use Rattle.std.proofs.Math.Path.{sym}
use Rattle.std.proofs.Math.Decide.{dec_lt}
use native.Mathlib.Omega.{arith}
use Rattle.rules.specs.declared.Fault.{Fault}
use Rattle.rules.specs.Case.{Case, under, period, deadline, release_count, time_of, name_of}
use Rattle.rules.specs.Refusals.{case_tests, case_fault, Accepted}
use Rattle.rules.specs.Policies.{max_policy, demoting}
use Rattle.rules.specs.Slot.{job_at, is_demoted}
use Rattle.rules.specs.Replay.{released_at, state_at, slots_by, finish_by, demotion_by}
use Rattle.lists.specs.Tests.{never_true}
use Rattle.bridge.specs.Course.{Course, finish_in, demotion_in}
use Rattle.bridge.specs.Stands.{replay_of, replay_state, replay_finished, replay_demoted}
use Rattle.legal.specs.Legal.{Legal}
use Rattle.legal.specs.Passing.{policy_none}
use Rattle.legal.specs.Firsts.{row_clear, row_none}
use Rattle.bridge.specs.Jobs.{Stand}
use Rattle.bridge.specs.Records.{released_some, released_named, task_at, sole}
use Rattle.theory.specs.Counting.{first_cong}
use Rattle.theory.specs.Lawful.{Lawful, replay_attends}
use Rattle.theory.specs.Demoted.{Alone, at_deadline, none_demoted}
use Rattle.theory.specs.Enough.{never_over}

-- ---- in a lawful course a released job is its task's only one up to its deadline
pub alone : (k : Course) → Lawful k → (i a : ℕ) → k.released a i ≡ true → Alone k i a
alone k g i a r =
    let h = g.named a i r in
    let m = g.good i h in
    record {
      sole = record { task = omega (arith, g.tasks_few); released = r; alone = λ u p q. never_true (k.released u i) (apart u p q) };
      some = m.some;
      lasts = omega (arith, m.some, m.fits);
    }
  where
    apart : (u : ℕ) → a < u → u < a + deadline k.setup.table i → k.released u i ≡ true → ⊥
    apart u p q e = omega (arith, g.separate i a u r e p, (g.good i (g.named a i r)).within)

module _ (c : Case) (g : Legal c) where
  separate : (i u v : ℕ) → released_at c u i ≡ true → released_at c v i ≡ true → u < v → u + period c.table i ≤ v
  separate i u v p q h =
      let x = released_some c.trace (release_count c.trace) u i p in
      let y = released_some c.trace (release_count c.trace) v i q in
      go x.0 y.0 x.1 y.1 (dec_lt x.0 y.0)
    where
      go : (j k : ℕ) → (j < release_count c.trace) × (time_of c.trace j ≡ u) × (name_of c.trace j ≡ suc i)
          → (k < release_count c.trace) × (time_of c.trace k ≡ v) × (name_of c.trace k ≡ suc i)
          → Dec (j < k) → u + period c.table i ≤ v
      go j k x y (yes l) =
          let z : name_of c.trace k - 1 ≡ i = omega (arith, y.2) in
          omega (arith, g.separate j k l y.0 (x.2 ∙ sym y.2), x.1, y.1, ap (period c.table) z)
      go j k x y (no l) = absurd (omega (arith, g.in_order_lem k j (omega arith) x.0, x.1, y.1))

  pub lawful : Lawful (replay_of c)
  lawful = record {
    tasks_few = g.tasks_few;
    good = g.good;
    named = released_named c g;
    separate = separate;
  }

  -- release j of the trace
  pub alone_at : (j : ℕ) → j < release_count c.trace → Alone (replay_of c) (task_at c j) (time_of c.trace j)
  alone_at j h = alone (replay_of c) lawful (task_at c j) (time_of c.trace j) (sole c g j h).released

-- ---- an accepted case is accepted under every policy
pub accepted_under : (c : Case) → Accepted c → (p : ℕ) → p ≤ max_policy → Accepted (under p c)
unfolding Accepted case_fault
accepted_under c ok p h =
    let w = row_clear (case_tests c) ok in
    ap (λ (f : Fault). f.number) (row_none (case_tests (under p c)) (w.0, (ap (λ (f : Fault). f.number) (policy_none p h), w.1.1)))

-- ---- finish and demotion of a record are those of the course, once the deadline has come
module _ (c : Case) (i a e : ℕ) (come : a + deadline c.table i ≤ e) where
  all_slots : slots_by c i a e ≡ deadline c.table i
  unfolding slots_by
  all_slots = omega arith

  pub finish_same : finish_by c i a e ≡ finish_in (replay_of c) i a
  unfolding finish_by finish_in
  finish_same = rw all_slots (first_cong _ _ a (deadline c.table i) (λ t x y. sym (replay_finished c t i)))

  pub demotion_same : demotion_by c i a e ≡ demotion_in (replay_of c) i a
  unfolding demotion_by demotion_in
  demotion_same = rw all_slots (first_cong _ _ a (deadline c.table i) (λ t x y. sym (replay_demoted c t i)))

-- ---- how the job of release j stands at its deadline, before step 1
module _ (c : Case) (g : Legal c) (j : ℕ) (h : j < release_count c.trace) (e : ℕ)
    (come : time_of c.trace j + deadline c.table (task_at c j) ≤ e) where
  abbrev i : ℕ
  i = task_at c j

  abbrev a : ℕ
  a = time_of c.trace j

  pub stand_due : Stand (finish_by c i a e) (demotion_by c i a e)
      (a + deadline c.table i) (job_at (state_at c (a + deadline c.table i)) i)
  stand_due =
      rw (finish_same c i a e come, demotion_same c i a e come, ← (replay_state c (a + deadline c.table i)))
      (at_deadline (replay_of c) i a (alone_at c g j h))

  -- under a policy that demotes it is not there as a demoted one
  pub none_demoted_due : demoting c.policy ≡ true → is_demoted (job_at (state_at c (a + deadline c.table i)) i) ≡ true → ⊥
  none_demoted_due cf =
      rw (← (replay_state c (a + deadline c.table i)))
      (none_demoted (replay_of c) i a (alone_at c g j h) cf e (replay_attends c e) come (never_over (replay_of c) (lawful c g) i a))
