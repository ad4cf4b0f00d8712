-- How a walk over the slots of a case stands before a time; and that a slot with nothing present and nothing released leaves everything so.
use mathlib.Core.Path.{◌≡◌, ap, sym, ◌∙◌}
use mathlib.Core.Bool.{false}
use mathlib.Core.List.{List}
use Prim.Native.Nat.{ℕ, suc, ◌<◌}
use native.Mathlib.Omega.{arith}
use Rattle.rules.specs.declared.Run.{Run}
use Rattle.rules.specs.Words.{tab}
use Rattle.rules.specs.Limits.{max_tasks}
use Rattle.rules.specs.Case.{Case, release_count}
use Rattle.rules.specs.Slot.{job_at, is_present, demoted, readied, jobs_now}
use Rattle.rules.specs.Replay.{setup_in, released_at, state_at, ran_at, record_by}
use Rattle.lists.specs.Lists.{tab_cong}
use Rattle.legal.specs.Legal.{Legal}
use Rattle.bridge.specs.Stands.{state_full, state_next, ready_at, open_at, kept_at, ran-present}
use Rattle.bridge.specs.Records.{task_at}
use Rattle.bridge.specs.Turn.{Reached, turn_idle}
use Rattle.bridge.specs.Quiet.{Jobless, still_after, none_after}
use Rattle.traces.specs.Given.{orderly}
use Rattle.traces.specs.NoneDue.{reached_next, none_now}
use Rattle.slots.specs.Walks.{places, Rests}

-- at time t, before step 1: the state, the releases that have been and their places; where the last slot had no job every task is idle
pub record Walking (c : Case) (t : ℕ) (run : Run) (place : List ℕ) (next jobs : ℕ) : Type 0 where
  pub at_run : run ≡ state_at c t
  pub reached : Reached c.trace next t
  pub at_place : place ≡ places c.trace next
  pub idle : jobs ≡ 0 → Jobless (state_at c t)

-- where N is 0 the slot at t leaves every task idle
pub none_left : (c : Case) (t : ℕ) → jobs_now (demoted (setup_in c) (readied (setup_in c) t (released_at c t) (state_at c t))) ≡ 0
    → Jobless (state_at c (suc t))
none_left c t n i l =
    ap (λ (x : Run). job_at x i) (state_next c t)
    ∙ none_after (setup_in c) t (released_at c t) (state_at c t) (state_full c t) n i l

module _ (c : Case) (g : Legal c) (t : ℕ) (run : Run) (place : List ℕ) (next jobs : ℕ) (v : Walking c t run place next jobs)
    (r : Rests c.trace next jobs t) where
  reached_here : Reached c.trace next (suc t)
  reached_here = reached_next c.trace (orderly c g) next t v.reached r.later

  none_here : (i : ℕ) → i < max_tasks → released_at c t i ≡ false
  none_here i l = none_now c.trace (orderly c g) next t v.reached r.later i

  still_state : state_at c (suc t) ≡ state_at c t
  still_state = state_next c t ∙ still_after (setup_in c) (state_at c t) (state_full c t) (v.idle r.idle) t (released_at c t) none_here

  -- the walk stands as it stood
  pub still_walking : Walking c (suc t) run place next jobs
  still_walking = record {
    at_run = v.at_run ∙ sym still_state;
    reached = reached_here;
    at_place = v.at_place;
    idle = λ e i l. ap (λ (x : Run). job_at x i) still_state ∙ v.idle e i l;
  }

  -- no job is there in the slot
  absent : (i : ℕ) → i < max_tasks → is_present (open_at c t i) ≡ false
  absent i l =
      let n : is_present (ready_at c t i) ≡ false = rw (none_here i l, v.idle r.idle i l) in
      (kept_at c t i).there ∙ n

  -- so none runs
  pub still_ran : tab (λ i. false) 0 max_tasks ≡ tab (ran_at c t) 0 max_tasks
  still_ran = tab_cong (λ i. false) (ran_at c t) 0 max_tasks (λ i p q. sym (ran-present c i (omega arith) t (absent i (omega arith))))

  -- and the records stand as they stood
  pub still_records : (j : ℕ) → j < release_count c.trace → record_by c (suc t) j ≡ record_by c t j
  still_records j h =
      let n = g.named j h in
      let l : task_at c j < max_tasks = omega (arith, g.tasks_few) in
      turn_idle c g t next reached_here (task_at c j) l (absent (task_at c j) l) j h (omega arith)
