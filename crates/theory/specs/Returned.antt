-- Demand 3 said of what the replay call returns: of the numbers in its room, for every answer that keeps its promise (`ReplayPromise` of
-- rules, Calls). Verdict, finish and demotion are read from the room here, and not from the definition of a record.
use Rattle.std.specs.Prelude.{◌≡◌, true, List, ◌++◌, ℕ, ◌+◌, ◌*◌, ◌≤◌, ◌<◌, length, get_or, drop}
use Rattle.std.proofs.Common.{sym, ◌∙◌, arith}
use Rattle.rules.specs.Words.{count_in}
use Rattle.rules.specs.Limits.{record_width}
use Rattle.rules.specs.Case.{Case, under, task_count, deadline, release_count, time_of}
use Rattle.rules.specs.Policies.{edf, demoting}
use Rattle.rules.specs.Slot.{free_count_in}
use Rattle.rules.specs.Refusals.{case_fault, replay_fault, Accepted}
use Rattle.rules.specs.Replay.{setup_in, contention_free_at, record_by, records, numbers}
use Rattle.rules.specs.Answers.{result, replayed_as}
use Rattle.rules.specs.Calls.{room_after, replay_answer, replay_room, ReplayPromise}
use Rattle.legal.specs.Legal.{next_clear}
use Rattle.bridge.specs.Records.{task_at}
use Rattle.bridge.specs.Notes.{held_verdict, held_finish, held_demotion}
use Rattle.legal.specs.Settled.{result_clear, kept_new}
use Rattle.theory.specs.Appear.{accepted_each_appears}
use Rattle.theory.specs.Verdicts.{one_of_three}
use Rattle.theory.specs.Demand3.{due_at, Judged, free_slots, demoted_meets, edf_met_stays_met}
use Rattle.rules.specs.declared.Totals.{Totals}
use Rattle.std.specs.Prelude.{Result}
use Rattle.rules.specs.declared.Fault.{Fault}

-- the three numbers that a room holds for release j
abbrev pub verdict_in : List ℕ → ℕ → ℕ
verdict_in room j = get_or room (j * record_width) 0

abbrev pub finish_in : List ℕ → ℕ → ℕ
finish_in room j = get_or room (j * record_width + 1) 0

abbrev pub demotion_in : List ℕ → ℕ → ℕ
demotion_in room j = get_or room (j * record_width + 2) 0

-- the replay of the case c, lent a room, answered with totals (it refused nothing) and left `later` in the room
pub record Returned (c : Case) (later : List ℕ) : Type 0 where
  pub lent : List ℕ
  pub said : Result Totals Fault
  pub totals : List ℕ
  pub meets : ReplayPromise c lent said later
  pub gave : replayed_as said ≡ result totals

module _ (c : Case) (later : List ℕ) (w : Returned c later) where
  clear : (replay_fault c (length w.lent)).number ≡ 0
  unfolding replay_answer
  clear = result_clear (replay_fault c (length w.lent)) _ w.totals (sym w.meets.answer ∙ w.gave)

  pub accepted : Accepted c
  unfolding replay_fault Accepted
  accepted = (next_clear (case_fault c) _ clear).0

  holds : later ≡ numbers (records c) ++ drop (release_count c.trace * record_width) w.lent
  unfolding replay_room room_after
  holds = w.meets.left ∙ kept_new (replay_fault c (length w.lent)) _ _ clear

  module _ (j : ℕ) (h : j < release_count c.trace) where
    pub verdict_returned : verdict_in later j ≡ (record_by c c.end j).verdict
    verdict_returned = rw holds (held_verdict (record_by c c.end) (release_count c.trace) _ j h)

    pub finish_returned : finish_in later j ≡ (record_by c c.end j).finish
    finish_returned = rw holds (held_finish (record_by c c.end) (release_count c.trace) _ j h)

    pub demotion_returned : demotion_in later j ≡ (record_by c c.end j).demotion
    demotion_returned = rw holds (held_demotion (record_by c c.end) (release_count c.trace) _ j h)

-- each task of the table has a release, and the room says of its job that it is met, missed or open (request P1)
pub returned_every_task : (c : Case) (later : List ℕ) → Returned c later → (i : ℕ) → i < task_count c.table
    → (j : ℕ) × ((j < release_count c.trace) × (task_at c j ≡ i) × (1 ≤ verdict_in later j) × (verdict_in later j ≤ 3))
returned_every_task c later w i h =
    let a = (accepted_each_appears c (accepted c later w)).1 i h in
    let said = verdict_returned c later w a.release a.of_trace in
    let lies = one_of_three c c.end a.release in
    (a.release, (a.of_trace, omega (arith, a.of_task), omega (arith, said, lies.0), omega (arith, said, lies.1)))

-- 1. at least the free count of the slots from release to deadline are contention-free
pub returned_free_slots : (c : Case) (later : List ℕ) → Returned c later → (j : ℕ) → Judged c j
    → free_count_in (setup_in c) (task_at c j) ≤ count_in (contention_free_at c) (time_of c.trace j) (deadline c.table (task_at c j))
returned_free_slots c later w j h = free_slots c (accepted c later w) j h

-- 2. a job that the room says was demoted is said to be met, with a finish not after its deadline
pub returned_demoted_meets : (c : Case) (later : List ℕ) → Returned c later → demoting c.policy ≡ true
    → (j : ℕ) → Judged c j → 0 < demotion_in later j
    → (verdict_in later j ≡ 1) × (time_of c.trace j < finish_in later j) × (finish_in later j ≤ due_at c j)
returned_demoted_meets c later w cf j h d =
    rw (verdict_returned c later w j h.0, finish_returned c later w j h.0)
    (demoted_meets c (accepted c later w) cf j h (rw (demotion_returned c later w j h.0) at d))

-- 3. a job that the replay under EDF says is met, the replay under a policy that demotes says is met
pub returned_edf_met_stays_met : (c : Case) (first later : List ℕ)
    → Returned (under edf c) first → Returned c later → demoting c.policy ≡ true
    → (j : ℕ) → Judged c j → verdict_in first j ≡ 1 → verdict_in later j ≡ 1
returned_edf_met_stays_met c first later v w cf j h e =
    verdict_returned c later w j h.0 ∙
    edf_met_stays_met c (accepted c later w) cf j h (sym (verdict_returned (under edf c) first v j h.0) ∙ e)
