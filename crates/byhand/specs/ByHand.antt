-- The entries of document 01, "Worked by hand", that are marked P: one list, `by_hand`, of what the definitions give and what the paper
-- says, and one claim over it, `all_stand`, that antt computes. What the calls answer is asked as a caller asks it, refusals and lent rooms
-- included, so a test that refused one of these cases would break the claim. The entries that are not marked are run through the built
-- calls and the program.
use Rattle.std.specs.Prelude.{◌≡◌, refl, length, drop, List, [], ◌∷◌, ◌++◌, map, ℕ, ◌*◌}
use Rattle.std.proofs.Common.{ap₂, ◌∙◌}
use Rattle.rules.specs.Limits.{record_width}
use Rattle.rules.specs.Case.{Case, case_of, execution, release_count}
use Rattle.rules.specs.Policies.{edf, edf_cf}
use Rattle.rules.specs.Words.{sum, first_in, tab, map_from}
use Rattle.rules.specs.Counts.{availability, availabilities, count, free_count}
use Rattle.rules.specs.Slot.{present, judged, joined, demoted, jobs_now, contention_free, lowered, opened, job_before, rank, chosen, worked}
use Rattle.rules.specs.Slot.{after, ran, finished, missed, demoted_now, set_number}
use Rattle.rules.specs.Replay.{released_in, state_from, state_at, ran_at, finished_at, demoted_at, slots_by, finish_by, demotion_by}
use Rattle.rules.specs.Replay.{verdict_by}
use Rattle.rules.specs.Replay.{record_by, marked, numbers, Record, record_of, records}
use Rattle.rules.specs.Refusals.{or_next, first_of, procs_fault, policy_fault, table_fault, task_fault, end_fault, trace_fault, in_order}
use Rattle.rules.specs.Refusals.{last_before}
use Rattle.rules.specs.Refusals.{release_fault, absent_fault, room_fault, slot_fault, case_fault, counts_fault, replay_fault, running_fault}
use Rattle.rules.specs.Answers.{Answer, result, settled, kept}
use Rattle.rules.specs.Calls.{counts_answer, counts_room, room_after, replay_answer, replay_room, running_answer}

-- an answer, and what the lent room then holds
pub record Outcome : Type 0 where
  pub answer : Answer
  pub room : List ℕ

abbrev pub outcome : Answer → List ℕ → Outcome
outcome a xs = record { answer = a; room = xs }

-- an entry: what the definitions give, and what the paper says
pub record Entry : Type 0 where
  pub given : Outcome
  pub said : Outcome

abbrev pub entry : Outcome → Outcome → Entry
entry x y = record { given = x; said = y }

-- ---- what is asked
-- numbers that no call answers
abbrev pub plain : List ℕ → Outcome
plain xs = outcome (result xs) []

-- the room that a call is lent holds these numbers; two are more than any case here needs
abbrev pub behind : List ℕ
behind = 77 ∷ 78 ∷ []

abbrev pub room_of : List ℕ → List ℕ
room_of xs = xs ++ behind

abbrev pub counting : ℕ → List ℕ → List ℕ → Outcome
counting m ts room = outcome (counts_answer m ts (room_of room)) (counts_room m ts (room_of room))

abbrev pub replaying : Case → List ℕ → Outcome
replaying c room = outcome (replay_answer c (room_of room)) (replay_room c (room_of room))

abbrev pub asking : Case → ℕ → Outcome
asking c slot = outcome (running_answer c slot) []

-- the values of an answer and the numbers in front of its room, those behind them as they were
abbrev pub leaving : List ℕ → List ℕ → Outcome
leaving values front = outcome (result values) (room_of front)

-- ---- the cases
abbrev pub table_a : List ℕ
table_a = 10 ∷ 1 ∷ 4 ∷ 10 ∷ 1 ∷ 1 ∷ 10 ∷ 5 ∷ 5 ∷ []

abbrev pub three_at_0 : List ℕ
three_at_0 = 0 ∷ 1 ∷ 0 ∷ 2 ∷ 0 ∷ 3 ∷ []

abbrev pub set_a : ℕ → Case
set_a policy = case_of 2 policy table_a 10 three_at_0

abbrev pub table_b : List ℕ
table_b = 15 ∷ 5 ∷ 9 ∷ 15 ∷ 5 ∷ 9 ∷ 15 ∷ 6 ∷ 10 ∷ []

abbrev pub set_b : ℕ → ℕ → Case
set_b policy end = case_of 2 policy table_b end three_at_0

abbrev pub one : Case
one = case_of 1 edf_cf (5 ∷ 1 ∷ 5 ∷ []) 5 (0 ∷ 1 ∷ [])

abbrev pub two : ℕ → Case
two policy = case_of 1 policy (4 ∷ 2 ∷ 4 ∷ 4 ∷ 2 ∷ 4 ∷ []) 4 (0 ∷ 1 ∷ 0 ∷ 2 ∷ [])

-- rooms for the records of three releases, two and one, full of other numbers
abbrev pub six : List ℕ
six = 9 ∷ 9 ∷ 9 ∷ 9 ∷ 9 ∷ 9 ∷ []

abbrev pub nine : List ℕ
nine = 9 ∷ 9 ∷ 9 ∷ six

-- ---- the list
-- availability for T 10, D 4 at l = 0, 1, 4, 9, 10, 11, 14, 20
abbrev pub availability_10_4 : Entry
availability_10_4 = entry (plain (map (availability 10 4) (0 ∷ 1 ∷ 4 ∷ 9 ∷ 10 ∷ 11 ∷ 14 ∷ 20 ∷ [])))
    (plain (0 ∷ 1 ∷ 4 ∷ 4 ∷ 4 ∷ 5 ∷ 8 ∷ 8 ∷ []))

-- set A, m = 2: free counts; the sets of slot 0 under EDF and EDF-CF; under EDF task 3 missed, totals 2, 1, 0
abbrev pub counts_A : Entry
counts_A = entry (counting 2 table_a (9 ∷ 9 ∷ 9 ∷ [])) (leaving (3 ∷ []) (1 ∷ 0 ∷ 2 ∷ []))

abbrev pub slot_0_A_edf : Entry
slot_0_A_edf = entry (asking (set_a edf) 0) (plain (3 ∷ []))

abbrev pub slot_0_A_edf_cf : Entry
slot_0_A_edf_cf = entry (asking (set_a edf_cf) 0) (plain (6 ∷ []))

abbrev pub A_edf : Entry
A_edf = entry (replaying (set_a edf) nine) (leaving (2 ∷ 1 ∷ 0 ∷ []) (1 ∷ 1 ∷ 0 ∷ 1 ∷ 1 ∷ 0 ∷ 2 ∷ 0 ∷ 0 ∷ []))

-- the printed case, set A under EDF-CF
abbrev pub A_edf_cf : Entry
A_edf_cf = entry (replaying (set_a edf_cf) nine) (leaving (3 ∷ 0 ∷ 0 ∷ []) (1 ∷ 2 ∷ 1 ∷ 1 ∷ 1 ∷ 0 ∷ 1 ∷ 5 ∷ 0 ∷ []))

-- set B, m = 2: free counts; with end 10 both policies miss task 3
abbrev pub counts_B : Entry
counts_B = entry (counting 2 table_b (9 ∷ 9 ∷ 9 ∷ [])) (leaving (3 ∷ []) (0 ∷ 0 ∷ 1 ∷ []))

abbrev pub B_10 : ℕ → Entry
B_10 policy = entry (replaying (set_b policy 10) nine)
    (leaving (2 ∷ 1 ∷ 0 ∷ []) (1 ∷ 5 ∷ 0 ∷ 1 ∷ 5 ∷ 0 ∷ 2 ∷ 0 ∷ 0 ∷ []))

-- with end 9 task 3 is open, totals 2, 0, 1
abbrev pub B_9 : ℕ → Entry
B_9 policy = entry (replaying (set_b policy 9) nine)
    (leaving (2 ∷ 0 ∷ 1 ∷ []) (1 ∷ 5 ∷ 0 ∷ 1 ∷ 5 ∷ 0 ∷ 3 ∷ 0 ∷ 0 ∷ []))

-- one task (5,1,5), m = 1: free count 3, execution 1; it is demoted at 0 and finishes at 1
abbrev pub counts_one : Entry
counts_one = entry (counting 1 one.table (9 ∷ [])) (leaving (1 ∷ []) (3 ∷ []))

abbrev pub execution-one : Entry
execution-one = entry (plain (execution one.table 0 ∷ [])) (plain (1 ∷ []))

abbrev pub one_task : Entry
one_task = entry (replaying one (9 ∷ 9 ∷ 9 ∷ [])) (leaving (1 ∷ 0 ∷ 0 ∷ []) (1 ∷ 1 ∷ 1 ∷ []))

-- two tasks (4,2,4), m = 1, end 4, under either policy: finishes 2 and 4; the deadline equal to the end is judged
abbrev pub two_tasks : ℕ → Entry
two_tasks policy = entry (replaying (two policy) six) (leaving (2 ∷ 0 ∷ 0 ∷ []) (1 ∷ 2 ∷ 0 ∷ 1 ∷ 4 ∷ 0 ∷ []))

abbrev pub by_hand : List Entry
by_hand =
    availability_10_4 ∷
    counts_A ∷ slot_0_A_edf ∷ slot_0_A_edf_cf ∷ A_edf ∷ A_edf_cf ∷
    counts_B ∷ B_10 edf ∷ B_10 edf_cf ∷ B_9 edf ∷ B_9 edf_cf ∷
    counts_one ∷ execution-one ∷ one_task ∷
    two_tasks edf ∷ two_tasks edf_cf ∷ []

-- ---- each entry, computed
abbrev Stands : Entry → Type 0
Stands e = e.given ≡ e.said

-- what the replay answers, its records being known: so that they are computed once a case
answered : (c : Case) (rs : List Record) (room : List ℕ) → records c ≡ rs
    → replaying c room ≡ outcome
    (settled (replay_fault c (length (room_of room))) (marked 1 rs ∷ marked 2 rs ∷ marked 3 rs ∷ []))
    (kept (replay_fault c (length (room_of room))) (numbers rs ++ drop (release_count c.trace * record_width) (room_of room)) (room_of
    room))
unfolding replay_answer replay_room room_after
answered c rs room e = rw (← e) refl

-- the entries without a replay
asked :
    Stands availability_10_4 ×
    Stands counts_A × Stands slot_0_A_edf × Stands slot_0_A_edf_cf ×
    Stands counts_B × Stands counts_one × Stands execution-one
unfolding sum tab map_from availability availabilities count free_count
    present judged joined demoted jobs_now contention_free lowered opened job_before rank chosen worked after ran set_number
    released_in state_from state_at ran_at
    or_next first_of procs_fault policy_fault table_fault task_fault end_fault trace_fault in_order last_before release_fault absent_fault
    room_fault slot_fault case_fault counts_fault running_fault settled kept counts_answer counts_room running_answer
asked = (refl, refl, refl, refl, refl, refl, refl)

-- the records of the cases that are replayed
known :
    (records (set_a edf) ≡ record_of 1 1 0 ∷ record_of 1 1 0 ∷ record_of 2 0 0 ∷ []) ×
    (records (set_a edf_cf) ≡ record_of 1 2 1 ∷ record_of 1 1 0 ∷ record_of 1 5 0 ∷ []) ×
    (records (set_b edf 10) ≡ record_of 1 5 0 ∷ record_of 1 5 0 ∷ record_of 2 0 0 ∷ []) ×
    (records (set_b edf_cf 10) ≡ record_of 1 5 0 ∷ record_of 1 5 0 ∷ record_of 2 0 0 ∷ []) ×
    (records (set_b edf 9) ≡ record_of 1 5 0 ∷ record_of 1 5 0 ∷ record_of 3 0 0 ∷ []) ×
    (records (set_b edf_cf 9) ≡ record_of 1 5 0 ∷ record_of 1 5 0 ∷ record_of 3 0 0 ∷ []) ×
    (records one ≡ record_of 1 1 1 ∷ []) ×
    (records (two edf) ≡ record_of 1 2 0 ∷ record_of 1 4 0 ∷ []) ×
    (records (two edf_cf) ≡ record_of 1 2 0 ∷ record_of 1 4 0 ∷ [])
unfolding sum first_in tab map_from availability availabilities count free_count
    present judged joined demoted jobs_now contention_free lowered opened job_before rank chosen worked after ran finished missed
    demoted_now
    released_in state_from state_at ran_at finished_at demoted_at slots_by finish_by demotion_by verdict_by record_by
known = (refl, refl, refl, refl, refl, refl, refl, refl, refl)

-- what the replay answers and leaves
replayed :
    Stands A_edf × Stands A_edf_cf ×
    Stands (B_10 edf) × Stands (B_10 edf_cf) × Stands (B_9 edf) × Stands (B_9 edf_cf) ×
    Stands one_task × Stands (two_tasks edf) × Stands (two_tasks edf_cf)
unfolding sum marked numbers
    or_next first_of procs_fault policy_fault table_fault task_fault end_fault trace_fault in_order last_before release_fault absent_fault
    room_fault
    case_fault replay_fault settled kept
replayed = (
  answered (set_a edf) _ nine known.0 ∙ refl,
  answered (set_a edf_cf) _ nine known.1 ∙ refl,
  answered (set_b edf 10) _ nine known.2 ∙ refl,
  answered (set_b edf_cf 10) _ nine known.3 ∙ refl,
  answered (set_b edf 9) _ nine known.4 ∙ refl,
  answered (set_b edf_cf 9) _ nine known.5 ∙ refl,
  answered one _ (9 ∷ 9 ∷ 9 ∷ []) known.6 ∙ refl,
  answered (two edf) _ six known.7 ∙ refl,
  answered (two edf_cf) _ six known.8 ∙ refl,
)

-- ---- the claim: every entry of the list is as the paper says
also : {x y : Outcome} {xs ys : List Outcome} → x ≡ y → xs ≡ ys → (x ∷ xs) ≡ (y ∷ ys)
also e es = ap₂ ◌∷◌ e es

pub all_stand : map (λ (e : Entry). e.given) by_hand ≡ map (λ (e : Entry). e.said) by_hand
all_stand =
    also asked.0
    (also asked.1 (also asked.2 (also asked.3 (also replayed.0 (also replayed.1
    (also asked.4 (also replayed.2 (also replayed.3 (also replayed.4 (also replayed.5
    (also asked.5 (also asked.6 (also replayed.6
    (also replayed.7 (also replayed.8 refl)))))))))))))))
