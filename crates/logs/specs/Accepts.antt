-- Request P2's promises, said of logs as bytes: our own log is accepted; for an accepted EDF-CF log parts 1 and 2 of demand 3 hold; an
-- accepted log that takes the lower task on every tie is our own but for its returns.
use Rattle.std.specs.Prelude.{◌≡◌, true, List, ℕ, ◌≤◌, ◌<◌}
use Rattle.std.proofs.Common.{sym, ap, ◌∙◌, arith}
use Rattle.rules.specs.Limits.{max_tasks}
use Rattle.rules.specs.Words.{count_in}
use Rattle.rules.specs.Text.{without_returns}
use Rattle.rules.specs.Writer.{joined_text}
use Rattle.rules.specs.Case.{Case, deadline, time_of}
use Rattle.rules.specs.Counts.{free_count}
use Rattle.rules.specs.Policies.{demoting}
use Rattle.rules.specs.Refusals.{Accepted}
use Rattle.rules.specs.Slot.{TaskSet, opened, ran}
use Rattle.rules.specs.Replay.{setup_in, released_at, state_at, ran_at}
use Rattle.rules.specs.Log.{opened_by, log_lines, sets_of, LogAccepted, slot_line_text, log_text, own_log}
use Rattle.rules.specs.Slot.{tasks_in}
use Rattle.lists.specs.Lists.{tab_cong, tasks_same}
use Rattle.bridge.specs.Course.{Course, contention_free_in, finish_in, demotion_in}
use Rattle.bridge.specs.Records.{task_at}
use Rattle.theory.specs.Demand3.{due_at, Judged}
use Rattle.logs.specs.Follow.{course_of, opened-same, own_opened}
use Rattle.logs.specs.LogDemand.{follows_free_slots, follows_demoted_meets}
use Rattle.logs.specs.LowerFirst.{LowerTaskFirst, chosen-lower, lower_own}
use Rattle.logs.specs.Clear.{accepted_lined}
use Rattle.logs.specs.Exact.{text_sets, accepted_follows, accepted_bytes}

-- the course of a log: its slots work the sets that the log names
abbrev pub log_course : Case → List ℕ → Course
log_course c s = course_of c (sets_of (log_lines s))

-- 1. of an accepted log, under EDF or EDF-CF: of the slots from a job's release to its deadline, at least its task's free count are
-- contention-free in the log
pub log_free_slots : (c : Case) (s : List ℕ) → LogAccepted c s → (j : ℕ) → Judged c j
    → free_count c.procs c.table (task_at c j) ≤ count_in (contention_free_in (log_course c s)) (time_of c.trace j)
    (deadline c.table (task_at c j))
log_free_slots c s e j h = follows_free_slots c (accepted_lined c s e).0 (sets_of (log_lines s)) j h

-- 2. of an accepted EDF-CF log: a job that is demoted in it finishes in it, after its release and not after its deadline
pub log_demoted_meets : (c : Case) (s : List ℕ) → LogAccepted c s → demoting c.policy ≡ true → (j : ℕ) → Judged c j
    → 0 < demotion_in (log_course c s) (task_at c j) (time_of c.trace j)
    → (time_of c.trace j < finish_in (log_course c s) (task_at c j) (time_of c.trace j))
    × (finish_in (log_course c s) (task_at c j) (time_of c.trace j) ≤ due_at c j)
log_demoted_meets c s e cf j h d =
    follows_demoted_meets c (accepted_lined c s e).0 cf (sets_of (log_lines s)) (accepted_follows c s e) j h d

-- the log takes the lower task on every tie of kind and deadline
abbrev pub LowerOnTies : Case → List ℕ → Type 0
LowerOnTies c s = (t : ℕ) → t < c.end → LowerTaskFirst (setup_in c) t (opened_by c (sets_of (log_lines s)) t) (sets_of (log_lines s) t)

text_same : (a b : ℕ → TaskSet) (e : ℕ) → ((t i : ℕ) → t < e → i < max_tasks → a t i ≡ b t i) → log_text a e
    ≡ log_text b e
unfolding log_text
text_same a b e same =
    ap joined_text (tab_cong (λ t. slot_line_text t (tasks_in (a t))) (λ t. slot_line_text t (tasks_in (b t))) 0 e
    (λ t x y. ap (slot_line_text t) (tasks_same (a t) (b t) (λ i h. same t i (omega arith) h))))

own_lower : (c : Case) (t : ℕ) → LowerTaskFirst (setup_in c) t (opened (setup_in c) t (released_at c t) (state_at c t)) (ran_at c t)
unfolding ran_at ran
own_lower c t = chosen-lower (setup_in c) t (opened (setup_in c) t (released_at c t) (state_at c t))

-- an accepted log that takes the lower task on every tie names the sets of our own replay
pub lower_sets_own : (c : Case) (s : List ℕ) → LogAccepted c s → LowerOnTies c s → (t i : ℕ) → t < c.end → i < max_tasks
    → sets_of (log_lines s) t i ≡ ran_at c t i
lower_sets_own c s e low t i h l = lower_own c (sets_of (log_lines s)) c.end (accepted_follows c s e) low t i h l

-- and without its returns it is our own log, byte for byte
pub lower_log_own : (c : Case) (s : List ℕ) → LogAccepted c s → LowerOnTies c s → without_returns s ≡ own_log c
unfolding own_log
lower_log_own c s e low = accepted_bytes c s e ∙ text_same (sets_of (log_lines s)) (ran_at c) c.end (lower_sets_own c s e low)

-- our own log takes the lower task on every tie: so it is the one accepted log that does, returns apart
pub own_log-lower : (c : Case) → Accepted c → LowerOnTies c (own_log c)
unfolding own_log
own_log-lower c ok t h j i l k p w e same due =
    let sets = sets_of (log_lines (log_text (ran_at c) c.end)) in
    let z : opened_by c sets t ≡ opened (setup_in c) t (released_at c t) (state_at c t) =
    opened-same c sets (ran_at c) t (λ u n x y. text_sets c (ran_at c) ok u n (omega arith) y) ∙ own_opened c t
    in
    own_lower c t j i l k (rw z at p) (sym (text_sets c (ran_at c) ok t j h l) ∙ w) (sym (text_sets c (ran_at c) ok t i h k) ∙ e)
    (rw z at same) (rw z at due)
