-- A vendor's slot log (request P2): what a line says, when the set that it names keeps the rule of a slot, the state that follows the log,
-- the refusals 17 to 19 line by line, the answer of the log check, and our own log as bytes. Acceptance has no further result.
use Rattle.std.specs.Prelude.{Option, Some, None}
use Rattle.std.specs.Prelude.{ℕ, zero, suc, min, ◌≡◌, Bool, true, false, ◌&&◌, ◌||◌, not, List, [], ◌∷◌, map, eqb, ltb, leb, length, get_or}
use Rattle.rules.specs.Words.{pick, count_in, holds_below, tab}
use Rattle.rules.specs.Limits.{max_tasks}
use Rattle.rules.specs.Case.{Case}
use Rattle.rules.specs.Slot.{Setup, TaskSet, job_at, due_of, present, jobs_now, kind, in_turn, opened, worked, tasks_in}
use Rattle.rules.specs.Replay.{setup_in, released_at, fresh, ran_at}
use Rattle.rules.specs.Refusals.{unless, first, first_of, case_fault}
use Rattle.rules.specs.Answers.{Answer, settled}
use Rattle.rules.specs.Text.{tab_byte, same, has, lines_by, field_of, after_field, number_in, digits_of}
use Rattle.rules.specs.Writer.{joined_text, line_text}
use Rattle.rules.specs.declared.Fault.{Fault}
use Rattle.rules.specs.declared.Job.{Job}
use Rattle.rules.specs.declared.Run.{Run}

-- ---- what a line says
abbrev pub slot_word : List ℕ
slot_word = 115 ∷ 108 ∷ 111 ∷ 116 ∷ []

-- a time and the tasks named, or badly formed
pub data LogLine : Type 0 where
  bad_line : LogLine
  slot_line : ℕ → List ℕ → LogLine

-- the fields of a line, parted by one tab each; a line without a tab is one field
unfoldable pub fields_in : ℕ → List ℕ → List (List ℕ)
fields_in zero s = s ∷ []
fields_in (suc k) s = pick (has tab_byte s) (field_of s ∷ fields_in k (after_field s)) (s ∷ [])

unfoldable pub fields_of : List ℕ → List (List ℕ)
fields_of s = fields_in (length s) s

-- a field that is a number, handed on; a line with one that is not is badly formed
abbrev pub with_value : Option ℕ → (ℕ → LogLine) → LogLine
with_value (Some v) say = say v
with_value None say = bad_line

-- every field a number
unfoldable pub with_numbers : List (List ℕ) → (List ℕ → LogLine) → LogLine
with_numbers [] say = say []
with_numbers (f ∷ fs) say = with_value (number_in f) (λ v. with_numbers fs (λ vs. say (v ∷ vs)))

-- the first number is the time, the others are tasks
abbrev pub time_and_tasks : List ℕ → LogLine
time_and_tasks [] = bad_line
time_and_tasks (t ∷ ns) = slot_line t ns

-- the first field is the word `slot`
abbrev pub slot_fields : List (List ℕ) → LogLine
slot_fields [] = bad_line
slot_fields (w ∷ fs) = pick (same w slot_word) (with_numbers fs time_and_tasks) bad_line

unfoldable pub slot_says : List ℕ → LogLine
slot_says s = slot_fields (fields_of s)

-- the lines of a log
unfoldable pub log_lines : List ℕ → List LogLine
log_lines s = lines_by slot_says bad_line (length s) s

-- the tasks that a line names
abbrev pub tasks_of : LogLine → List ℕ
tasks_of bad_line = []
tasks_of (slot_line t ns) = ns

-- they rise
unfoldable pub rise_past : ℕ → List ℕ → Bool
rise_past n [] = true
rise_past n (k ∷ ks) = ltb n k && rise_past k ks

unfoldable pub rising : List ℕ → Bool
rising [] = true
rising (n ∷ ns) = rise_past n ns

-- a line is well formed as the one with n lines before it
unfoldable pub well_formed : ℕ → LogLine → Bool
well_formed n bad_line = false
well_formed n (slot_line t ns) = eqb t n && rising ns

-- ---- the rule of a slot
-- a job a comes strictly before a job b by kind and then deadline
abbrev pub sooner : ℕ → ℕ → Job → Job → Bool
sooner policy now a b = in_turn (kind policy now a) (kind policy now b) (ltb (due_of a) (due_of b))

-- the job of the task at j is left waiting though it comes strictly before that of the task at i, which runs
abbrev pub wronged : Setup → ℕ → Run → TaskSet → ℕ → ℕ → Bool
wronged g now r runs j i = present r j && not (runs j) && (runs i && sooner g.policy now (job_at r j) (job_at r i))

-- the set runs min(m, N) of the present jobs, and no job left waiting comes strictly before a running one by kind and then deadline
unfoldable pub keeps_rule : Setup → ℕ → Run → TaskSet → Bool
keeps_rule g now r runs =
    eqb (count_in runs 0 max_tasks) (min g.procs (jobs_now r)) &&
    holds_below (λ i. not (runs i) || present r i) max_tasks &&
    holds_below (λ j. holds_below (λ i. not (wronged g now r runs j i)) max_tasks) max_tasks

-- the set of the tasks that a line names
unfoldable pub set_named : List ℕ → TaskSet
set_named [] i = false
set_named (n ∷ ns) i = eqb n (suc i) || set_named ns i

-- every number named is one of a task
unfoldable pub name_tasks : List ℕ → Bool
name_tasks [] = true
name_tasks (n ∷ ns) = leb 1 n && leb n max_tasks && name_tasks ns

unfoldable pub slot_stands : Setup → ℕ → Run → List ℕ → Bool
slot_stands g now r ns = name_tasks ns && keeps_rule g now r (set_named ns)

-- ---- the state follows the sets that are worked: steps 1 to 4 of the replay, then the work of the set
unfoldable pub followed : Setup → (ℕ → TaskSet) → (ℕ → TaskSet) → ℕ → Run
followed g released works zero = fresh
followed g released works (suc t) = worked (works t) (opened g t (released t) (followed g released works t))

abbrev pub opened_by : Case → (ℕ → TaskSet) → ℕ → Run
opened_by c works t = opened (setup_in c) t (released_at c t) (followed (setup_in c) (released_at c) works t)

-- the line with t lines before it, and its set
abbrev pub line_at : List LogLine → ℕ → LogLine
line_at ls t = get_or ls t bad_line

unfoldable pub sets_of : List LogLine → ℕ → TaskSet
sets_of ls t = set_named (tasks_of (line_at ls t))

-- ---- the refusals
-- 17: a line badly formed, tasks that do not rise, or a time that is not the number of lines before it;
-- 18, if that time is before end: a slot that breaks the rule; the place is the line
unfoldable pub line_fault : Case → List LogLine → ℕ → Fault
line_fault c ls n =
    first
    (unless (well_formed n (line_at ls n)) 17 (suc n) ∷
    unless (leb c.end n || slot_stands (setup_in c) n (opened_by c (sets_of ls) n) (tasks_of (line_at ls n))) 18 (suc n) ∷ [])

-- line by line 17 and 18; last 19, a number of lines other than end
unfoldable pub lines_fault_in : Case → List LogLine → Fault
lines_fault_in c ls = first (first_of (line_fault c ls) (length ls) ∷ unless (eqb (length ls) c.end) 19 0 ∷ [])

-- first what the replay refuses, but 13
unfoldable pub log_fault : Case → List ℕ → Fault
log_fault c s = first (case_fault c ∷ lines_fault_in c (log_lines s) ∷ [])

-- ---- the answer: accepted, with no further result
unfoldable pub log_answer : Case → List ℕ → Answer
log_answer c s = settled (log_fault c s) []

unfoldable pub LogAccepted : Case → List ℕ → Type 0
LogAccepted c s = (log_fault c s).number ≡ 0

-- ---- a log as bytes
-- `slot`, the time, then the tasks in rising order, tab parted
unfoldable pub slot_line_text : ℕ → List ℕ → List ℕ
slot_line_text t ns = line_text tab_byte slot_word (map digits_of (t ∷ ns))

-- one line a slot
unfoldable pub log_text : (ℕ → TaskSet) → ℕ → List ℕ
log_text works e = joined_text (tab (λ t. slot_line_text t (tasks_in (works t))) 0 e)

-- our own
unfoldable pub own_log : Case → List ℕ
own_log c = log_text (ran_at c) c.end
