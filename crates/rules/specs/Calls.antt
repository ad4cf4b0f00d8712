-- The public calls (document 01, "The product"; requests P2 and P6): what the counts, the replay and the running set answer, and what each
-- lent slice holds at exit, for every input, refusals included (what the reader, the writer, the converter and the log check answer is in
-- Reader, Writer, Convert and Log); and for each of the seven calls its promise as one record: the answer, and every lent slice at exit.
-- The contract in the code, the law that only one answer fits, the round trip and the theorems on returned numbers all cite that record, so
-- a contract that lost a part would have to lose it here.
use Rattle.std.specs.Prelude.{ℕ, ◌*◌, ◌≡◌, List, [], ◌∷◌, ◌++◌, length, drop}
use Rattle.rules.specs.Limits.{record_width}
use Rattle.rules.specs.Case.{Case, task_count, release_count}
use Rattle.rules.specs.Counts.{free_counts}
use Rattle.rules.specs.Replay.{records, numbers, met_jobs, missed_jobs, open_jobs, running_set}
use Rattle.rules.specs.Refusals.{counts_fault, replay_fault, running_fault}
use Rattle.rules.specs.Answers.{Answer, settled, kept, counted_as, replayed_as, running_as, taken_as, written_as, logged_as}
use Rattle.rules.specs.Reader.{read_answer, read_tasks, read_releases}
use Rattle.rules.specs.Writer.{write_answer, write_bytes}
use Rattle.rules.specs.Convert.{convert_answer, convert_bytes}
use Rattle.rules.specs.Log.{log_answer}
use Rattle.rules.specs.declared.Taken.{Taken}
use Rattle.rules.specs.declared.Totals.{Totals}
use Rattle.std.specs.Prelude.{Result}
use Rattle.rules.specs.declared.Fault.{Fault}

-- ---- the counts: the number of tasks, and one number a task; numbers after them stay
unfoldable pub counts_answer : ℕ → List ℕ → List ℕ → Answer
counts_answer m ts room = settled (counts_fault m ts (length room)) (task_count ts ∷ [])

unfoldable pub counts_room : ℕ → List ℕ → List ℕ → List ℕ
counts_room m ts room = kept (counts_fault m ts (length room)) (free_counts m ts ++ drop (task_count ts) room) room

-- ---- the replay: the totals of met, missed and open, and three numbers a release; numbers after the last record stay
unfoldable pub room_after : Case → List ℕ → List ℕ
room_after c room = numbers (records c) ++ drop (release_count c.trace * record_width) room

unfoldable pub replay_answer : Case → List ℕ → Answer
replay_answer c room = settled (replay_fault c (length room)) (met_jobs c ∷ missed_jobs c ∷ open_jobs c ∷ [])

unfoldable pub replay_room : Case → List ℕ → List ℕ
replay_room c room = kept (replay_fault c (length room)) (room_after c room) room

-- ---- the running set of a named slot
unfoldable pub running_answer : Case → ℕ → Answer
running_answer c s = settled (running_fault c s) (running_set c s ∷ [])

-- ---- the promises: of what was lent, what a call answers and what every lent slice holds afterwards
pub record CountsPromise (m : ℕ) (ts room : List ℕ) (r : Result ℕ Fault) (later : List ℕ) : Type 0 where
  pub answer : counted_as r ≡ counts_answer m ts room
  pub left : later ≡ counts_room m ts room

pub record ReplayPromise (c : Case) (room : List ℕ) (r : Result Totals Fault) (later : List ℕ) : Type 0 where
  pub answer : replayed_as r ≡ replay_answer c room
  pub left : later ≡ replay_room c room

-- the running set is lent nothing to write into
pub record RunningPromise (c : Case) (s : ℕ) (r : Result ℕ Fault) : Type 0 where
  pub answer : running_as r ≡ running_answer c s

pub record ReadPromise (text tasks releases : List ℕ) (r : Result Taken Fault) (tasks-later releases-later : List ℕ) : Type 0 where
  pub answer : taken_as r ≡ read_answer text tasks releases
  pub left_tasks : tasks-later ≡ read_tasks text tasks releases
  pub left_releases : releases-later ≡ read_releases text tasks releases

pub record WritePromise (c : Case) (bytes : List ℕ) (r : Result ℕ Fault) (later : List ℕ) : Type 0 where
  pub answer : written_as r ≡ write_answer c bytes
  pub left : later ≡ write_bytes c bytes

pub record ConvertPromise (text bytes : List ℕ) (r : Result ℕ Fault) (later : List ℕ) : Type 0 where
  pub answer : written_as r ≡ convert_answer text bytes
  pub left : later ≡ convert_bytes text bytes

-- the log check is lent nothing to write into
pub record LogPromise (c : Case) (log : List ℕ) (r : Result (Unit {0}) Fault) : Type 0 where
  pub answer : logged_as r ≡ log_answer c log
