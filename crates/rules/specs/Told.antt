-- The public calls for C and Rust. How an answer of document 01 (Answers) is told to a program in these languages: a number is returned,
-- and the rest goes through lent memory; and for each of the seven calls its promise as one record: that the call of Calls kept its own,
-- what it left in the lent rooms included, and that its answer was told. The contracts of the crate thrumcomb are these records.
use Rattle.std.specs.Prelude.{ℕ, ◌≡◌, List}
use Rattle.rules.specs.Case.{Case}
use Rattle.rules.specs.Answers.{Answer, refusal, result, counted_as, replayed_as, running_as, taken_as, written_as, logged_as}
use Rattle.rules.specs.Calls.{CountsPromise, ReplayPromise, RunningPromise, ReadPromise, WritePromise, ConvertPromise, LogPromise}
use Rattle.rules.specs.declared.Taken.{Taken}
use Rattle.rules.specs.declared.Totals.{Totals}
use Rattle.std.specs.Prelude.{Result}
use Rattle.rules.specs.declared.Fault.{Fault}

-- the number returned: a refusal's, 0 for a result
abbrev pub number_of : Answer → ℕ
number_of (refusal n p) = n
number_of (result vs) = 0

-- the lent place afterwards: a refusal's; a result leaves it as it was
abbrev pub place_or : Answer → ℕ → ℕ
place_or (refusal n p) old = p
place_or (result vs) old = old

-- the lent values afterwards: a result's; a refusal leaves them as they were
abbrev pub values_or : Answer → List ℕ → List ℕ
values_or (refusal n p) old = old
values_or (result vs) old = vs

-- what a caller sees beside the lent rooms: the number returned, and the lent place and values at entry and at exit
pub record Seen : Type 0 where
  pub number : ℕ
  pub place_before : ℕ
  pub place : ℕ
  pub values_before : List ℕ
  pub values : List ℕ

abbrev pub seen : ℕ → ℕ → ℕ → List ℕ → List ℕ → Seen
seen n p q vs ws = record { number = n; place_before = p; place = q; values_before = vs; values = ws }

-- an answer is told by what is seen
pub record Told (a : Answer) (s : Seen) : Type 0 where
  pub returned : s.number ≡ number_of a
  pub placed : s.place ≡ place_or a s.place_before
  pub valued : s.values ≡ values_or a s.values_before

-- ---- the promises
pub record CountsTold (m : ℕ) (ts room later : List ℕ) (s : Seen) : Type 0 where
  pub call : Result ℕ Fault
  pub kept : CountsPromise m ts room call later
  pub told : Told (counted_as call) s

pub record ReplayTold (c : Case) (room later : List ℕ) (s : Seen) : Type 0 where
  pub call : Result Totals Fault
  pub kept : ReplayPromise c room call later
  pub told : Told (replayed_as call) s

pub record RunningTold (c : Case) (slot : ℕ) (s : Seen) : Type 0 where
  pub call : Result ℕ Fault
  pub kept : RunningPromise c slot call
  pub told : Told (running_as call) s

pub record ReadTold (text tasks tasks-later releases releases-later : List ℕ) (s : Seen) : Type 0 where
  pub call : Result Taken Fault
  pub kept : ReadPromise text tasks releases call tasks-later releases-later
  pub told : Told (taken_as call) s

pub record WriteTold (c : Case) (bytes later : List ℕ) (s : Seen) : Type 0 where
  pub call : Result ℕ Fault
  pub kept : WritePromise c bytes call later
  pub told : Told (written_as call) s

pub record ConvertTold (text bytes later : List ℕ) (s : Seen) : Type 0 where
  pub call : Result ℕ Fault
  pub kept : ConvertPromise text bytes call later
  pub told : Told (written_as call) s

pub record LogTold (c : Case) (log : List ℕ) (s : Seen) : Type 0 where
  pub call : Result (Unit {0}) Fault
  pub kept : LogPromise c log call
  pub told : Told (logged_as call) s
