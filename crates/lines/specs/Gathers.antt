-- What the functions that read lines promise: the next line, the lines of the head, the release lines, and the lines of
-- a whole text (rules, Reader, `lines_fault` and `case_in`). Reading may stop after any line, for what is unread decides the rest. An `Err`
-- tells what is at fault, and never a fault of number 0; what is read is said of an `Ok`; a lent room keeps its length in both.
use Rattle.std.specs.Prelude.{ℕ, ◌+◌, ◌≤◌, ◌<◌, ◌≡◌, List, [], length, take, drop, Result, Ok, Err}
use Rattle.rules.specs.Limits.{task_width, release_width}
use Rattle.rules.specs.Case.{Case}
use Rattle.rules.specs.Refusals.{checked}
use Rattle.rules.specs.Text.{after_line}
use Rattle.rules.specs.Reader.{lines_of, Order, case_order, lines_fault, policy_when_absent, with_lines, case_with_default}
use Rattle.rules.specs.Reader.{case_in}
use Rattle.rules.specs.declared.Fault.{Fault}
use Rattle.kinds.specs.Says.{Opens}
use Rattle.lines.specs.declared.Step.{Step}
use Rattle.lines.specs.declared.HeadRead.{HeadRead}
use Rattle.lines.specs.declared.Gathered.{Gathered}
use Rattle.lines.specs.Held.{table_room, trace_room, clip, next_says, trace_of, Whole, kept_case}

-- an answer where f is what is at fault: `Err` with just that fault, which is none of number 0, or `Ok` with a value of which P holds
abbrev pub Told : {A : Type 0} → Fault → (A → Type 0) → Result A Fault → Type 0
Told f P (Ok x) = P x
Told f P (Err g) = checked f ≡ Err g

-- the line at `at`, the kind of its word, and where the next line starts
pub record NextLine (s : List ℕ) (at : ℕ) (r : Step) : Type 0 where
  pub said : r.said ≡ next_says (drop at s)
  pub opens : Opens r.kind r.said
  pub unread : drop r.next s ≡ after_line (drop at s)
  pub on : at < r.next
  pub within : r.next ≤ length s

-- between two lines: line n is the next, after one of kind b; it starts at `at`, and c is what is kept of the case, whose policy is p
-- unless a line names one. What is at fault with the text, and its case as far as it matters, are those of what is kept and unread
pub record Reading (o : Order) (p : ℕ) (s : List ℕ) (c : Case) (b n at : ℕ) : Type 0 where
  pub within : at ≤ length s
  pub counted : n ≤ at + 1
  pub fault : lines_fault o 0 1 (lines_of s) ≡ lines_fault o b n (lines_of (drop at s))
  pub kept : clip (case_with_default p s) ≡ clip (with_lines c (lines_of (drop at s)))

-- ---- the head
-- in the head, or just behind it
pub record InHead (s : List ℕ) (top : HeadRead) (table : List ℕ) : Type 0 where
  pub reading : Reading case_order policy_when_absent s (kept_case top.head top.tasks table 0 []) top.before top.line top.next
  pub tasks : Whole table_room task_width top.tasks table
  pub early : top.before ≤ 4

-- one more line of it, which starts at `at`
pub record HeadLine (s : List ℕ) (at : ℕ) (r : Result HeadRead Fault) (table : List ℕ) : Type 0 where
  pub told : Told (lines_fault case_order 0 1 (lines_of s)) (λ top. InHead s top table × (at < top.next)) r
  pub long : length table ≡ table_room

-- all of its lines, through `end`
pub record Heads (s : List ℕ) (r : Result HeadRead Fault) (table : List ℕ) : Type 0 where
  pub told : Told (lines_fault case_order 0 1 (lines_of s)) (λ top. InHead s top table × (top.before ≡ 4)) r
  pub long : length table ≡ table_room

-- ---- the release lines
-- all lines from line n on, which starts at `at`, with nothing at fault: so many release numbers were kept, and the trace that the lines
-- say is those, as far as it matters
pub record ReleasesRead (s : List ℕ) (at n releases : ℕ) (trace : List ℕ) : Type 0 where
  pub clear : (lines_fault case_order 4 n (lines_of (drop at s))).number ≡ 0
  pub kept : take trace_room (trace_of (lines_of (drop at s))) ≡ take releases trace
  pub whole : Whole trace_room release_width releases trace

pub record Releases (s : List ℕ) (at n : ℕ) (r : Result ℕ Fault) (trace : List ℕ) : Type 0 where
  pub told : Told (lines_fault case_order 4 n (lines_of (drop at s))) (λ releases. ReleasesRead s at n releases trace) r
  pub long : length trace ≡ trace_room

-- ---- the lines of a text
-- with nothing at fault with them
pub record AllRead (s : List ℕ) (g : Gathered) (table trace : List ℕ) : Type 0 where
  pub clear : (lines_fault case_order 0 1 (lines_of s)).number ≡ 0
  pub kept : clip (case_in s) ≡ kept_case g.head g.tasks table g.releases trace
  pub tasks : Whole table_room task_width g.tasks table
  pub releases : Whole trace_room release_width g.releases trace

pub record Gathers (s : List ℕ) (r : Result Gathered Fault) (table trace : List ℕ) : Type 0 where
  pub told : Told (lines_fault case_order 0 1 (lines_of s)) (λ g. AllRead s g table trace) r
  pub table_long : length table ≡ table_room
  pub trace_long : length trace ≡ trace_room
