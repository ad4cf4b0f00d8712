-- The check of a log fed in pieces of any length: a state by value that does not grow with the log, a step for a byte, the law that two
-- pieces one after the other are their join, and that the answer read off the state is `log_answer` of rules, Log.
use Rattle.std.specs.Prelude.{Bool, true, false, ◌&&◌, ◌||◌, ℕ, suc, eqb, leb, length}
use mathlib.Core.List.{List, [], ◌∷◌}
use Rattle.rules.specs.declared.Fault.{Fault}
use Rattle.rules.specs.declared.Run.{Run}
use Rattle.rules.specs.Words.{pick}
use Rattle.rules.specs.Case.{Case}
use Rattle.rules.specs.Slot.{TaskSet, opened, worked}
use Rattle.rules.specs.Replay.{setup_in, released_at, fresh}
use Rattle.rules.specs.Refusals.{no_fault, unless, or_next, first, first_of, case_fault}
use Rattle.rules.specs.Answers.{Answer, settled}
use Rattle.rules.specs.Text.{newline_byte}
use Rattle.rules.specs.Log.{LogLine, keeps_rule, set_named}
use Rattle.rules.specs.Log.{followed, sets_of, line_fault}
use Rattle.feeds.specs.LineScan.{LineScan, unread, at_start, scan_byte, Heard, heard_bad, heard, line_end}

-- ---- the state: the line that is being read, how many lines were before it, the state of the run, the first fault so far
pub record Feed : Type 0 where
  pub line : LineScan
  pub count : ℕ
  pub run : Run
  pub fault : Fault

abbrev pub feed_of : LineScan → ℕ → Run → Fault → Feed
feed_of l n r f = record { line = l; count = n; run = r; fault = f }

-- before the first byte
abbrev pub opening : Feed
opening = feed_of unread 0 fresh no_fault

-- what is heard of a line that has n lines before it is well formed
abbrev pub formed_heard : ℕ → Heard → Bool
formed_heard n heard_bad = false
formed_heard n (heard t rises names set) = eqb t n && rises

abbrev pub names_heard : Heard → Bool
names_heard heard_bad = true
names_heard (heard t rises names set) = names

abbrev pub set_heard : Heard → TaskSet
set_heard heard_bad = set_named []
set_heard (heard t rises names set) = set

-- the fault of a line that is heard, r being the state that steps 1 to 4 make
unfoldable pub heard_fault : Case → ℕ → Run → Heard → Fault
heard_fault c n r h =
    first
    (unless (formed_heard n h) 17 (suc n) ∷
    unless (leb c.end n || (names_heard h && keeps_rule (setup_in c) n r (set_heard h))) 18 (suc n) ∷ [])

-- a newline: the line is tested, and its set is worked
abbrev pub closed_by : Case → Heard → ℕ → Run → Fault → Feed
closed_by c h n o f = feed_of unread (suc n) (worked (set_heard h) o) (or_next f (heard_fault c n o h))

unfoldable pub closed : Case → Feed → Feed
closed c f = closed_by c (line_end f.line) f.count (opened (setup_in c) f.count (released_at c f.count) f.run) f.fault

unfoldable pub feed_byte : Case → Feed → ℕ → Feed
feed_byte c f b = pick (eqb b newline_byte) (closed c f) (feed_of (scan_byte f.line b) f.count f.run f.fault)

-- a piece of bytes
unfoldable pub feed : Case → Feed → List ℕ → Feed
feed c f [] = f
feed c f (b ∷ s) = feed c (feed_byte c f b) s

-- the fault when the log is over: a line without its newline is badly formed
unfoldable pub fed_fault : Case → Feed → Fault
fed_fault c f = first (f.fault ∷ unless (at_start f.line) 17 (suc f.count) ∷ unless (eqb f.count c.end) 19 0 ∷ [])

unfoldable pub fed_answer : Case → Feed → Answer
fed_answer c f = settled (first (case_fault c ∷ fed_fault c f ∷ [])) []

-- ---- the state after whole lines
unfoldable pub fed_of : Case → List LogLine → Feed
fed_of c ls = feed_of unread (length ls) (followed (setup_in c) (released_at c) (sets_of ls) (length ls)) (first_of (line_fault c ls)
    (length ls))

-- pieces of any length, one after the other
unfoldable pub feed_pieces : Case → Feed → List (List ℕ) → Feed
feed_pieces c f [] = f
feed_pieces c f (p ∷ ps) = feed_pieces c (feed c f p) ps
