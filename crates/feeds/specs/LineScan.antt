-- A line of a log read byte by byte, in a state that does not grow: what is left of the word, the time, and of the tasks the least number
-- that would rise, whether they rise and are tasks, and their set; or what was heard before a return. At its end it has heard what
-- `slot_says` of rules, Log, says: of its fields by LineHeard, with its return by Returned. For Feed.
use Rattle.std.specs.Prelude.{Option, Some, None}
use Rattle.std.specs.Prelude.{Bool, true, false, ◌&&◌, ◌||◌, List, [], ◌∷◌, ℕ, suc, eqb, leb, ltb}
use Rattle.rules.specs.Words.{pick}
use Rattle.rules.specs.Limits.{max_tasks}
use Rattle.rules.specs.Slot.{TaskSet}
use Rattle.rules.specs.Text.{return_byte, tab_byte}
use Rattle.rules.specs.Log.{LogLine, bad_line, slot_line, slot_word}
use Rattle.rules.specs.Log.{rising, set_named, name_tasks}
use Rattle.feeds.specs.Alike.{within}
use Rattle.feeds.specs.NumScan.{NumScan, num_bad, num_so_far, num_byte, num_end}

-- ---- the state within a line
pub data LineScan : Type 0 where
  unread : LineScan
  wrong : LineScan
  in_word : List ℕ → LineScan
  in_time : ℕ → ℕ → LineScan
  in_task : ℕ → ℕ → Bool → Bool → TaskSet → ℕ → ℕ → LineScan
  returned : ℕ → Bool → Bool → TaskSet → LineScan

-- no byte of the line was read
abbrev pub at_start : LineScan → Bool
at_start unread = true
at_start wrong = false
at_start (in_word ws) = false
at_start (in_time k v) = false
at_start (in_task t low rises names set k v) = false
at_start (returned t rises names set) = false

-- one more task
abbrev pub is_name : ℕ → Bool
is_name v = leb 1 v && leb v max_tasks

abbrev pub with_name : TaskSet → ℕ → TaskSet
with_name set v i = set i || (eqb v (suc i) && ltb i max_tasks)

-- a number so far, in its field: what is no number makes the line wrong at once
abbrev pub time_at : NumScan → LineScan
time_at num_bad = wrong
time_at (num_so_far k v) = in_time k v

abbrev pub task_at : ℕ → ℕ → Bool → Bool → TaskSet → NumScan → LineScan
task_at t low rises names set num_bad = wrong
task_at t low rises names set (num_so_far k v) = in_task t low rises names set k v

-- the time, or a task, is read: what comes after the tab behind it
abbrev pub after_time : Option ℕ → LineScan
after_time None = wrong
after_time (Some t) = in_task t 0 true true (set_named []) 0 0

abbrev pub after_task : ℕ → ℕ → Bool → Bool → TaskSet → Option ℕ → LineScan
after_task t low rises names set None = wrong
after_task t low rises names set (Some v) = in_task t (suc v) (rises && leb low v) (names && is_name v) (with_name set v) 0 0

-- the word, of which ws is still to come: a tab, or another byte
abbrev pub word_tab : List ℕ → LineScan
word_tab [] = in_time 0 0
word_tab (x ∷ xs) = wrong

abbrev pub word_byte : List ℕ → ℕ → LineScan
word_byte [] b = wrong
word_byte (x ∷ xs) b = pick (eqb b x) (in_word xs) wrong

-- a byte of the fields and of the tabs between them
unfoldable pub field_byte : LineScan → ℕ → LineScan
field_byte unread b = pick (eqb b tab_byte) (word_tab slot_word) (word_byte slot_word b)
field_byte wrong b = wrong
field_byte (in_word ws) b = pick (eqb b tab_byte) (word_tab ws) (word_byte ws b)
field_byte (in_time k v) b = pick (eqb b tab_byte) (after_time (num_end (num_so_far k v))) (time_at (num_byte (num_so_far k v) b))
field_byte (in_task t low rises names set k v) b =
    pick (eqb b tab_byte) (after_task t low rises names set (num_end (num_so_far k v))) (task_at t low rises names set (num_byte
    (num_so_far k v) b))
field_byte (returned t rises names set) b = wrong

unfoldable pub field_all : LineScan → List ℕ → LineScan
field_all x [] = x
field_all x (b ∷ s) = field_all (field_byte x b) s

-- ---- what is heard at the end of a line: badly formed; or the time, whether the tasks rise and are tasks, and their set
pub data Heard : Type 0 where
  heard_bad : Heard
  heard : ℕ → Bool → Bool → TaskSet → Heard

abbrev pub heard_time : Option ℕ → Heard
heard_time None = heard_bad
heard_time (Some t) = heard t true true (set_named [])

abbrev pub heard_task : ℕ → ℕ → Bool → Bool → TaskSet → Option ℕ → Heard
heard_task t low rises names set None = heard_bad
heard_task t low rises names set (Some v) = heard t (rises && leb low v) (names && is_name v) (with_name set v)

unfoldable pub line_end : LineScan → Heard
line_end unread = heard_bad
line_end wrong = heard_bad
line_end (in_word ws) = heard_bad
line_end (in_time k v) = heard_time (num_end (num_so_far k v))
line_end (in_task t low rises names set k v) = heard_task t low rises names set (num_end (num_so_far k v))
line_end (returned t rises names set) = heard t rises names set

-- ---- a return: what is heard before it stays so where the newline follows
abbrev pub after_return : Heard → LineScan
after_return heard_bad = wrong
after_return (heard t rises names set) = returned t rises names set

unfoldable pub at_return : LineScan → LineScan
at_return unread = wrong
at_return wrong = wrong
at_return (in_word ws) = wrong
at_return (in_time k v) = after_return (heard_time (num_end (num_so_far k v)))
at_return (in_task t low rises names set k v) = after_return (heard_task t low rises names set (num_end (num_so_far k v)))
at_return (returned t rises names set) = wrong

-- a byte of the line, which is no newline
unfoldable pub scan_byte : LineScan → ℕ → LineScan
scan_byte x b = pick (eqb b return_byte) (at_return x) (field_byte x b)

unfoldable pub scan_all : LineScan → List ℕ → LineScan
scan_all x [] = x
scan_all x (b ∷ s) = scan_all (scan_byte x b) s

-- the same of what a line says
unfoldable pub hears : LogLine → Heard
hears bad_line = heard_bad
hears (slot_line t ns) = heard t (rising ns) (name_tasks ns) (within (set_named ns))
