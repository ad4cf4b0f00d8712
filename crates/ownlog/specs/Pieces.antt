-- Our own log (rules, Log: `own_log`) in pieces: how the replay stands between two pieces, the lines of some slots of a case, and what the
-- writer of a piece promises.
use Rattle.std.specs.Prelude.{◌≡◌, List, ℕ, ◌-◌, ◌≤◌, ◌<◌, length}
use Rattle.rules.specs.Words.{tab}
use Rattle.rules.specs.Case.{Case}
use Rattle.rules.specs.Slot.{tasks_in}
use Rattle.rules.specs.Replay.{state_at, ran_at}
use Rattle.rules.specs.Writer.{joined_text}
use Rattle.rules.specs.Log.{slot_line_text}
use Rattle.rules.specs.declared.Run.{Run}
use Rattle.bridge.specs.Turn.{Reached}
use Rattle.puts.specs.Laid.{Laid}
use Rattle.ownlog.specs.declared.Play.{Play}

abbrev pub play_of : Run → ℕ → ℕ → Play
play_of run next clock = record { run = run; next = next; clock = clock }

-- a play is the case's replay at its time, before step 1: the state, and how many of the releases are before the time
pub record Plays (c : Case) (p : Play) : Type 0 where
  pub at_run : p.run ≡ state_at c p.clock
  pub reached : Reached c.trace p.next p.clock
  pub within : p.clock ≤ c.end

-- the line of the slot at t
abbrev pub slot_line_at : Case → ℕ → List ℕ
slot_line_at c t = slot_line_text t (tasks_in (ran_at c t))

-- the lines of n slots, from time a on
unfoldable pub slots_text : Case → ℕ → ℕ → List ℕ
slots_text c a n = joined_text (tab (slot_line_at c) a n)

-- a piece is written: from the slot at time a on, up to the play q, the lines of the slots stand at the start of the lent bytes, and all
-- else is as it was; n is their length. At least one slot is gone on by, unless there is none
pub record Wrote (c : Case) (a : ℕ) (q : Play) (old new : List ℕ) (n : ℕ) : Type 0 where
  pub plays : Plays c q
  pub onward : a ≤ q.clock
  pub goes : a < c.end → a < q.clock
  pub laid : Laid 0 (slots_text c a (q.clock - a)) old new n
  pub fits : n ≤ length old
