-- Laws over specs/Exact.
use Rattle.std.specs.Prelude.{◌≡◌, false, ℕ}
use mathlib.Core.List.{List}
use Rattle.rules.specs.Text.{return_byte, has}
use Rattle.rules.specs.Case.{Case}
use Rattle.rules.specs.Refusals.{Accepted}
use Rattle.rules.specs.Log.{log_fault, LogAccepted, log_text}
use Rattle.rules.specs.Slot.{tasks_in}
use Rattle.logs.specs.LogLines.{log_no_return, log_without}
use Rattle.logs.specs.Exact.{follows_accepted, LogOf}

-- and what is so written is accepted
pub written_accepted : (c : Case) (s : List ℕ) → Accepted c → LogOf c s → LogAccepted c s
unfolding LogAccepted log_fault
written_accepted c s ok w = rw (log_without s (rw w.bytes none), w.bytes) (follows_accepted c w.works ok w.follows)
  where
    none : has return_byte (log_text w.works c.end) ≡ false
    none = unfold log_text in log_no_return (λ t. tasks_in (w.works t)) 0 c.end
