-- `notes::any_event` meets its contract.
use mathlib.Core.Path.{◌≡◌}
use mathlib.Core.Bool.{false}
use Rattle.notes.specs.Noted.{Uneventful}
use Rattle.notes.proofs.any_event.Given as goal

abbrev pub invariant-loop-i : goal.invariant-loop-i
invariant-loop-i l = l.any ≡ false → Uneventful l.finished l.demoted l.missed l.i
