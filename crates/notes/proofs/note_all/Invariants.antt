-- `notes::note_all` meets its contract: what a slot stores, task by task.
use mathlib.Core.Path.{◌≡◌}
use Rattle.bridge.specs.Notes.{note_to}
use Rattle.notes.proofs.note_all.Given as goal

abbrev pub invariant-loop-i : goal.invariant-loop-i
invariant-loop-i l = l.out ≡ note_to l.clock l.place l.finished l.demoted l.missed l.i l.initial.out
