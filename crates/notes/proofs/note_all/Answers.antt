-- `notes::note_all` meets its contract: what a slot stores, task by task.
use mathlib.Core.Path.{refl}
use Rattle.bridge.specs.Notes.{note_to}
use Rattle.notes.proofs.Room.{note_yes, note_no}
use Rattle.notes.proofs.note_all.Goals as goal
use Rattle.notes.proofs.note_all.Goals.{else-is_event, then-is_event}

pub loop-i-init : goal.loop-i-init
unfolding note_to
loop-i-init c = refl

pub loop-i-preserved : goal.loop-i-preserved
loop-i-preserved c =
    let e = c.is_event.ensures in
    elim c.if-is_event.branch [
      | then-is_event w ↦
          rw w.out-is
          (note_yes _ _ _ _ _ _ _ _ _ c.loop-i.invariant _ e w.if-is_event.true (rw w.from.ensures at w.note_task.ensures))
      | else-is_event w ↦ rw w.out-is (note_no _ _ _ _ _ _ _ _ _ c.loop-i.invariant _ e w.if-is_event.false refl)
    ]
