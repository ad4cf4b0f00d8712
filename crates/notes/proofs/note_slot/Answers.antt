-- `notes::note_slot` meets its contract: where nothing happens nothing is to be stored.
use mathlib.Core.Path.{sym}
use Rattle.rules.specs.Limits.{max_tasks}
use Rattle.bridge.specs.Notes.{noted_none}
use Rattle.notes.proofs.note_slot.Goals as goal

pub returns-else-any_event : goal.returns-else-any_event
returns-else-any_event c = sym (noted_none _ _ _ _ _ max_tasks _ (c.any_event.ensures c.if-any_event.false))
