-- `notes::note_task` meets its contract: three stores are a record's store.
use Rattle.bridge.specs.Notes.{put3}
use Rattle.notes.proofs.note_task.Goals as goal

pub returns : goal.returns
unfolding put3
returns c = cc
