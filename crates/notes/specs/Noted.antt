-- What the writing of records asks and says, beside the definitions of records: how the sets of a slot stand to the lent room.
use Rattle.std.specs.Prelude.{◌≡◌, Bool, true, false, List, ℕ, ◌+◌, ◌*◌, ◌<◌, get_or}
use Rattle.rules.specs.Limits.{max_tasks, record_width}
use Rattle.rules.specs.Replay.{Record, record_of}
use Rattle.bridge.specs.Notes.{event_at}

-- each task of which something is written has a place in the room
abbrev pub Roomy : List ℕ → List Bool → List Bool → List Bool → ℕ → Type 0
Roomy place fin dem missed room = (i : ℕ) → i < max_tasks → event_at fin dem missed i ≡ true
    → get_or place i 0 * record_width + 2 < room

-- nothing happens to the jobs of the first n tasks
abbrev pub Uneventful : List Bool → List Bool → List Bool → ℕ → Type 0
Uneventful fin dem missed n = (i : ℕ) → i < n → event_at fin dem missed i ≡ false

-- a record before its job's first slot
abbrev pub open_record : Record
open_record = record_of 3 0 0
