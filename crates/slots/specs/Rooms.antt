-- The records of a case in the lent room at a time (`room_at` of Walks): those of one time go where those of another stood, and before the
-- first slot every record is open. For the loop over the slots, and for whoever begins it.
use Rattle.std.specs.Prelude.{◌≡◌, false, List, ◌++◌, ℕ, ◌+◌, ◌-◌, ◌*◌, min, ◌<◌, leb, length, drop}
use Rattle.std.proofs.Common.{ap, sym, ◌∙◌, arith, drop_at}
use Rattle.std.proofs.lemmas.Bool.{lt-leb}
use Rattle.rules.specs.Words.{tab, first_in}
use Rattle.rules.specs.Limits.{record_width}
use Rattle.rules.specs.Case.{Case, deadline, release_count, time_of}
use Rattle.rules.specs.Replay.{slots_by, finish_by, demotion_by, verdict_by, record_by, numbers}
use Rattle.lists.specs.Lists.{tab_long, tab_cong}
use Rattle.legal.specs.Legal.{Legal}
use Rattle.bridge.specs.Records.{task_at, good_at}
use Rattle.bridge.specs.Notes.{numbers_long}
use Rattle.notes.specs.Noted.{open_record}
use Rattle.slots.specs.Walks.{room_at}

-- at time 0 every record is open
open_at_0 : (c : Case) → Legal c → (j : ℕ) → j < release_count c.trace → record_by c 0 j ≡ open_record
unfolding record_by verdict_by finish_by demotion_by slots_by first_in
open_at_0 c g j h =
    let m = good_at c g j h in
    let z : min (deadline c.table (task_at c j)) (0 - time_of c.trace j) ≡ 0 = omega arith in
    let l : leb (time_of c.trace j + deadline c.table (task_at c j)) 0 ≡ false =
    lt-leb (time_of c.trace j + deadline c.table (task_at c j)) 0 (omega (arith, m.some, m.fits)) in
    rw (z, l)

-- three numbers a release
pub records_long : (c : Case) (t : ℕ)
    → length (numbers (tab (record_by c t) 0 (release_count c.trace))) ≡ release_count c.trace * record_width
records_long c t =
    numbers_long (tab (record_by c t) 0 (release_count c.trace))
    ∙ ap (λ (k : ℕ). k * record_width) (tab_long (record_by c t) 0 (release_count c.trace))

-- what is past the records stays, so that the records of any time go into the same room
pub same_room : (c : Case) (t u : ℕ) (xs out : List ℕ) → out ≡ room_at c t xs → room_at c u out ≡ room_at c u xs
same_room c t u xs out e =
    ap (λ l. numbers (tab (record_by c u) 0 (release_count c.trace)) ++ l)
    (rw e (drop_at (numbers (tab (record_by c t) 0 (release_count c.trace))) (drop (release_count c.trace * record_width) xs)
    (release_count c.trace * record_width) (records_long c t)))

-- the room that holds the open records holds those of time 0
pub room_open : (c : Case) → Legal c → (xs out : List ℕ)
    → out ≡ numbers (tab (λ j. open_record) 0 (release_count c.trace)) ++ drop (release_count c.trace * record_width) xs
    → out ≡ room_at c 0 xs
room_open c g xs out e =
    e ∙ ap (λ l. numbers l ++ drop (release_count c.trace * record_width) xs)
    (tab_cong (λ j. open_record) (record_by c 0) 0 _ (λ j p q. sym (open_at_0 c g j (omega arith))))
