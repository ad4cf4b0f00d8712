-- The room of a replay after the walk, and the totals that are read off it.
use mathlib.Core.Path.{◌≡◌, refl, ap, sym, ◌∙◌}
use mathlib.Core.List.{List, [], ◌∷◌, ◌++◌}
use Prim.Native.Nat.{ℕ, ◌*◌, ◌≤◌}
use native.Mathlib.Omega.{arith}
use lib.Dec.{eqb}
use lib.ListN.{length, get_or, drop, length-append}
use Rattle.rules.specs.Words.{tab, count_in}
use Rattle.rules.specs.Limits.{max_releases, record_width}
use Rattle.rules.specs.Case.{Case, release_count}
use Rattle.rules.specs.Refusals.{Accepted}
use Rattle.rules.specs.Replay.{records, record_by, numbers, marked, met_jobs, missed_jobs, open_jobs}
use Rattle.rules.specs.Calls.{room_after}
use Rattle.lists.specs.Lists.{tab_long}
use Rattle.legal.specs.Legal.{legal}
use Rattle.bridge.specs.Notes.{numbers_long, marked_in}
use Rattle.notes.specs.Noted.{open_record}
use Rattle.slots.specs.Walks.{room_at}
use Rattle.slots.specs.Rooms.{same_room, room_open}

-- how many of the first n records in a room are marked v
abbrev marked_there : List ℕ → ℕ → ℕ → ℕ
marked_there out n v = count_in (λ j. eqb (get_or out (j * record_width) 0) v) 0 n

-- an accepted case has few releases
pub few : (c : Case) → Accepted c → (n : ℕ) → n ≡ release_count c.trace → n ≤ max_releases
few c ok n is = rw is (legal c ok).releases_few

-- a case that is accepted, and the number of its releases; the open records are laid
module _ (c : Case) (ok : Accepted c) (n : ℕ) (is : n ≡ release_count c.trace) (room opened : List ℕ)
    (o : opened ≡ numbers (tab (λ j. open_record) 0 n) ++ drop (n * record_width) room) where
  laid : opened ≡ room_at c 0 room
  laid = room_open c (legal c ok) room opened (rw is at o)

  -- the walk may begin
  pub begins : opened ≡ room_at c 0 opened
  begins = laid ∙ sym (same_room c 0 0 room opened laid)

  -- and brings them to the end
  module _ (out : List ℕ) (w : out ≡ room_at c c.end opened) where
    pub walked : out ≡ room_after c room
    unfolding room_after
    walked = w ∙ same_room c 0 c.end room opened laid

    -- they are in bounds
    pub in_bounds : n * record_width ≤ length out
    unfolding room_after
    in_bounds =
        let a = ap length walked ∙ length-append (numbers (records c)) (drop (release_count c.trace * record_width) room) in
        rw is (omega (arith, a, numbers_long (records c), tab_long (record_by c c.end) 0 (release_count c.trace)))

    total : (v m : ℕ) → m ≡ marked_there out n v → m ≡ marked v (records c)
    unfolding room_after
    total v m h =
        h ∙ ap (λ (k : ℕ). marked_there out k v) (is ∙ sym (tab_long (record_by c c.end) 0 (release_count c.trace))) ∙
        ap (λ (l : List ℕ). marked_there l (length (records c)) v) walked ∙
        marked_in v (records c) (drop (release_count c.trace * record_width) room)

    pub totals : (met missed others : ℕ) → met ≡ marked_there out n 1 → missed ≡ marked_there out n 2 → others ≡ marked_there out n 3
        → ◌≡◌ {A = List ℕ} (met ∷ missed ∷ others ∷ []) (met_jobs c ∷ missed_jobs c ∷ open_jobs c ∷ [])
    totals met missed others p q r = rw (total 1 met p, total 2 missed q, total 3 others r) refl

-- for the proof of the replay
pub ruleset replayed = (few, begins, walked, in_bounds)
