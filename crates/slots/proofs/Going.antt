-- The loop over the slots, apart from the code: what one slot more gives, and how the records go on with it.
use mathlib.Core.Path.{◌≡◌, refl, ap, sym, ◌∙◌}
use mathlib.Core.Bool.{Bool, true, false}
use mathlib.Core.List.{List, ◌++◌}
use Prim.Native.Nat.{ℕ, suc, ◌+◌, ◌*◌, ◌≤◌, ◌<◌}
use native.Mathlib.Numerals.{add-one}
use native.Mathlib.Omega.{arith}
use lib.ListN.{length, drop, length-append}
use Rattle.rules.specs.declared.Run.{Run}
use Rattle.rules.specs.Words.{tab}
use Rattle.rules.specs.Limits.{max_tasks, record_width}
use Rattle.rules.specs.Case.{Case, release_count}
use Rattle.rules.specs.Slot.{job_at, is_missed, missed}
use Rattle.rules.specs.Replay.{setup_in, released_at, fresh, state_from, state_at, ran_at, finished_at, missed_at, demoted_at, record_by}
use Rattle.rules.specs.Replay.{numbers}
use Rattle.lists.specs.Lists.{tab_at, tab_cong, members}
use Rattle.legal.specs.Legal.{Legal}
use Rattle.bridge.specs.Stands.{state_full}
use Rattle.bridge.specs.Records.{at_first}
use Rattle.bridge.specs.Turn.{last_place, Reached}
use Rattle.bridge.specs.Events.{turn-event}
use Rattle.bridge.specs.Notes.{note_to, Handed, noted_all}
use Rattle.choice.specs.Keys.{Chosen}
use Rattle.slot.specs.Stepped.{Settles, Worked, Stepped}
use Rattle.slot.proofs.Slots.{stepped}
use Rattle.notes.specs.Noted.{Roomy}
use Rattle.traces.specs.Traces.{releases}
use Rattle.traces.specs.Step.{same_step, next_run}
use Rattle.slots.specs.Walks.{places, Rests, LastRan, room_at}
use Rattle.slots.specs.Rooms.{records_long, same_room}
use Rattle.slots.proofs.Quiet.{Walking, none_left, still_walking, still_ran, still_records}

-- after the slot at t: how the walk stands, and the set that ran
pub record Turned (c : Case) (t : ℕ) (run : Run) (place : List ℕ) (next jobs : ℕ) (rs : List Bool) : Type 0 where
  pub walks : Walking c (suc t) run place next jobs
  pub ran : rs ≡ tab (ran_at c t) 0 max_tasks

-- ---- before the first slot
pub walking_none : (c : Case) (run : Run) → run ≡ fresh → Walking c 0 run (tab (λ i. 0) 0 max_tasks) 0 0
unfolding state_at state_from last_place
walking_none c run e = record {
  at_run = e;
  reached = record { within = omega arith; before = λ j h. absurd (omega arith); behind = λ j x y. omega arith };
  at_place = refl;
  idle = λ e i l. at_first c i l;
}

-- no slot is the last one before time 0
pub last_none : (c : Case) (rs : List Bool) → LastRan c 0 rs
last_none c rs t e = absurd (omega (arith, e))

-- the set of the slot at t is the set of the last slot before t + 1
pub last_ran : (c : Case) (t : ℕ) (rs : List Bool) → rs ≡ tab (ran_at c t) 0 max_tasks → LastRan c (suc t) rs
last_ran c t rs h k e = let z : t ≡ k = omega (arith, e) in rw (← z) h

-- ---- one slot
-- the parts of a slot of the case, with what is released at its time, are the slot
pub slot_of : (c : Case) (clock : ℕ) (rel : List Bool) → rel ≡ releases c.trace (release_count c.trace) clock
    → (run : Run) → run ≡ state_at c clock
    → (d : Run) (jobs : ℕ) (ms ds ps : List Bool) → Settles (setup_in c) clock (members rel) run d jobs ms ds ps
    → (rs : List Bool) → Chosen c.procs c.policy clock d rs
    → (run' : Run) (fs ls : List Bool) → Worked c.procs c.policy clock (members rs) d run' fs ls
    → Stepped (setup_in c) clock (members rel) run run' jobs ms ds rs fs ls
slot_of c clock rel re run e d jobs ms ds ps p rs q run' fs ls w =
    stepped (setup_in c) clock (members rel) run d (rw e (state_full c clock)) jobs ms ds ps p rs q run' fs ls w

module _ (c : Case) (clock : ℕ) (rel : List Bool) (re : rel ≡ releases c.trace (release_count c.trace) clock) where
  module _ (run : Run) (e : run ≡ state_at c clock) (run' : Run) (jobs : ℕ) (ms ds rs fs ls : List Bool)
      (q : Stepped (setup_in c) clock (members rel) run run' jobs ms ds rs fs ls) where
    -- it is the slot of the case
    slot_here : Stepped (setup_in c) clock (released_at c clock) (state_at c clock) run' jobs ms ds rs fs ls
    slot_here = same_step c clock re e q

    -- the walk after the slot, and the set that ran
    pub turned : (place : List ℕ) (next : ℕ) → Reached c.trace next (suc clock) → place ≡ places c.trace next
        → Turned c clock run' place next jobs rs
    unfolding ran_at
    turned place next k p = record {
      walks = record {
        at_run = next_run c clock re e q;
        reached = k;
        at_place = p;
        idle = λ z. none_left c clock
            (sym slot_here.jobs ∙ z);
      };
      ran = slot_here.ran;
    }

    -- what is noted of the slot is what the case has
    pub handed : (place : List ℕ) (next : ℕ) → place ≡ places c.trace next → Handed c clock next place fs ds ls
    unfolding finished_at demoted_at missed_at missed
    handed place next p = record {
      at_place = λ i h. rw p (tab_at (λ i. last_place c.trace next (suc i)) max_tasks i 0 h);
      at_fin = λ i h. rw slot_here.finished (tab_at _ max_tasks i false h);
      at_dem = λ i h. rw slot_here.demoted (tab_at _ max_tasks i false h);
      at_missed = λ i h. rw slot_here.missed_next (tab_at _ max_tasks i false h)
          ∙ ap (λ (r : Run). is_missed (suc clock) (job_at r i)) (next_run c clock re e q);
    }

-- ---- the records
module _ (c : Case) (g : Legal c) (clock : ℕ) (out : List ℕ) (e : out ≡ room_at c clock out)
    (next : ℕ) (w : Reached c.trace next (suc clock))
    (place : List ℕ) (fs ds ls : List Bool) (o : Handed c clock next place fs ds ls) where
  pub roomy : Roomy place fs ds ls (length out)
  roomy i h x =
      let l = turn-event c clock i h g next w (rw (o.at_fin i h, o.at_dem i h, o.at_missed i h) at x) in
      let a = ap length e ∙ length-append (numbers (tab (record_by c clock) 0 (release_count c.trace)))
      (drop (release_count c.trace * record_width) out) in
      rw (o.at_place i h) (omega (arith, l.within, a, records_long c clock))

  -- what is noted of the slot brings the records to the next time
  pub room_next : (out' : List ℕ) → out' ≡ note_to clock place fs ds ls max_tasks out → out' ≡ room_at c (suc clock) out
  room_next out' n = n ∙ ap (note_to clock place fs ds ls max_tasks) e
      ∙ noted_all c g clock next w place fs ds ls o (drop (release_count c.trace * record_width) out)

-- a slot that rests changes no record
pub room_still : (c : Case) (g : Legal c) (clock : ℕ) (run : Run) (place : List ℕ) (next jobs : ℕ)
    → Walking c clock run place next jobs → Rests c.trace next jobs clock → (xs : List ℕ)
    → room_at c clock xs ≡ room_at c (suc clock) xs
room_still c g clock run place next jobs v r xs =
    ap (λ l. numbers l ++ drop (release_count c.trace * record_width) xs)
    (tab_cong (record_by c clock) (record_by c (suc clock)) 0 _
    (λ j p q. sym (still_records c g clock run place next jobs v r j (omega arith))))

-- ---- the loop
-- before the slot at `clock`: how the walk stands, the set that ran last, and the records where they are noted
pub record Going (c : Case) (until : ℕ) (noting : Bool) (xs : List ℕ) (clock : ℕ) (run : Run) (place : List ℕ) (next jobs : ℕ)
    (rs : List Bool) (out : List ℕ) : Type 0 where
  pub within : clock ≤ until
  pub walks : Walking c clock run place next jobs
  pub ran : LastRan c clock rs
  pub long : length out ≡ length xs
  pub noted : noting ≡ true → out ≡ room_at c clock xs

module _ (c : Case) (until : ℕ) (noting : Bool) (xs : List ℕ) (clock : ℕ) (run : Run) (place : List ℕ) (next jobs : ℕ)
    (rs : List Bool) (out : List ℕ) (v : Going c until noting xs clock run place next jobs rs out) where
  -- the room as it is holds the records
  pub noted_here : noting ≡ true → out ≡ room_at c clock out
  noted_here z = v.noted z ∙ sym (same_room c clock clock xs out (v.noted z))

  module _ (more : clock < until) where
    -- after a slot
    pub going_more : (run' : Run) (place' : List ℕ) (next' jobs' : ℕ) (rs' : List Bool) (out' : List ℕ)
        → Turned c clock run' place' next' jobs' rs'
        → length out' ≡ length out → (noting ≡ true → out' ≡ room_at c (suc clock) out)
        → Going c until noting xs (clock + 1) run' place' next' jobs' rs' out'
    going_more run' place' next' jobs' rs' out' t l n = rw (add-one clock) (record {
      within = omega arith;
      walks = t.walks;
      ran = last_ran c clock rs' t.ran;
      long = l ∙ v.long;
      noted = λ z. n z ∙ same_room c clock (suc clock) xs out (v.noted z);
    })

    -- a slot that rests is passed over, and none runs in it
    pub going_on : Legal c → Rests c.trace next jobs clock
        → Going c until noting xs (clock + 1) run place next jobs (tab (λ i. false) 0 max_tasks) out
    going_on g r = rw (add-one clock) (record {
      within = omega arith;
      walks = still_walking c g clock run place next jobs v.walks r;
      ran = last_ran c clock (tab (λ i. false) 0 max_tasks) (still_ran c g clock run place next jobs v.walks r);
      long = v.long;
      noted = λ z. v.noted z ∙ room_still c g clock run place next jobs v.walks r xs;
    })
