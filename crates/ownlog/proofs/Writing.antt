-- The loop of `put_slots`, apart from the code: how a piece stands before a slot, what one slot more gives, and the piece when it is over.
use mathlib.Core.Path.{◌≡◌, ap}
use mathlib.Core.Bool.{Bool, false}
use mathlib.Core.List.{List}
use Prim.Native.Nat.{ℕ, suc, ◌+◌, ◌-◌, ◌≤◌, ◌<◌}
use native.Mathlib.Numerals.{add-one}
use native.Mathlib.Decide.{dec_lt}
use native.Mathlib.Omega.{arith}
use lib.ListN.{length, take, drop, get_or}
use borrow.Rule.Slice.PartMut.{put_mid}
use Rattle.rules.specs.declared.Run.{Run}
use Rattle.rules.specs.Limits.{max_tasks}
use Rattle.rules.specs.Case.{Case, release_count}
use Rattle.rules.specs.Slot.{tasks_in}
use Rattle.rules.specs.Replay.{setup_in, fresh, state_from, state_at, ran_at}
use Rattle.rules.specs.Log.{slot_line_text}
use Rattle.lists.specs.Lists.{tab_at, tasks_same, members}
use Rattle.bridge.specs.Turn.{Reached}
use Rattle.slot.specs.Stepped.{Stepped}
use Rattle.traces.specs.Traces.{releases}
use Rattle.traces.specs.Step.{same_step, next_run}
use Rattle.puts.specs.Laid.{Laid}
use Rattle.puts.proofs.Puts.{laid_none, laid_then, laid_part, laid_length}
use Rattle.prints.specs.Lines.{line_room, Printed}
use Rattle.ownlog.specs.Pieces.{play_of, Plays, slot_line_at, slots_text, Wrote}
use Rattle.ownlog.specs.Whole.{slots_none, slots_more}

-- before the first slot
pub plays_none : (c : Case) (run : Run) → run ≡ fresh → Plays c (play_of run 0 0)
unfolding state_at state_from
plays_none c run e = record {
  at_run = e;
  reached = record { within = omega arith; before = λ j h. absurd (omega arith); behind = λ j x y. omega arith };
  within = omega arith;
}

-- ---- the loop
-- before the slot at `clock`, of a piece whose first slot is at `from`: the play, and the lines of the slots between
pub record Writing (c : Case) (from : ℕ) (old : List ℕ) (run : Run) (next clock at : ℕ) (out : List ℕ) : Type 0 where
  pub plays : Plays c (play_of run next clock)
  pub onward : from ≤ clock
  pub laid : Laid 0 (slots_text c from (clock - from)) old out at
  pub fits : at ≤ length out

pub writing_none : (c : Case) (old : List ℕ) (run : Run) (next clock : ℕ) → Plays c (play_of run next clock)
    → Writing c clock old run next clock 0 old
writing_none c old run next clock p =
    let z : clock - clock ≡ 0 = omega arith in
    record { plays = p; onward = omega arith; laid = rw (z, slots_none c clock) (laid_none 0 old); fits = omega arith }

module _ (c : Case) (from : ℕ) (old : List ℕ) (run : Run) (next clock at : ℕ) (out : List ℕ)
    (v : Writing c from old run next clock at out) where
  -- after a slot: its line is that of the case, and stands behind the others
  module _ (more : clock < c.end) (room : at + line_room ≤ length out) (rel : List Bool)
      (re : rel ≡ releases c.trace (release_count c.trace) clock) (run' : Run) (jobs : ℕ) (ms ds rs fs ls : List Bool)
      (q : Stepped (setup_in c) clock (members rel) run run' jobs ms ds rs fs ls) where
    plays_next : (next' : ℕ) → Reached c.trace next' (suc clock) → Plays c (play_of run' next' (suc clock))
    plays_next next' k = record { at_run = next_run c clock re v.plays.at_run q; reached = k; within = omega arith }

    line_is : slot_line_text clock (tasks_in (λ i. get_or rs i false)) ≡ slot_line_at c clock
    unfolding ran_at
    line_is =
        ap (slot_line_text clock) (tasks_same (λ i. get_or rs i false) (ran_at c clock)
        (λ i h. rw (same_step c clock re v.plays.at_run q).ran (tab_at (ran_at c clock) max_tasks i false h)))

    pub writing_more : (next' : ℕ) → Reached c.trace next' (suc clock) → (ys : List ℕ) (k : ℕ)
        → Printed line_room (slot_line_text clock (tasks_in (λ i. get_or rs i false))) (take (length out - at) (drop at out)) ys k
        → Writing c from old run' next' (clock + 1) (at + k) (put_mid at (length out - at) out ys)
    writing_more next' r ys k p =
        let s : suc clock - from ≡ suc (clock - from) = omega (arith, v.onward) in
        let a : from + (clock - from) ≡ clock = omega (arith, v.onward) in
        let line = laid_part at (slot_line_at c clock) out ys k v.fits (rw line_is at p.laid) in
        let both = laid_then v.laid line in
        rw (add-one clock) (record {
          plays = plays_next next' r;
          onward = omega (arith, v.onward);
          laid = rw (s, slots_more c from (clock - from), a) both;
          fits = omega (arith, room, p.short, laid_length line);
        })

  -- where there is no room for another line, at least one was written, since the bytes have room for one
  pub writing_done : length out - at < line_room → line_room ≤ length old → Wrote c from (play_of run next clock) old out at
  writing_done f h = record {
    plays = v.plays;
    onward = v.onward;
    goes = λ m. go (dec_lt from clock);
    laid = v.laid;
    fits = omega (arith, v.fits, laid_length v.laid);
  }
    where
      go : Dec (from < clock) → from < clock
      go (yes x) = x
      go (no x) =
          let same : clock ≡ from = omega (arith, v.onward) in
          let z : clock - from ≡ 0 = omega arith in
          let none : length (slots_text c from (clock - from)) ≡ 0 = rw z (ap length (slots_none c from)) in
          absurd (omega (arith, f, v.laid.behind, none, h, laid_length v.laid))
