-- `ownlog::put_slots` meets its contract: each slot goes on from the one before it, and its line stands behind the others.
use mathlib.Core.Path.{◌∙◌}
use Prim.Native.Nat.{◌+◌, ◌≤◌}
use native.Mathlib.Omega.{arith}
use lib.ListN.{length}
use Rattle.legal.specs.Legal.{legal}
use Rattle.traces.specs.Given.{orderly, needed}
use Rattle.prints.specs.Lines.{line_room}
use Rattle.ownlog.proofs.Writing.{writing_none, writing_more, writing_done}
use Rattle.ownlog.proofs.put_slots.Goals as goal

pub loop-clock-init : goal.loop-clock-init
loop-clock-init c = writing_none _ _ _ _ _ c.requires.plays

pub take_releases-next-requires-clause-orderly : goal.take_releases-next-requires-clause-orderly
take_releases-next-requires-clause-orderly c = orderly _ (legal _ (rw (← c.case.view_is) at c.accepted.invariant))

pub step-run-requires : goal.step-run-requires
step-run-requires c =
    let g = legal _ (rw (← c.case.view_is) at c.accepted.invariant) in
    let counts = rw (← (c.case.view_is ∙ c.accepted.view_is)) at c.requires.counts in
    needed _ g _ c.loop-clock-test.true _ c.take_releases-next.ensures.2 _ counts

pub loop-clock-preserved : goal.loop-clock-preserved
loop-clock-preserved c =
    let v = rw (← (c.case.view_is ∙ c.accepted.view_is)) at c.loop-clock.invariant in
    let room : c.loop-clock.at + line_room ≤ length c.loop-clock.out = omega (arith, c.if-out-at-ge-LINE_ROOM.true) in
    let released = c.take_releases-next.ensures in
    rw (← (c.case.view_is ∙ c.accepted.view_is)) (writing_more _ _ _ _ _ _ _ _ v c.loop-clock-test.true room _ released.2
    _ _ _ _ _ _ _ c.step-run.ensures _ released.1 _ _ c.put_slot_line-at.ensures)

pub returns-else-out-at-ge-LINE_ROOM : goal.returns-else-out-at-ge-LINE_ROOM
returns-else-out-at-ge-LINE_ROOM c =
    writing_done _ _ _ _ _ _ _ _ c.loop-clock.invariant c.if-out-at-ge-LINE_ROOM.false c.requires.line_room_in_bounds
