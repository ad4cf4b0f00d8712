-- `slots::walk` meets its contract: each slot goes on from the one before it, and a slot that rests is passed over.
use mathlib.Core.Path.{refl, sym, ◌∙◌}
use mathlib.Core.Bool.{true≢false}
use Prim.Native.Nat.{◌≤◌, ◌<◌}
use native.Mathlib.Omega.{arith}
use Rattle.rules.specs.Words.{tab}
use Rattle.legal.specs.Legal.{legal, accepted_procs, accepted_table}
use Rattle.slot.proofs.Slots.{among}
use Rattle.traces.specs.Given.{orderly, needed}
use Rattle.slots.proofs.Going.{slot_of, turned, handed, roomy, room_next}
use Rattle.slots.proofs.Going.{walking_none, last_none, noted_here, going_more, going_on}
use Rattle.slots.proofs.walk.Goals as goal
use Rattle.slots.proofs.walk.Goals.{then-rests, else-rests+then-noting, else-rests+else-noting}

-- ---- before the first slot
pub start-run-requires : goal.start-run-requires
start-run-requires c =
    let q = rw (← c.case.view_is) at c.accepted.invariant in
    (accepted_table _ q, accepted_procs _ q)

pub loop-clock-init : goal.loop-clock-init
unfolding tab
loop-clock-init c = record {
  within = omega arith;
  walks = walking_none _ _ c.start-run.ensures.0;
  ran = last_none _ _;
  long = refl;
  noted = c.requires.out_value;
}

pub pass_releases-next-requires : goal.pass_releases-next-requires
pass_releases-next-requires c =
    let g = legal _ (rw (← c.case.view_is) at c.accepted.invariant) in
    let v = rw (← (c.case.view_is ∙ c.accepted.view_is)) at c.loop-clock.invariant in
    record { orderly = orderly _ g; reached = v.walks.reached; trace_bound = g.releases_few; place_value = v.walks.at_place }

pub settle-run-requires : goal.settle-run-requires
settle-run-requires c =
    let g = legal _ (rw (← c.case.view_is) at c.accepted.invariant) in
    -- a turn is before the end
    let ends : c.args.until ≤ c.case.inside.end = rw (← (c.case.view_is ∙ c.accepted.view_is)) at c.requires.until_le_end in
    let early : c.loop-clock.clock < c.case.inside.end = omega (arith, c.loop-clock-test.true, ends) in
    needed _ g _ early _ c.pass_releases-next.ensures.2 _ c.start-run.ensures.1

pub work-run-requires : goal.work-run-requires
work-run-requires c =
    let g = legal _ (rw (← c.case.view_is) at c.accepted.invariant) in
    -- a turn is before the end
    let ends : c.args.until ≤ c.case.inside.end = rw (← (c.case.view_is ∙ c.accepted.view_is)) at c.requires.until_le_end in
    record {
      early = omega (arith, c.loop-clock-test.true, ends, g.end_small);
      jobs_value = c.settle-run.ensures.jobs;
      among = among c.case.inside.procs c.case.inside.policy c.loop-clock.clock _ _ c.choose-bound.ensures;
    }

pub note_slot-requires : goal.note_slot-requires
note_slot-requires c =
    let g = legal _ (rw (← c.case.view_is) at c.accepted.invariant) in
    let v = rw (← (c.case.view_is ∙ c.accepted.view_is)) at c.loop-clock.invariant in
    -- a turn is before the end
    let ends : c.args.until ≤ c.case.inside.end = rw (← (c.case.view_is ∙ c.accepted.view_is)) at c.requires.until_le_end in
    let r = c.pass_releases-next.ensures in
    let chosen = c.choose-bound.ensures in
    let k = slot_of _ _ _ r.2 _ v.walks.at_run _ _ _ _ _ c.settle-run.ensures _ chosen _ _ _ c.work-run.ensures in
    let h = handed _ _ _ r.2 _ v.walks.at_run _ _ _ _ _ _ _ k _ _ r.1 in
    let noted = noted_here _ _ _ _ _ _ _ _ _ _ _ v c.if-noting.true in
    record {
      roomy = roomy _ g _ _ noted _ r.0 _ _ _ _ h;
      clock_lt_max_end = omega (arith, c.loop-clock-test.true, ends, g.end_small);
    }

pub loop-clock-preserved : goal.loop-clock-preserved
unfolding tab
loop-clock-preserved c =
    let g = legal _ (rw (← c.case.view_is) at c.accepted.invariant) in
    let v = rw (← (c.case.view_is ∙ c.accepted.view_is)) at c.loop-clock.invariant in
    let k = c.loop-clock-test.true in
    rw (← (c.case.view_is ∙ c.accepted.view_is)) (elim c.if-rests.branch [
      | then-rests w ↦ rw (
        w.out-is,
        w.run-is,
        w.place-is,
        w.next-is,
        w.jobs-is,
        w.ran-is,
      ) (going_on _ _ _ _ _ _ _ _ _ _ _ v k g (c.rests.ensures w.if-rests.true))
      | else-rests+then-noting w ↦
          let a = w.pass_releases-next.ensures in
          let s = slot_of _ _ _ a.2 _ v.walks.at_run _ _ _ _ _ w.settle-run.ensures _ w.choose-bound.ensures _ _ _ w.work-run.ensures in
          let h = handed _ _ _ a.2 _ v.walks.at_run _ _ _ _ _ _ _ s _ _ a.1 in
          let t = turned _ _ _ a.2 _ v.walks.at_run _ _ _ _ _ _ _ s _ _ a.0 a.1 in
          rw (
            w.out-is,
            w.run-is,
            w.place-is,
            w.next-is,
            w.jobs-is,
            w.ran-is,
          ) (going_more _ _ _ _ _ _ _ _ _ _ _ v k _ _ _ _ _ _ t w.note_slot.auto.out
          (λ z. room_next _ g _ _ (noted_here _ _ _ _ _ _ _ _ _ _ _ v z) _ a.0 _ _ _ _ h _ w.note_slot.ensures))
      | else-rests+else-noting w ↦
          let a = w.pass_releases-next.ensures in
          let s = slot_of _ _ _ a.2 _ v.walks.at_run _ _ _ _ _ w.settle-run.ensures _ w.choose-bound.ensures _ _ _ w.work-run.ensures in
          let t = turned _ _ _ a.2 _ v.walks.at_run _ _ _ _ _ _ _ s _ _ a.0 a.1 in
          rw (w.out-is, w.run-is, w.place-is, w.next-is, w.jobs-is, w.ran-is)
          (going_more _ _ _ _ _ _ _ _ _ _ _ v k _ _ _ _ _ _ t refl (λ z. absurd (true≢false (sym z ∙ w.if-noting.false))))
    ])
