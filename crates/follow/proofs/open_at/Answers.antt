-- `follow::open_at` meets its contract.
use Rattle.rules.specs.Case.{case_of}
use Rattle.legal.specs.Legal.{legal}
use Rattle.traces.specs.Given.{orderly, needed}
use Rattle.follow.proofs.Following.{opens-settled}
use Rattle.follow.proofs.open_at.Goals as goal

pub take_releases-requires : goal.take_releases-requires
take_releases-requires c =
    let ok = rw (← c.case.view_is) at c.accepted.invariant in
    let q = rw (← c.accepted.view_is, ← c.case.view_is) at c.requires.openable in
    record { orderly = orderly _ (legal _ ok); reached = q.reached }

pub open_run-requires : goal.open_run-requires
open_run-requires c =
    let ok = rw (← c.case.view_is) at c.accepted.invariant in
    let q = rw (← c.accepted.view_is, ← c.case.view_is) at c.requires.openable in
    needed _ (legal _ ok) _ q.before _ c.take_releases.ensures.2 _ q.counted

pub returns : goal.returns
returns c =
    let t = c.take_releases.ensures in
    let p = c.open_run.ensures in
    let i = c.case.inside in
    rw (← c.accepted.view_is, ← c.case.view_is)
    (opens-settled (case_of i.procs i.policy i.table.now i.end i.trace.now) _ _ _ _ _ _ c.requires.full t.2 t.1 p.0 p.1)
