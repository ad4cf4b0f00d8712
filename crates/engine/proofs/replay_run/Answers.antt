-- `engine::replay_run` meets its contract: the open records are those of time 0, the walk brings them to the end, and the totals are read
-- off them.
use mathlib.Core.Path.{refl, ◌∙◌}
use Rattle.engine.proofs.Calls.{totals}
use Rattle.engine.proofs.replay_run.Goals as goal

pub returns-clause-totals : goal.returns-clause-totals
returns-clause-totals c =
    let q = rw (← c.case.view_is) at c.accepted.invariant in
    let w = rw (← (c.case.view_is ∙ c.accepted.view_is)) at (c.walk.ensures.1 refl) in
    rw (← (c.case.view_is ∙ c.accepted.view_is)) (totals _ q _ c.release_count-n.ensures _ _ c.open_records.ensures _ w
    _ _ _ c.marked_in-met.ensures c.marked_in-missed.ensures c.marked_in-open.ensures)
