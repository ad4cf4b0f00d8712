-- `rule::all_run` meets its contract.
use mathlib.Core.Path.{refl}
use Rattle.rules.specs.Words.{holds_below}
use Rattle.rules.specs.Slot.{present}
use Rattle.lists.specs.Holds.{holds_more}
use Rattle.rule.proofs.all_run.Goals as goal

pub loop-i-init : goal.loop-i-init
unfolding holds_below
loop-i-init c = refl

pub loop-i-preserved : goal.loop-i-preserved
unfolding present
loop-i-preserved c = holds_more _ _ _ _ c.loop-i.invariant (rw c.has_job.ensures)
