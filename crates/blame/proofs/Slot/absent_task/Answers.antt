-- `blame::Slot::absent_task` meets its contract: none of the tasks before is absent.
use Rattle.std.proofs.Common.{sym, ◌∙◌, below_more, arith}
use Rattle.blame.specs.Agrees.{none_first}
use Rattle.blame.specs.Blames.{absent_task}
use Rattle.blame.proofs.Firsts.{first_found}
use Rattle.blame.proofs.Slot.absent_task.Goals as goal

pub returns-then-is_absent : goal.returns-then-is_absent
unfolding absent_task
returns-then-is_absent c =
    (omega arith, first_found _ _ _ c.loop-i.invariant (omega arith) (sym c.is_absent.ensures ∙ c.if-is_absent.true))

pub loop-i-preserved : goal.loop-i-preserved
loop-i-preserved c = below_more _ _ c.loop-i.invariant (sym c.is_absent.ensures ∙ c.if-is_absent.false)

pub returns : goal.returns
unfolding absent_task
returns c = none_first _ _ (λ k h. c.loop-i.invariant k (omega arith))
