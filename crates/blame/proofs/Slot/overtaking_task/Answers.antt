-- `blame::Slot::overtaking_task` meets its contract: none of the tasks before overtakes.
use Rattle.std.proofs.Common.{[], below_more, sym, ◌∙◌, arith}
use Rattle.blame.specs.Agrees.{none_first}
use Rattle.blame.specs.Blames.{overtaking_task}
use Rattle.blame.proofs.Firsts.{first_found}
use Rattle.blame.proofs.Slot.overtaking_task.Goals as goal

pub returns-then-is_wronged : goal.returns-then-is_wronged
unfolding overtaking_task
returns-then-is_wronged c = (
  omega arith,
  λ table. first_found _ _ _ c.loop-i.invariant (omega arith) (sym (c.is_wronged.ensures []) ∙ c.if-is_wronged.true),
)

pub loop-i-preserved : goal.loop-i-preserved
loop-i-preserved c = below_more _ _ c.loop-i.invariant (sym (c.is_wronged.ensures []) ∙ c.if-is_wronged.false)

pub returns : goal.returns
unfolding overtaking_task
returns c = λ table. none_first _ _ (λ k h. c.loop-i.invariant k (omega arith))
