-- `report::put_text` meets its contract.
use Rattle.report.proofs.Commands.{write_accepts, text_shown}
use Rattle.report.proofs.put_text.Goals as goal

pub returns-in-Err : goal.returns-in-Err
returns-in-Err c = absurd (write_accepts _ _ c.accepted.invariant c.requires _ c.write.ensures.answer _ c.in-Err.is)

pub returns-in-Ok : goal.returns-in-Ok
returns-in-Ok c =
    rw (← c.accepted.view_is)
    (text_shown _ _ c.accepted.invariant c.requires _ c.write.ensures.answer _ c.in-Ok.is _ c.write.ensures.left)
