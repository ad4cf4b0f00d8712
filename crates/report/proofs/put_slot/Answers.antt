-- `report::put_slot` meets its contract.
use Rattle.report.proofs.Commands.{slot_no, slot_yes}
use Rattle.report.proofs.put_slot.Goals as goal

pub returns-in-Err : goal.returns-in-Err
returns-in-Err c =
    let answered = rw (c.again.ensures, c.accepted.view_is) at c.running.ensures.answer in
    let ok = rw c.accepted.view_is at c.accepted.invariant in
    slot_no _ _ ok _ answered _ _ _ _ c.in-Err.is c.put_refused.ensures

pub returns-in-Ok : goal.returns-in-Ok
returns-in-Ok c =
    let answered = rw (c.again.ensures, c.accepted.view_is) at c.running.ensures.answer in
    let ok = rw c.accepted.view_is at c.accepted.invariant in
    slot_yes _ _ ok _ answered _ _ _ _ c.in-Ok.is c.put_running.ensures
