-- `reader::read` meets its contract: the rooms are at fault, the text is, or nothing is.
use Rattle.std.proofs.Common.{sym, ◌∙◌}
use Rattle.std.proofs.lemmas.Result.{err_from_is_err_and}
use Rattle.reader.proofs.Answered.{at_rooms, refuses}
use Rattle.reader.proofs.Kept.{both_fit, all_read, not_read}
use Rattle.reader.proofs.read.Goals as goal

pub returns-in_err-rooms_fault : goal.returns-in_err-rooms_fault
returns-in_err-rooms_fault c =
    let p = err_from_is_err_and c.from_residual.result c.from_residual.ensures.1 in
    rw (p.1, p.2) (refuses _ _ _ _ (at_rooms _ _ _ _ (sym c.rooms_fault.ensures ∙ c.in_err-rooms_fault.was)))

pub returns-in_err-found : goal.returns-in_err-found
returns-in_err-found c =
    let p = err_from_is_err_and c.from_residual-in_err-found.result c.from_residual-in_err-found.ensures.1 in
    let enough = sym c.rooms_fault.ensures ∙ c.in_ok-rooms_fault.was in
    rw (p.1, p.2) (not_read _ _ _ _ enough (rw c.in_err-found.was at c.read_case.ensures.told))

pub put_case-requires : goal.put_case-requires
put_case-requires c =
    let enough = sym c.rooms_fault.ensures ∙ c.in_ok-rooms_fault.was in
    let fit = both_fit _ c.args.tasks.now c.args.releases.now _ _ _ enough (rw c.in_ok-found.was at c.read_case.ensures.told) in
    record { table_in_bounds = fit.0; trace_in_bounds = fit.1 }

pub returns : goal.returns
returns c =
    let enough = sym c.rooms_fault.ensures ∙ c.in_ok-rooms_fault.was in
    all_read _ _ _ _ _ _ enough (rw c.in_ok-found.was at c.read_case.ensures.told) _ _ _ c.put_case.ensures
