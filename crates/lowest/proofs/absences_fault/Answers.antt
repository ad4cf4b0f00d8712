-- `lowest::absences_fault` meets its contract.
use Rattle.std.proofs.Common.{arith, sym, ◌∙◌}
use Rattle.std.proofs.lemmas.Result.{err_from_is_err_and}
use Rattle.lowest.specs.Needs.{unkept_fault}
use Rattle.legal.specs.Firsts.{many_stop}
use Rattle.lowest.proofs.absences_fault.Goals as goal

pub returns-in_err-absent_fault : goal.returns-in_err-absent_fault
unfolding unkept_fault
returns-in_err-absent_fault c =
    let p = err_from_is_err_and c.from_residual.result c.from_residual.ensures.1 in
    let stopped = sym c.absent_fault.ensures ∙ c.in_err-absent_fault.was in
    rw (p.1, p.2) (sym (many_stop (unkept_fault c.args.last.now) _ _ (omega arith) c.loop-k.invariant _ stopped))
