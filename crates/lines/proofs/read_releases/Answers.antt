-- `lines::read_releases` meets its contract.
use Rattle.std.proofs.Common.{sym, ◌∙◌}
use Rattle.std.proofs.lemmas.Result.{err_from_is_err_and}
use Rattle.lines.proofs.Releasing.{releasing_stop, releasing_on, releasing_all}
use Rattle.lines.proofs.read_releases.Goals as goal

pub returns-in_err-line_fault : goal.returns-in_err-line_fault
returns-in_err-line_fault c =
    let p = err_from_is_err_and c.from_residual.result c.from_residual.ensures.1 in
    let w = c.loop-next.invariant in
    let stopped = sym c.line_fault.ensures ∙ c.in_err-line_fault.was in
    rw (p.1, p.2)
    record {
      told = releasing_stop _ _ _ _ _ _ _ w _ c.loop-next-test.true c.next_release-step.ensures _ stopped;
      long = w.releases.long;
    }

pub loop-next-preserved : goal.loop-next-preserved
loop-next-preserved c =
    releasing_on _ _ _ _ _ _ _ c.loop-next.invariant _ c.loop-next-test.true c.next_release-step.ensures _ _
    (sym c.line_fault.ensures ∙ c.in_ok-line_fault.was) c.keep_release-releases.ensures

pub returns : goal.returns
returns c =
    let w = c.loop-next.invariant in
    record { told = releasing_all _ _ _ _ _ _ _ w c.loop-next-test.false; long = w.releases.long }
