-- `checks::case_fault` meets its contract.
use Rattle.std.proofs.Common.{sym, ap, ◌∙◌}
use Rattle.std.proofs.lemmas.Result.{err_from_is_err_and}
use Rattle.rules.specs.Refusals.{checked, first, case_fault}
use Rattle.legal.specs.Firsts.{clear_checked, checked_next, checked_stop, row_join, row_clear}
use Rattle.legal.specs.Passing.{sound_table}
use Rattle.checks.specs.Rows.{head_tests, trace_tests}
use Rattle.checks.proofs.case_fault.Goals as goal

pub returns-in_err-head_checks : goal.returns-in_err-head_checks
unfolding case_fault
returns-in_err-head_checks c =
    let v = c.args.case.now in
    let head = head_tests v.procs v.policy v.table in
    let others = trace_tests v.table v.end v.trace in
    let p = err_from_is_err_and c.from_residual.result c.from_residual.ensures.1 in
    let stopped = checked_stop (first head) (first others) _ (sym c.head_checks.ensures ∙ c.in_err-head_checks.was) in
    rw (p.1, p.2) (sym (ap checked (sym (row_join head others)) ∙ stopped))

pub trace_checks-requires : goal.trace_checks-requires
trace_checks-requires c =
    let v = c.args.case.now in
    let w = row_clear (head_tests v.procs v.policy v.table) (clear_checked _ (sym c.head_checks.ensures ∙ c.in_ok-head_checks.was)) in
    sound_table _ w.1.1.0 w.1.1.1.0

pub returns : goal.returns
unfolding case_fault
returns c =
    let v = c.args.case.now in
    let head = head_tests v.procs v.policy v.table in
    let others = trace_tests v.table v.end v.trace in
    let passed = checked_next (first head) (first others) (sym c.head_checks.ensures ∙ c.in_ok-head_checks.was) in
    c.trace_checks.ensures ∙ sym passed ∙ ap checked (row_join head others)
