-- `checks::trace_checks` meets its contract.
use Rattle.std.proofs.Common.{sym, ◌∙◌}
use Rattle.legal.specs.Firsts.{clear_checked}
use Rattle.legal.specs.Passing.{end_clear, trace_clear}
use Rattle.checks.proofs.trace_checks.Goals as goal

pub releases_fault-requires : goal.releases_fault-requires
releases_fault-requires c =
    let ends = end_clear _ (clear_checked _ (sym c.end_fault.ensures ∙ c.in_ok-end_fault.was)) in
    let few = (trace_clear _ (clear_checked _ (sym c.trace_fault.ensures ∙ c.in_ok-trace_fault.was))).few in
    (rw (← c.case.view_is) at c.requires, few, ends)
