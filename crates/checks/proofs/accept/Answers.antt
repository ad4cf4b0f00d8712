-- `checks::accept` meets its contract.
use Rattle.std.proofs.Common.{sym, ◌∙◌}
use Rattle.rules.specs.Refusals.{Accepted}
use Rattle.legal.specs.Firsts.{clear_checked}
use Rattle.checks.proofs.accept.Goals as goal

pub invariant_of-result : goal.invariant_of-result
unfolding Accepted
invariant_of-result c = clear_checked _ (sym c.case_fault.ensures ∙ c.in_ok-case_fault.was)
