-- `checks::table_checks` meets its contract.
use Rattle.std.proofs.Common.{sym, ◌∙◌}
use Rattle.legal.specs.Firsts.{clear_checked}
use Rattle.legal.specs.Passing.{table_clear}
use Rattle.checks.proofs.table_checks.Goals as goal

pub tasks_fault-requires : goal.tasks_fault-requires
tasks_fault-requires c = (table_clear _ (clear_checked _ (sym c.table_fault.ensures ∙ c.in_ok-table_fault.was))).few
