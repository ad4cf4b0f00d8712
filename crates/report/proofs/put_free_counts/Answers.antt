-- `report::put_free_counts` meets its contract.
use native.Mathlib.Omega.{arith}
use Rattle.rules.specs.Limits.{max_tasks}
use Rattle.legal.specs.Legal.{counts_clear}
use Rattle.report.proofs.Commands.{counts_accepts, counts_number, counts_long, counts_shown}
use Rattle.report.proofs.put_free_counts.Goals as goal

pub put_count_lines-requires : goal.put_count_lines-requires
put_count_lines-requires c =
    let counts = c.counts.ensures in
    let n = counts_number _ _ _ c.requires.max_tasks_value _ counts.answer _ c.in-Ok.is in
    let few = (counts_clear _ _ max_tasks c.requires.max_tasks_value).roomy in
    let long = counts_long _ _ _ c.requires.max_tasks_value _ counts.left in
    record {
      n_le_max_tasks = omega (arith, n, few);
      n_in_bounds = omega (arith, n, long);
      line_room_in_bounds = omega (arith, n, few, c.requires.print_room_in_bounds);
    }

pub returns-in-Err : goal.returns-in-Err
returns-in-Err c = absurd (counts_accepts _ _ _ c.requires.max_tasks_value _ c.counts.ensures.answer _ c.in-Err.is)

pub returns-in-Ok : goal.returns-in-Ok
returns-in-Ok c =
    let h = c.requires.max_tasks_value in
    counts_shown _ _ _ h _ c.counts.ensures.left _ (counts_number _ _ _ h _ c.counts.ensures.answer _ c.in-Ok.is)
    (counts_clear _ _ max_tasks h).roomy _ _ _ c.put_count_lines.ensures
