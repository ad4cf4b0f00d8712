-- `answers::put_wish` meets its contract: each wish is answered by its writer.
use Rattle.answers.specs.Prints.{case_says}
use Rattle.report.proofs.Answers.{counts_fits}
use Rattle.answers.proofs.Said.{wish_shown}
use Rattle.answers.proofs.put_wish.Goals as goal

pub put_free_counts-requires : goal.put_free_counts-requires
put_free_counts-requires c = record {
  print_room_in_bounds = c.requires;
  max_tasks_value = counts_fits _ (rw (← c.case.view_is) at c.accepted.invariant);
}

pub returns-in-Counts : goal.returns-in-Counts
unfolding case_says
returns-in-Counts c =
    rw (← c.accepted.view_is, ← c.case.view_is) (wish_shown _ _ _ _ _ _ c.in-Counts.is c.put_free_counts.ensures)
