-- `slots::start` meets its contract: the records are those of `slot::fresh_run`, and beside them each count is written once.
use Rattle.rules.specs.Words.{tab}
use Rattle.rules.specs.Limits.{max_tasks}
use Rattle.rules.specs.Replay.{idle_task}
use Rattle.lists.specs.Fill.{Filling}
use Rattle.slots.proofs.Counting.{Counting}
use Rattle.slots.proofs.start.Given as goal

abbrev pub invariant-loop-i : goal.invariant-loop-i
invariant-loop-i l =
    Filling max_tasks (tab idle_task 0 max_tasks) l.initial.s.tasks l.s.tasks l.i × Counting l.procs l.table l.counts l.i
