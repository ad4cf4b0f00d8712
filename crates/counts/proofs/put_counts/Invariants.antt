-- `counts::put_counts` meets its contract: the loop lays the free counts over what the slice held.
use Rattle.rules.specs.Counts.{free_count}
use Rattle.lists.specs.Fill.{Laying}
use Rattle.counts.proofs.put_counts.Given as goal

abbrev pub invariant-loop-i : goal.invariant-loop-i
invariant-loop-i l = Laying (free_count l.procs l.table) l.initial.out l.out l.i
