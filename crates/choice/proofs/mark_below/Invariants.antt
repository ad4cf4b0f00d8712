-- `choice::mark_below` meets its contract: each task is marked and counted where its key is below the bound.
use Rattle.choice.proofs.Passes.{MarkedTo}
use Rattle.choice.proofs.mark_below.Given as goal

abbrev pub invariant-loop-i : goal.invariant-loop-i
invariant-loop-i l = MarkedTo l.policy l.clock l.fn.r l.bound l.n l.runs l.i
