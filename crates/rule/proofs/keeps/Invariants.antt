-- `rule::keeps` meets its contract: each way through the pass, and what its end tells.
use Rattle.lists.specs.Lists.{members}
use Rattle.rule.proofs.Passing.{Passing}
use Rattle.rule.proofs.keeps.Given as goal

abbrev pub invariant-loop-i : goal.invariant-loop-i
invariant-loop-i l =
    Passing l.policy l.clock l.fn.r (members l.named) l.i l.count l.all_there l.waiting l.running
