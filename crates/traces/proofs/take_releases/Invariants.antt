-- `traces::take_releases` meets its contract.
use Rattle.traces.proofs.Taking.{Taking}
use Rattle.traces.proofs.take_releases.Given as goal

abbrev pub invariant-loop-k : goal.invariant-loop-k
invariant-loop-k l = Taking l.trace l.clock l.from l.k l.released
