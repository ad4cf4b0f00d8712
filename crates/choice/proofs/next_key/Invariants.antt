-- `choice::next_key` meets its contract: each way through the pass, and what its end tells.
use mathlib.Core.Path.{◌≡◌}
use Rattle.choice.specs.Keys.{no_key}
use Rattle.choice.proofs.Extremes.{least}
use Rattle.choice.proofs.Passes.{from_bound}
use Rattle.choice.proofs.next_key.Given as goal

abbrev pub invariant-loop-i : goal.invariant-loop-i
invariant-loop-i l = l.least ≡ least no_key (from_bound l.policy l.clock l.fn.r l.bound) l.i
