-- `choice::last_key` meets its contract: each way through the pass, and what its end tells.
use mathlib.Core.Path.{◌≡◌}
use Rattle.choice.proofs.Extremes.{greatest}
use Rattle.choice.proofs.Passes.{under_bound}
use Rattle.choice.proofs.last_key.Given as goal

abbrev pub invariant-loop-i : goal.invariant-loop-i
invariant-loop-i l = l.greatest ≡ greatest (under_bound l.policy l.clock l.fn.r l.bound) l.i
