-- `choice::raised` meets its contract: one key more below the bound with each scan.
use mathlib.Core.Path.{◌≡◌}
use Prim.Native.Nat.{◌+◌}
use Rattle.choice.specs.Keys.{keys_below}
use Rattle.choice.proofs.raised.Given as goal

abbrev pub invariant-loop : goal.invariant-loop
invariant-loop l = keys_below l.policy l.clock l.r l.b ≡ keys_below l.policy l.clock l.r l.bound + l.counter
