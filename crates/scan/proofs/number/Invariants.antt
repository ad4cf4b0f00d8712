-- `scan::number` meets its contract.
use Prim.Native.Nat.{◌<◌, ◌^◌}
use mathlib.Core.Path.{◌≡◌}
use mathlib.Core.Bool.{true}
use lib.ListN.{drop}
use Rattle.rules.specs.Text.{no_leading_zero, all_digits, worth}
use Rattle.scan.proofs.number.Given as goal

abbrev pub invariant-loop-b : goal.invariant-loop-b
invariant-loop-b l =
    (l.v < 10 ^ l.b-index) × (no_leading_zero l.s ≡ true) × (all_digits l.s ≡ all_digits (drop l.b-index l.s))
    × (worth 0 l.s ≡ worth l.v (drop l.b-index l.s))
