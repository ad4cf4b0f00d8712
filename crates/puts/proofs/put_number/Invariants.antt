-- `puts::put_number` meets its contract: storing the digits that are left gives the digits of v stored.
use Prim.Native.Nat.{◌-◌, ◌≤◌}
use mathlib.Core.Path.{◌≡◌}
use lib.Seq.{sets}
use Rattle.rules.specs.Text.{digits_of}
use Rattle.puts.proofs.Digits.{last_digits}
use Rattle.puts.proofs.put_number.Given as goal

abbrev pub invariant-loop-i : goal.invariant-loop-i
invariant-loop-i l =
    (l.at ≤ l.i) × (sets l.out l.at (last_digits (l.i - l.at) l.w) ≡ sets l.initial.out l.at (digits_of l.v))
