-- `reasons::put_plain` meets its contract.
use native.Mathlib.Omega.{arith}
use lib.ListN.{length-append}
use Prim.Native.Nat.{ℕ}
use Rattle.texts.specs.Digits.{at_most_ten}
use Rattle.puts.proofs.Puts.{laid_then}
use Rattle.reasons.specs.Reasons.{sign_bytes, words}
use Rattle.reasons.proofs.put_plain.Goals as goal

pub put_number-requires : goal.put_number-requires
put_number-requires c = omega (arith, at_most_ten, length-append {A = ℕ})

pub returns : goal.returns
unfolding sign_bytes words
returns c = laid_then c.put_placed-at.ensures c.put_number.ensures
