-- `reasons::put_placed` meets its contract: the words, the place and the words behind it.
use native.Mathlib.Omega.{arith}
use Rattle.texts.specs.Digits.{at_most_ten}
use Rattle.puts.proofs.Puts.{laid_then}
use Rattle.reasons.proofs.put_placed.Goals as goal

pub put_number-after_at-requires : goal.put_number-after_at-requires
put_number-after_at-requires c = omega (arith, at_most_ten)

pub put_bytes-requires : goal.put_bytes-requires
put_bytes-requires c = omega (arith, at_most_ten)

pub returns : goal.returns
returns c = laid_then c.put_bytes-place_at.ensures (laid_then c.put_number-after_at.ensures c.put_bytes.ensures)
