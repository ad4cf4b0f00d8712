-- `puts::numbers_width` meets its contract: the sum is what the numbers passed take.
use mathlib.Core.Path.{◌≡◌}
use lib.ListN.{length, take}
use Rattle.puts.specs.Fields.{number_fields}
use Rattle.puts.proofs.numbers_width.Given as goal

abbrev pub invariant-loop-v : goal.invariant-loop-v
invariant-loop-v l = l.sum ≡ length (number_fields 9 (take l.v-index l.vs))
