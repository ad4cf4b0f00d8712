-- `puts::put_numbers` meets its contract: the numbers passed are laid as fields.
use lib.ListN.{take}
use Rattle.puts.specs.Laid.{Laid}
use Rattle.puts.specs.Fields.{number_fields}
use Rattle.puts.proofs.put_numbers.Given as goal

abbrev pub invariant-loop-v : goal.invariant-loop-v
invariant-loop-v l = Laid l.at (number_fields l.between (take l.v-index l.vs)) l.initial.out l.out l.end
