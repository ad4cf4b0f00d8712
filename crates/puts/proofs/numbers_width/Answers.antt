-- `puts::numbers_width` meets its contract: the sum is what the numbers passed take.
use mathlib.Core.Path.{refl}
use native.Mathlib.Omega.{arith}
use lib.ListN.{length-append}
use Rattle.puts.specs.Fields.{fields_text}
use Rattle.puts.proofs.Lines.{numbers-suc, numbers_le, numbers_room}
use Rattle.puts.proofs.numbers_width.Goals as goal

pub loop-v-init : goal.loop-v-init
unfolding fields_text
loop-v-init c = refl

pub overflow_add-sum : goal.overflow_add-sum
overflow_add-sum c = omega (arith, numbers_le, numbers_room)

pub overflow_add-sum-in-loop-v : goal.overflow_add-sum-in-loop-v
overflow_add-sum-in-loop-v c = omega (arith, numbers_le, numbers_room)

pub loop-v-preserved : goal.loop-v-preserved
loop-v-preserved c =
    rw (numbers-suc 9 c.args.vs.now c.loop-v.v-index c.loop-v-test.true, length-append) (omega (arith, c.width.ensures))
