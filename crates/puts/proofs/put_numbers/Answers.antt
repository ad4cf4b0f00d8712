-- `puts::put_numbers` meets its contract: the numbers passed are laid as fields.
use native.Mathlib.Omega.{arith}
use lib.ListN.{length-set}
use Rattle.puts.specs.Fields.{fields_text}
use Rattle.puts.proofs.Puts.{laid_none, laid_byte, laid_then}
use Rattle.puts.proofs.Lines.{numbers-suc, numbers_le}
use Rattle.puts.proofs.put_numbers.Goals as goal

pub loop-v-init : goal.loop-v-init
unfolding fields_text
loop-v-init c = laid_none _ _

-- the number at hand has room
pub bounds-out-end : goal.bounds-out-end
bounds-out-end c = omega (arith, numbers_le)

pub overflow_add-end : goal.overflow_add-end
overflow_add-end c = omega (arith, numbers_le)

pub put_number-end-requires : goal.put_number-end-requires
put_number-end-requires c =
    simp length-set (omega (arith, numbers_le))

pub loop-v-preserved : goal.loop-v-preserved
loop-v-preserved c =
    let l = c.loop-v in
    rw (numbers-suc c.args.between c.args.vs.now l.v-index c.loop-v-test.true)
    (laid_then l.invariant (laid_then (laid_byte l.end c.args.between l.out) c.put_number-end.ensures))
