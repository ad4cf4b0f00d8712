-- `reader::put_numbers` meets its contract.
use Rattle.reader.proofs.Copies.{Copying}
use Rattle.reader.proofs.put_numbers.Given as goal

abbrev pub invariant-loop-i : goal.invariant-loop-i
invariant-loop-i l = Copying l.initial.room l.numbers l.room l.i
