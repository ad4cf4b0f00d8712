-- `reader::put_numbers` meets its contract.
use Rattle.reader.proofs.Copies.{copying_on}
use Rattle.reader.proofs.put_numbers.Goals as goal

pub loop-i-preserved : goal.loop-i-preserved
loop-i-preserved c = copying_on _ _ c.requires _ _ c.loop-i-test.true c.loop-i.invariant
