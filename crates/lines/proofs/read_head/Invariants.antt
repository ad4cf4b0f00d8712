-- `lines::read_head` meets its contract: before each turn the lines read so far stand in the head.
use Prim.Native.Nat.{◌-◌}
use lib.ListN.{length}
use Rattle.lines.specs.Gathers.{InHead}
use Rattle.lines.proofs.read_head.Given as goal

abbrev pub invariant-loop-top : goal.invariant-loop-top
invariant-loop-top l = InHead l.text l.top l.table

abbrev pub decreases-loop-top : goal.decreases-loop-top
decreases-loop-top l = length l.text - l.top.next
