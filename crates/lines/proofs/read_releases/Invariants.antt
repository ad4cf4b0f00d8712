-- `lines::read_releases` meets its contract.
use Prim.Native.Nat.{◌-◌}
use lib.ListN.{length}
use Rattle.lines.proofs.Releasing.{Releasing}
use Rattle.lines.proofs.read_releases.Given as goal

abbrev pub invariant-loop-next : goal.invariant-loop-next
invariant-loop-next l = Releasing l.text l.at l.n l.next l.line l.releases l.trace

abbrev pub decreases-loop-next : goal.decreases-loop-next
decreases-loop-next l = length l.text - l.next
