-- `counts::availability_of` meets its contract.
use Rattle.counts.proofs.Sums.{avail_small}
use native.Mathlib.Omega.{arith}
use mathlib.Core.Path.{ap}
use Prim.Native.Nat.{◌+◌, ◌*◌, ◌/◌}
use Rattle.rules.specs.Counts.{availability}
use Rattle.counts.proofs.availability_of.Goals as goal

pub returns : goal.returns
unfolding availability
returns c = (
  ap (◌+◌ (c.args.slots / c.args.period * c.args.deadline)) c.min.ensures,
  omega (
    arith,
    avail_small c.args.slots c.args.period c.args.deadline c.requires.0 c.requires.1 c.requires.2,
    c.min.ensures,
  ),
)
