-- `counts::put_counts` meets its contract: the loop lays the free counts over what the slice held.
use Prim.Native.Nat.{◌<◌}
use native.Mathlib.Omega.{arith}
use lib.ListN.{length}
use Rattle.lists.specs.Fill.{laying_none, laying_store}
use Rattle.counts.proofs.put_counts.Goals as goal

pub loop-i-init : goal.loop-i-init
loop-i-init c = laying_none _ _

pub loop-i-preserved : goal.loop-i-preserved
loop-i-preserved c =
    let l : c.loop-i.i < length c.args.out.now = omega (arith, c.requires.2, c.task_count-i-end.ensures) in
    laying_store _ _ _ _ 0 _ l c.loop-i.invariant c.free_count.ensures
