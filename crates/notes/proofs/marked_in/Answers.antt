-- `notes::marked_in` meets its contract.
use native.Mathlib.Omega.{arith}
use mathlib.Core.Path.{refl}
use Prim.Native.Nat.{◌*◌}
use lib.ListN.{get_or}
use lib.Dec.{eqb}
use Rattle.std.proofs.lemmas.Grind.{common_steps}
use Rattle.rules.specs.Words.{sum}
use Rattle.rules.specs.Limits.{record_width}
use Rattle.notes.proofs.Room.{tally}
use Rattle.notes.proofs.marked_in.Goals as goal

pub loop-j-init : goal.loop-j-init
unfolding sum
loop-j-init c = (omega arith, refl)

pub loop-j-preserved : goal.loop-j-preserved
loop-j-preserved c =
    let t = tally (λ k. eqb (get_or c.args.out.now (k * record_width) 0) c.args.v) c.loop-j.j in
    grind (arith, common_steps)
