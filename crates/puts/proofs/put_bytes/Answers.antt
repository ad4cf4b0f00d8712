-- `puts::put_bytes` meets its contract: the bytes passed are stored.
use native.Mathlib.Omega.{arith}
use lib.ListN.{length-set}
use Rattle.puts.proofs.Puts.{sets_suc}
use Rattle.puts.proofs.put_bytes.Goals as goal

pub loop-i-preserved : goal.loop-i-preserved
loop-i-preserved c =
    let l = c.loop-i in
    let a = c.args in (
      simp length-set l.invariant.0,
      rw l.invariant.1 (sets_suc a.out.now a.s.now a.at l.i (omega arith)),
    )
