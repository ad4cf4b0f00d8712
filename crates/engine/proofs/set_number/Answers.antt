-- `engine::set_number` meets its contract.
use Rattle.engine.proofs.Powers.{doubling_yes, doubling_no}
use Rattle.engine.proofs.set_number.Goals as goal
use Rattle.engine.proofs.set_number.Goals.{then-runs, else-runs}

pub loop-runs-preserved : goal.loop-runs-preserved
loop-runs-preserved c =
    let v = c.loop-runs.invariant in
    let h = c.loop-runs-test.true in
    elim c.if-runs.branch [
      | then-runs w ↦ rw w.number-is (doubling_yes _ _ _ _ h v w.if-runs.true)
      | else-runs w ↦ rw w.number-is (doubling_no _ _ _ _ h v w.if-runs.false)
    ]
