-- `blame::put_waiting` meets its contract: no task waits, or one does and another overtakes it.
use Rattle.reasons.specs.Reasons.{sign_bytes, words}
use Rattle.blame.proofs.Blamed.{none_waits, one_waits}
use Rattle.blame.proofs.put_waiting.Goals as goal

pub returns-in_default : goal.returns-in_default
unfolding words sign_bytes
returns-in_default c = λ table. none_waits _ _ _ _ (c.in_default.ensures table) c.put_bytes.ensures

pub returns : goal.returns
returns c =
    let w = c.in-Some.ensures in
    λ table. one_waits _ _ _ _ _ _ (w.1 table) (w.2.1 table) (rw (← c.job-a.ensures, ← c.job-b.ensures) c.put_pair.ensures)
