-- `blame::put_absent` meets its contract.
use native.Mathlib.Omega.{arith}
use Rattle.texts.specs.Digits.{at_most_ten}
use Rattle.puts.proofs.Puts.{laid_then, laid_length}
use Rattle.reasons.specs.Reasons.{sign_bytes, words}
use Rattle.blame.specs.Blames.{absent_words}
use Rattle.blame.proofs.put_absent.Goals as goal

pub put_number-runs_at-requires : goal.put_number-runs_at-requires
put_number-runs_at-requires c =
    let a = c.args in
    omega (arith, at_most_ten a.task, laid_length c.put_bytes-task_at.ensures, c.put_bytes-task_at.ensures.behind)

pub put_bytes-requires : goal.put_bytes-requires
put_bytes-requires c =
    let a = c.args in
    omega (
      arith,
      at_most_ten a.task,
      laid_length c.put_bytes-task_at.ensures,
      laid_length c.put_number-runs_at.ensures,
      c.put_bytes-task_at.ensures.behind,
      c.put_number-runs_at.ensures.behind,
    )

pub returns : goal.returns
unfolding absent_words words sign_bytes
returns c =
    laid_then c.put_bytes-task_at.ensures (laid_then c.put_number-runs_at.ensures c.put_bytes.ensures)
