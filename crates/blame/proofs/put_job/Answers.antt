-- `blame::put_job` meets its contract.
use native.Mathlib.Omega.{arith}
use Rattle.texts.specs.Digits.{at_most_ten}
use Rattle.puts.proofs.Puts.{laid_then, laid_length}
use Rattle.reasons.specs.Reasons.{sign_bytes, words}
use Rattle.blame.specs.Blames.{job_words}
use Rattle.blame.proofs.Texts.{kind_short}
use Rattle.blame.proofs.put_job.Goals as goal

pub put_number-kind_at-requires : goal.put_number-kind_at-requires
put_number-kind_at-requires c =
    let a = c.args in
    omega (arith, at_most_ten a.task, laid_length c.put_bytes-task_at.ensures, c.put_bytes-task_at.ensures.behind)

pub put_kind-due_at-requires : goal.put_kind-due_at-requires
put_kind-due_at-requires c =
    let a = c.args in
    omega (
      arith,
      at_most_ten a.task,
      laid_length c.put_bytes-task_at.ensures,
      laid_length c.put_number-kind_at.ensures,
      c.put_bytes-task_at.ensures.behind,
      c.put_number-kind_at.ensures.behind,
    )

pub put_number-end-requires : goal.put_number-end-requires
put_number-end-requires c =
    let a = c.args in
    omega (
      arith,
      at_most_ten a.task,
      at_most_ten c.due_of.result,
      kind_short a.j,
      laid_length c.put_bytes-task_at.ensures,
      laid_length c.put_number-kind_at.ensures,
      laid_length c.put_kind-due_at.ensures,
      c.put_bytes-task_at.ensures.behind,
      c.put_number-kind_at.ensures.behind,
      c.put_kind-due_at.ensures.behind,
    )

pub put_bytes-requires : goal.put_bytes-requires
put_bytes-requires c =
    let a = c.args in
    omega (
      arith,
      at_most_ten a.task,
      at_most_ten c.due_of.result,
      kind_short a.j,
      laid_length c.put_bytes-task_at.ensures,
      laid_length c.put_number-kind_at.ensures,
      laid_length c.put_kind-due_at.ensures,
      laid_length c.put_number-end.ensures,
      c.put_bytes-task_at.ensures.behind,
      c.put_number-kind_at.ensures.behind,
      c.put_kind-due_at.ensures.behind,
      c.put_number-end.ensures.behind,
    )

pub returns : goal.returns
unfolding job_words words sign_bytes
returns c =
    rw (← c.due_of.ensures)
    (laid_then c.put_bytes-task_at.ensures
    (laid_then c.put_number-kind_at.ensures
    (laid_then c.put_kind-due_at.ensures (laid_then c.put_number-end.ensures c.put_bytes.ensures))))
