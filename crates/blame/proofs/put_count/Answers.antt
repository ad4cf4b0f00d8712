-- `blame::put_count` meets its contract.
use native.Mathlib.Omega.{arith}
use Rattle.texts.specs.Digits.{at_most_ten}
use Rattle.puts.proofs.Puts.{laid_then, laid_length}
use Rattle.reasons.specs.Reasons.{sign_bytes, words}
use Rattle.blame.specs.Blames.{count_words}
use Rattle.blame.proofs.put_count.Goals as goal

pub put_number-ran_at-requires : goal.put_number-ran_at-requires
put_number-ran_at-requires c = omega (arith, at_most_ten c.args.ran)

pub put_bytes-due_at-requires : goal.put_bytes-due_at-requires
put_bytes-due_at-requires c =
    let a = c.args in
    omega (arith, at_most_ten a.ran, laid_length c.put_number-ran_at.ensures, c.put_number-ran_at.ensures.behind)

pub put_number-end-requires : goal.put_number-end-requires
put_number-end-requires c =
    let a = c.args in
    omega (
      arith,
      at_most_ten a.ran,
      at_most_ten a.due,
      laid_length c.put_number-ran_at.ensures,
      laid_length c.put_bytes-due_at.ensures,
      c.put_number-ran_at.ensures.behind,
      c.put_bytes-due_at.ensures.behind,
    )

pub put_bytes-requires : goal.put_bytes-requires
put_bytes-requires c =
    let a = c.args in
    omega (
      arith,
      at_most_ten a.ran,
      at_most_ten a.due,
      laid_length c.put_number-ran_at.ensures,
      laid_length c.put_bytes-due_at.ensures,
      laid_length c.put_number-end.ensures,
      c.put_number-ran_at.ensures.behind,
      c.put_bytes-due_at.ensures.behind,
      c.put_number-end.ensures.behind,
    )

pub returns : goal.returns
unfolding count_words words sign_bytes
returns c =
    laid_then c.put_number-ran_at.ensures
    (laid_then c.put_bytes-due_at.ensures (laid_then c.put_number-end.ensures c.put_bytes.ensures))
