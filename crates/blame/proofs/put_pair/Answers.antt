-- `blame::put_pair` meets its contract.
use native.Mathlib.Omega.{arith}
use Rattle.puts.proofs.Puts.{laid_then, laid_length}
use Rattle.reasons.specs.Reasons.{sign_bytes, words}
use Rattle.blame.specs.Blames.{pair_words}
use Rattle.blame.proofs.Texts.{job_short}
use Rattle.blame.proofs.put_pair.Goals as goal

pub put_bytes-running_at-requires : goal.put_bytes-running_at-requires
put_bytes-running_at-requires c =
    let a = c.args in
    omega (arith, job_short a.waiting a.a, laid_length c.put_job-waits_at.ensures, c.put_job-waits_at.ensures.behind)

pub put_job-runs_at-requires : goal.put_job-runs_at-requires
put_job-runs_at-requires c =
    let a = c.args in
    omega (
      arith,
      job_short a.waiting a.a,
      laid_length c.put_job-waits_at.ensures,
      laid_length c.put_bytes-running_at.ensures,
      c.put_job-waits_at.ensures.behind,
      c.put_bytes-running_at.ensures.behind,
    )

pub put_bytes-requires : goal.put_bytes-requires
put_bytes-requires c =
    let a = c.args in
    omega (
      arith,
      job_short a.waiting a.a,
      job_short a.running a.b,
      laid_length c.put_job-waits_at.ensures,
      laid_length c.put_bytes-running_at.ensures,
      laid_length c.put_job-runs_at.ensures,
      c.put_job-waits_at.ensures.behind,
      c.put_bytes-running_at.ensures.behind,
      c.put_job-runs_at.ensures.behind,
    )

pub returns : goal.returns
unfolding pair_words words sign_bytes
returns c =
    laid_then c.put_job-waits_at.ensures
    (laid_then c.put_bytes-running_at.ensures (laid_then c.put_job-runs_at.ensures c.put_bytes.ensures))
