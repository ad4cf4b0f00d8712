-- `counts::counts` meets its contract: a refusal leaves the room, else the free counts are laid in it.
use Rattle.std.proofs.Common.{ap, sym, ◌∙◌, [], ◌∷◌, ℕ}
use Rattle.std.proofs.lemmas.Result.{err_from_is_err_and}
use Rattle.rules.specs.Answers.{result}
use Rattle.rules.specs.Calls.{counts_answer, counts_room}
use Rattle.legal.specs.Firsts.{clear_checked}
use Rattle.legal.specs.Settled.{refuses_with, leaves_with, settles_with, puts_with}
use Rattle.legal.specs.Legal.{counts_clear}
use Rattle.counts.proofs.counts.Goals as goal

pub returns-in_err-counts_fault : goal.returns-in_err-counts_fault
unfolding counts_answer counts_room
returns-in_err-counts_fault c =
    let p = err_from_is_err_and c.from_residual.result c.from_residual.ensures.1 in
    let e = sym c.counts_fault.ensures ∙ c.in_err-counts_fault.was in
    rw (p.1, p.2) (record { answer = refuses_with _ _ _ e; left = leaves_with _ _ _ _ e })

pub put_counts-requires : goal.put_counts-requires
put_counts-requires c =
    let w = counts_clear _ _ _ (clear_checked _ (sym c.counts_fault.ensures ∙ c.in_ok-counts_fault.was)) in
    (w.sound, w.procs, w.roomy)

pub returns : goal.returns
unfolding counts_answer counts_room
returns c =
    let e = sym c.counts_fault.ensures ∙ c.in_ok-counts_fault.was in
    record {
      answer = ap (λ (n : ℕ). result (n ∷ [])) c.task_count.ensures ∙ settles_with _ _ e;
      left = c.put_counts.ensures ∙ puts_with _ _ _ e;
    }
