-- `engine::running` meets its contract: the set that ran last before the time after the named slot is that slot's.
use Rattle.std.proofs.Common.{ap, sym, ◌∙◌, [], ◌∷◌, ℕ, arith, add-one}
use Rattle.std.proofs.lemmas.Result.{err_from_is_err_and}
use Rattle.rules.specs.Answers.{result}
use Rattle.rules.specs.Calls.{running_answer}
use Rattle.legal.specs.Firsts.{clear_checked, given_clear, given_fault}
use Rattle.legal.specs.Legal.{legal, running_clear}
use Rattle.legal.specs.Settled.{refuses_with, settles_with}
use Rattle.engine.proofs.Powers.{array_number}
use Rattle.engine.proofs.running.Goals as goal

pub returns-in_err-accepted : goal.returns-in_err-accepted
unfolding running_answer
returns-in_err-accepted c =
    let p = err_from_is_err_and c.from_residual.result c.from_residual.ensures.1 in
    let e = given_fault _ _ _ (sym c.accept_running.ensures ∙ c.in_err-accepted.was) in
    rw (p.1, p.2) (record { answer = refuses_with _ _ _ e })

pub overflow_add-slot : goal.overflow_add-slot
overflow_add-slot c =
    let given = given_clear _ _ _ (sym c.accept_running.ensures ∙ c.in_ok-accepted.was) in
    let w = running_clear _ _ (clear_checked _ given.0) in
    omega (arith, w.1, (legal _ w.0).end_small)

pub walk-ran-requires-clause-until_le_end : goal.walk-ran-requires-clause-until_le_end
walk-ran-requires-clause-until_le_end c =
    let given = given_clear _ _ _ (sym c.accept_running.ensures ∙ c.in_ok-accepted.was) in
    let w = running_clear _ _ (clear_checked _ given.0) in
    rw (← given.1) (omega (arith, w.1))

pub returns : goal.returns
unfolding running_answer
returns c =
    let given = given_clear _ _ _ (sym c.accept_running.ensures ∙ c.in_ok-accepted.was) in
    let last = rw (← given.1) at c.walk-ran.ensures.0 in
    record {
      answer = ap (λ (n : ℕ). result (n ∷ [])) (c.set_number.ensures ∙ array_number _ _ (last _ (add-one _)))
          ∙ settles_with _ _ given.0;
    }
