-- `answers::fault_of` meets its contract.
use Rattle.std.proofs.Common.{refl, sym, ap, ◌∙◌}
use Rattle.std.proofs.lemmas.Result.{err_from_is_err_and}
use Rattle.rules.specs.Case.{Case}
use Rattle.answers.proofs.Faults.{text_refused, text_stands, case_taken, wish_refused, wish_asked}
use Rattle.answers.proofs.fault_of.Goals as goal

pub returns-in_err-taken : goal.returns-in_err-taken
returns-in_err-taken c =
    let p = err_from_is_err_and c.from_residual.result c.from_residual.ensures.1 in
    let refused = text_refused _ _ _ _ c.read.ensures.answer _ c.in_err-taken.was refl refl in
    rw (p.1, p.2) (sym (wish_refused c.args.wish _ _ refused))

pub returns : goal.returns
returns c =
    let read = c.read.ensures in
    let whole = case_taken _ _ _ _ read.answer _ c.in_ok-taken.was _ _ read.left_tasks read.left_releases in
    let stands = text_stands _ _ _ _ read.answer _ c.in_ok-taken.was in
    c.asked_fault.ensures ∙ wish_asked c.args.wish _ _ stands (ap (λ (v : Case). v.end) whole)
