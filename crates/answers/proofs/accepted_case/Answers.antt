-- `answers::accepted_case` meets its contract: the reader's refusal, or the case of the text, whose numbers lie at the start of the rooms.
use Rattle.std.proofs.Common.{rules, sym, ap, arith, ◌∙◌, Ok}
use Rattle.std.proofs.lemmas.Result.{err_from_is_err_and}
use Rattle.legal.specs.Firsts.{clear_gives, fault_gives}
use Rattle.answers.proofs.Faults.{text_refused, text_stands, few_tasks, few_releases, case_taken, case_stands_lem}
use Rattle.answers.proofs.accepted_case.Goals as goal

pub returns-in_err-taken : goal.returns-in_err-taken
returns-in_err-taken c =
    let p = err_from_is_err_and c.from_residual.result c.from_residual.ensures.1 in
    let refused = text_refused _ _ _ _ c.read.ensures.answer _ c.in_err-taken.was (search rules) (search rules) in
    rw (p.1, p.2) (sym (fault_gives _ _ _ refused))

pub overflow_mul-case : goal.overflow_mul-case
overflow_mul-case c = omega (arith, few_tasks _ _ _ _ c.read.ensures.answer _ c.in_ok-taken.was)

pub shared_ref_as_front-case : goal.shared_ref_as_front-case
shared_ref_as_front-case c = omega (arith, few_tasks _ _ _ _ c.read.ensures.answer _ c.in_ok-taken.was)

pub overflow_mul-case-2 : goal.overflow_mul-case-2
overflow_mul-case-2 c = omega (arith, few_releases _ _ _ _ c.read.ensures.answer _ c.in_ok-taken.was)

pub shared_ref_as_front-case-2 : goal.shared_ref_as_front-case-2
shared_ref_as_front-case-2 c = omega (arith, few_releases _ _ _ _ c.read.ensures.answer _ c.in_ok-taken.was)

pub invariant_of-result : goal.invariant_of-result
invariant_of-result c =
    let read = c.read.ensures in
    case_stands_lem _ _ _ _ read.answer _ c.in_ok-taken.was _ _ read.left_tasks read.left_releases

pub returns : goal.returns
returns c =
    let read = c.read.ensures in
    let whole = case_taken _ _ _ _ read.answer _ c.in_ok-taken.was _ _ read.left_tasks read.left_releases in
    let stands = text_stands _ _ _ _ read.answer _ c.in_ok-taken.was in
    ap Ok whole ∙ sym (clear_gives _ _ stands)
