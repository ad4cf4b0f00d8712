-- `writer::write` meets its contract: a case at fault, no room, or the text.
use Rattle.std.proofs.Common.{sym, ◌∙◌}
use Rattle.std.proofs.lemmas.Result.{err_from_is_err_and}
use Rattle.legal.specs.Firsts.{clear_checked}
use Rattle.legal.specs.Passing.{room_clear}
use Rattle.writer.proofs.Answers.{whole, case_at_fault, then_room, refused, written}
use Rattle.writer.proofs.write.Goals as goal

pub returns-in_err-case_fault : goal.returns-in_err-case_fault
returns-in_err-case_fault c =
    let p = err_from_is_err_and c.from_residual.result c.from_residual.ensures.1 in
    rw (p.1, p.2) (refused _ _ _ (case_at_fault c.args.case.now _ _ (sym c.case_fault.ensures ∙ c.in_err-case_fault.was)))

pub text_length-requires : goal.text_length-requires
text_length-requires c = whole c.args.case.now (clear_checked _ (sym c.case_fault.ensures ∙ c.in_ok-case_fault.was))

pub returns-in_err-room_fault : goal.returns-in_err-room_fault
returns-in_err-room_fault c =
    let p = err_from_is_err_and c.from_residual-in_err-room_fault.result c.from_residual-in_err-room_fault.ensures.1 in
    let no_room = rw c.text_length.ensures at (sym c.room_fault.ensures ∙ c.in_err-room_fault.was) in
    let legal = sym c.case_fault.ensures ∙ c.in_ok-case_fault.was in
    rw (p.1, p.2) (refused _ _ _ (then_room c.args.case.now _ legal ∙ no_room))

pub put_case-requires : goal.put_case-requires
put_case-requires c = room_clear _ _ (clear_checked _ (rw c.text_length.ensures at (sym c.room_fault.ensures ∙ c.in_ok-room_fault.was)))

pub returns : goal.returns
returns c =
    let legal = sym c.case_fault.ensures ∙ c.in_ok-case_fault.was in
    let fits = rw c.text_length.ensures at (sym c.room_fault.ensures ∙ c.in_ok-room_fault.was) in
    written _ _ _ _ (then_room c.args.case.now _ legal ∙ fits) (room_clear _ _ (clear_checked _ fits)) c.put_case.ensures
