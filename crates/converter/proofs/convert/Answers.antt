-- `converter::convert` meets its contract: the text is at fault, the size of the converted one is, or nothing is.
use Rattle.std.proofs.Common.{length, sym, ap, ◌∙◌, arith}
use Rattle.std.proofs.lemmas.Result.{err_from_is_err_and}
use mathlib.Core.Path.{subst}
use Rattle.rules.specs.Refusals.{checked}
use Rattle.legal.specs.Firsts.{clear_checked}
use Rattle.texts.specs.Passing.{text_clear}
use Rattle.conversion.specs.Conversion.{converts}
use Rattle.puts.specs.Laid.{Laid}
use Rattle.converter.proofs.Converting.{line_few, within, put_there, put_long, text_at_fault, sized}
use Rattle.converter.proofs.Converting.{refusing, converting}
use Rattle.converter.proofs.convert.Goals as goal

pub returns-in_err-text_fault : goal.returns-in_err-text_fault
returns-in_err-text_fault c =
    let p = err_from_is_err_and c.from_residual.result c.from_residual.ensures.1 in
    rw (p.1, p.2) (refusing _ _ _ (text_at_fault _ _ _ (sym c.text_fault.ensures ∙ c.in_err-text_fault.was)))

pub overflow_add-at : goal.overflow_add-at
overflow_add-at c =
    let clear = clear_checked _ (sym c.text_fault.ensures ∙ c.in_ok-text_fault.was) in
    omega (arith, within _ clear _ c.line_end-at.ensures, (text_clear _ clear).short)

pub policy_at-given-requires : goal.policy_at-given-requires
policy_at-given-requires c =
    let clear = clear_checked _ (sym c.text_fault.ensures ∙ c.in_ok-text_fault.was) in
    omega (arith, within _ clear _ c.line_end-at.ensures)

pub size_fault-requires : goal.size_fault-requires
size_fault-requires c =
    let clear = clear_checked _ (sym c.text_fault.ensures ∙ c.in_ok-text_fault.was) in
    record { length_le_max_text = (text_clear _ clear).short; more_le_max_text = line_few _ _ c.added.ensures }

pub returns-in_err-size_fault : goal.returns-in_err-size_fault
returns-in_err-size_fault c =
    let p = err_from_is_err_and c.from_residual-in_err-size_fault.result c.from_residual-in_err-size_fault.ensures.1 in
    let clear = clear_checked _ (sym c.text_fault.ensures ∙ c.in_ok-text_fault.was) in
    let w = sized _ (length c.args.out.now) clear _ c.line_end-at.ensures _ _ c.policy_at-given.ensures c.added.ensures in
    rw (p.1, p.2) (refusing _ _ _ (ap checked w.fault ∙ sym c.size_fault.ensures ∙ c.in_err-size_fault.was))

pub put_converted-requires : goal.put_converted-requires
put_converted-requires c =
    let clear = clear_checked _ (sym c.text_fault.ensures ∙ c.in_ok-text_fault.was) in
    let w = sized _ (length c.args.out.now) clear _ c.line_end-at.ensures _ _ c.policy_at-given.ensures c.added.ensures in
    let none = clear_checked _ (ap checked w.fault ∙ sym c.size_fault.ensures ∙ c.in_ok-size_fault.was) in
    record {
      at_in_bounds = within _ clear _ c.line_end-at.ensures;
      edf_in_bounds = omega (arith, put_long _ clear _ w.given_is, (converts _ _ none).fits);
    }

pub returns : goal.returns
returns c =
    let clear = clear_checked _ (sym c.text_fault.ensures ∙ c.in_ok-text_fault.was) in
    let w = sized _ (length c.args.out.now) clear _ c.line_end-at.ensures _ _ c.policy_at-given.ensures c.added.ensures in
    let none = clear_checked _ (ap checked w.fault ∙ sym c.size_fault.ensures ∙ c.in_ok-size_fault.was) in
    let put = c.put_converted in
    converting _ _ _ _ none (converts _ _ none).fits
    (subst (λ t. Laid 0 t c.args.out.now put.new.out put.result) (put_there _ clear _ c.line_end-at.ensures _ w.given_is) put.ensures)
