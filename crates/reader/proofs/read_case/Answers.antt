-- `reader::read_case` meets its contract: the text is too long, a line is at fault, or the check of the case decides.
use Rattle.std.proofs.Common.{sym, ◌∙◌}
use Rattle.std.proofs.lemmas.Result.{err_from_is_err_and}
use Rattle.rules.specs.Reader.{length_fault}
use Rattle.reader.proofs.Answered.{text_long, text_line}
use Rattle.reader.proofs.Kept.{reads_fault, reads_case}
use Rattle.reader.proofs.read_case.Goals as goal

pub returns-in_err-length_fault : goal.returns-in_err-length_fault
unfolding length_fault
returns-in_err-length_fault c =
    let p = err_from_is_err_and c.from_residual.result c.from_residual.ensures.1 in
    rw (p.1, p.2)
    record {
      told = text_long _ _ (sym c.length_fault.ensures ∙ c.in_err-length_fault.was);
      table_long = c.requires.table_len;
      trace_long = c.requires.trace_len;
    }

pub returns-in_err-found : goal.returns-in_err-found
unfolding length_fault
returns-in_err-found c =
    let p = err_from_is_err_and c.from_residual-in_err-found.result c.from_residual-in_err-found.ensures.1 in
    let g = c.gather.ensures in
    let short = sym c.length_fault.ensures ∙ c.in_ok-length_fault.was in
    rw (p.1, p.2)
    record {
      told = text_line _ short _ (rw c.in_err-found.was at g.told);
      table_long = g.table_long;
      trace_long = g.trace_long;
    }

pub returns-in_err-case_fault : goal.returns-in_err-case_fault
unfolding length_fault
returns-in_err-case_fault c =
    let p = err_from_is_err_and c.from_residual-in_err-case_fault.result c.from_residual-in_err-case_fault.ensures.1 in
    let g = c.gather.ensures in
    let short = sym c.length_fault.ensures ∙ c.in_ok-length_fault.was in
    rw (p.1, p.2)
    record {
      told = reads_fault _ _ _ _ short (rw c.in_ok-found.was at g.told) _ (sym c.case_fault.ensures ∙ c.in_err-case_fault.was);
      table_long = g.table_long;
      trace_long = g.trace_long;
    }

pub returns : goal.returns
unfolding length_fault
returns c =
    let g = c.gather.ensures in
    let short = sym c.length_fault.ensures ∙ c.in_ok-length_fault.was in
    record {
      told = reads_case _ _ _ _ short (rw c.in_ok-found.was at g.told) (sym c.case_fault.ensures ∙ c.in_ok-case_fault.was);
      table_long = g.table_long;
      trace_long = g.trace_long;
    }
