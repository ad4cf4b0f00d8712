-- `lines::head_line` meets its contract: the line is missing, at fault, or read.
use Rattle.std.proofs.Common.{sym, ◌∙◌}
use Rattle.std.proofs.lemmas.Result.{err_from_is_err_and}
use Rattle.lines.proofs.Heading.{line_there, head_missing, head_stop, head_more}
use Rattle.lines.proofs.head_line.Goals as goal

pub returns-in_err-refuse_unless : goal.returns-in_err-refuse_unless
returns-in_err-refuse_unless c =
    let p = err_from_is_err_and c.from_residual.result c.from_residual.ensures.1 in
    let w = c.requires.in_head in
    rw (p.1, p.2)
    record {
      told = head_missing _ _ _ w _ c.requires.before_bound (sym c.refuse_unless.ensures ∙ c.in_err-refuse_unless.was);
      long = w.tasks.long;
    }

pub returns-in_err-line_fault : goal.returns-in_err-line_fault
returns-in_err-line_fault c =
    let p = err_from_is_err_and c.from_residual-in_err-line_fault.result c.from_residual-in_err-line_fault.ensures.1 in
    let w = c.requires.in_head in
    let there = line_there _ _ _ (sym c.refuse_unless.ensures ∙ c.in_ok-refuse_unless.was) in
    rw (p.1, p.2)
    record {
      told = head_stop _ _ _ w _ _ there c.next_line-step.ensures (sym c.line_fault.ensures ∙ c.in_err-line_fault.was);
      long = w.tasks.long;
    }

pub returns : goal.returns
returns c =
    let there = line_there _ _ _ (sym c.refuse_unless.ensures ∙ c.in_ok-refuse_unless.was) in
    record {
      told = (
        head_more _ _ _ c.requires.in_head _ _ _ _ c.requires.before_bound there c.next_line-step.ensures
            (sym c.line_fault.ensures ∙ c.in_ok-line_fault.was) c.head_with.ensures c.keep_row.ensures,
        c.next_line-step.ensures.on,
      );
      long = c.keep_row.ensures.whole.long;
    }
