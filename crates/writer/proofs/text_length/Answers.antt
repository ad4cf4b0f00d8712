-- `writer::text_length` meets its contract: the sum of what the lines take.
use native.Mathlib.Omega.{arith}
use Rattle.writer.proofs.Texts.{case_length}
use Rattle.writer.proofs.text_length.Goals as goal

pub returns : goal.returns
returns c =
    let f = c.case.inside in
    rw (← c.case.view_is)
    (omega (
      arith,
      case_length f.procs f.policy f.table.now f.end f.trace.now (rw (← c.case.view_is) at c.requires),
      c.width.ensures,
      c.policy_width.ensures,
      c.numbers_width.ensures,
      c.numbers_width-2.ensures,
      c.width-2.ensures,
    ))
