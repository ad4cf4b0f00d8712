-- `writer::put_case` meets its contract: the three parts of the text, one behind the other.
use Rattle.std.proofs.Common.{◌+◌, ◌≤◌, ap, ◌++◌, length, arith, length-append, ℕ, List}
use Rattle.rules.specs.Case.{task_count, case_of}
use Rattle.rules.specs.Limits.{task_width}
use Rattle.rules.specs.Writer.{case_text}
use Rattle.puts.proofs.Puts.{laid_then}
use Rattle.writer.specs.Rows.{rows_text, head_text, tail_text}
use Rattle.writer.proofs.Texts.{case_parts}
use Rattle.writer.proofs.put_case.Goals as goal

-- the three parts have room
parts_fit : (m p : ℕ) (ts : List ℕ) (e : ℕ) (rs : List ℕ) (room : ℕ) → length (case_text (case_of m p ts e rs)) ≤ room
    → length (head_text m p) + length (rows_text 3 task_width ts (task_count ts)) + length (tail_text e rs) ≤ room
parts_fit m p ts e rs room h =
    let tasks = rows_text 3 task_width ts (task_count ts) in
    let tail = tail_text e rs in
    omega (arith, ap length (case_parts m p ts e rs), length-append (head_text m p) (tasks ++ tail), length-append tasks tail)

pub put_head-tasks-requires : goal.put_head-tasks-requires
put_head-tasks-requires c = omega (arith, parts_fit _ _ _ _ _ _ (rw (← c.case.view_is) at c.requires))

pub put_rows-tail-requires : goal.put_rows-tail-requires
put_rows-tail-requires c =
    let parts = parts_fit _ _ _ _ _ _ (rw (← c.case.view_is) at c.requires) in
    let head = c.put_head-tasks in record {
      width_in_bounds = omega arith;
      rows_in_bounds = omega (
        arith,
        parts,
        head.auto.out,
        head.ensures.behind,
      );
    }

pub put_tail-requires : goal.put_tail-requires
put_tail-requires c =
    let parts = parts_fit _ _ _ _ _ _ (rw (← c.case.view_is) at c.requires) in
    let head = c.put_head-tasks in
    let tasks = c.put_rows-tail in
    omega (
      arith,
      parts,
      head.auto.out,
      head.ensures.behind,
      tasks.auto.out,
      tasks.ensures.behind,
    )

pub returns : goal.returns
returns c =
    let f = c.case.inside in
    rw (← c.case.view_is, ← case_parts f.procs f.policy f.table.now f.end f.trace.now)
    (laid_then c.put_head-tasks.ensures (laid_then c.put_rows-tail.ensures c.put_tail.ensures))
