-- `choice::mark_below` meets its contract: each task is marked and counted where its key is below the bound.
use mathlib.Core.Path.{sym, ◌∙◌}
use native.Mathlib.Omega.{arith}
use Rattle.rules.specs.Words.{tab}
use Rattle.choice.proofs.Passes.{marks_none, marks_few, marks_yes, marks_no, marks_idle, marks_all}
use Rattle.choice.proofs.mark_below.Goals as goal
use Rattle.choice.proofs.mark_below.Goals.{then-has_job+then-key_of-bound, then-has_job+else-key_of-bound, else-has_job}

pub loop-i-init : goal.loop-i-init
unfolding tab
loop-i-init c = marks_none _ _ _ _

pub overflow_add-n : goal.overflow_add-n
overflow_add-n c =
    let v = c.loop-i.invariant in
    omega (arith, marks_few _ _ _ _ _ _ _ v, c.loop-i-test.true)

pub loop-i-preserved : goal.loop-i-preserved
loop-i-preserved c =
    let v = c.loop-i.invariant in
    let k = c.loop-i-test.true in
    let e = c.has_job.ensures in
    elim c.if-has_job.branch [
      | then-has_job+then-key_of-bound w ↦
          rw (w.runs-is, w.n-is)
          (marks_yes _ _ _ _ _ _ _ v k _ (sym e ∙ w.if-has_job.true) w.key_of.ensures (omega arith))
      | then-has_job+else-key_of-bound w ↦ rw (w.runs-is, w.n-is) (marks_no _ _ _ _ _ _ _ v k _ w.key_of.ensures (omega arith))
      | else-has_job w ↦ rw (w.runs-is, w.n-is) (marks_idle _ _ _ _ _ _ _ v k (sym e ∙ w.if-has_job.false))
    ]

pub returns : goal.returns
returns c = marks_all _ _ _ _ _ _ _ c.loop-i.invariant c.loop-i-test.false
