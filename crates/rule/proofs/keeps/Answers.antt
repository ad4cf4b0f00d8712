-- `rule::keeps` meets its contract: each way through the pass, and what its end tells.
use mathlib.Core.Path.{sym, ◌∙◌}
use native.Mathlib.Omega.{arith}
use Rattle.std.proofs.lemmas.Bool.{lt-leb}
use Rattle.rules.specs.Slot.{setup_of}
use Rattle.rule.specs.NoneWait.{none_waits}
use Rattle.rule.proofs.Passing.{passing_none, passing_runs, passing_absent, passing_waits, passing_idle, passing_few}
use Rattle.rule.proofs.Passing.{wrong_number, wrong_order, right_order}
use Rattle.choice.proofs.Extremes.{max_is}
use Rattle.rule.proofs.keeps.Goals as goal
use Rattle.rule.proofs.keeps.Goals.{then-named-i+then-there, then-named-i+else-there, else-named-i+then-there-2, else-named-i+else-there-2}

pub returns-then-jobs-procs : goal.returns-then-jobs-procs
returns-then-jobs-procs c = λ table.
    c.all_run.ensures ∙ none_waits (setup_of _ _ table) _ _ _ (omega (arith, c.requires, c.if-jobs-procs.true))

pub loop-i-init : goal.loop-i-init
loop-i-init c = passing_none _ _ _ _

pub overflow_add-count : goal.overflow_add-count
overflow_add-count c =
    let v = c.loop-i.invariant in
    omega (arith, passing_few _ _ _ _ _ _ _ _ _ c.loop-i-test.true v)

pub loop-i-preserved : goal.loop-i-preserved
loop-i-preserved c =
    let v = c.loop-i.invariant in
    let k = c.loop-i-test.true in
    let e = c.has_job-there.ensures in
    elim c.if-named-i.branch [
      | then-named-i+then-there w ↦
          let t = w.turn_of.ensures in
          rw (w.count-is, w.all_there-is, w.waiting-is, w.running-is, w.max-running.ensures, max_is)
          (passing_runs _ _ _ _ _ _ _ _ _ k v _ w.if-named-i.true (sym e ∙ w.if-there.true) t.0 t.1)
      | then-named-i+else-there w ↦
          rw (w.count-is, w.all_there-is, w.waiting-is, w.running-is)
          (passing_absent _ _ _ _ _ _ _ _ _ k v w.if-named-i.true (sym e ∙ w.if-there.false))
      | else-named-i+then-there-2 w ↦
          let t = w.turn_of-then-there-2.ensures in
          rw (w.count-is, w.all_there-is, w.waiting-is, w.running-is, w.min-waiting.ensures)
          (passing_waits _ _ _ _ _ _ _ _ _ k v _ w.if-named-i.false (sym e ∙ w.if-there-2.true) t.0 t.1)
      | else-named-i+else-there-2 w ↦
          rw (w.count-is, w.all_there-is, w.waiting-is, w.running-is)
          (passing_idle _ _ _ _ _ _ _ _ _ k v w.if-named-i.false (sym e ∙ w.if-there-2.false))
    ]

pub returns-then-count-procs : goal.returns-then-count-procs
returns-then-count-procs c = λ table.
    wrong_number (setup_of _ _ table) _ _ _ _ _ _ _ _ _ c.loop-i-test.false c.loop-i.invariant c.requires
    (λ e. omega (arith, e, c.if-count-procs.true, c.if-jobs-procs.false))

pub returns-then-running-waiting : goal.returns-then-running-waiting
returns-then-running-waiting c = λ table.
    right_order (setup_of _ _ table) _ _ _ _ _ _ _ _ _ c.loop-i-test.false c.loop-i.invariant c.requires
    (omega (arith, c.if-count-procs.false, c.if-jobs-procs.false)) c.if-running-waiting.true

pub returns-else-running-waiting : goal.returns-else-running-waiting
returns-else-running-waiting c = λ table.
    lt-leb _ _ c.if-running-waiting.false
    ∙ wrong_order (setup_of _ _ table) _ _ _ _ _ _ _ _ _ c.loop-i-test.false c.loop-i.invariant c.requires c.if-running-waiting.false
