-- `blame::put_fault` meets its contract: the first test that finds something.
use mathlib.Core.Bool.{not}
use mathlib.Core.Path.{ap}
use native.Mathlib.Omega.{arith}
use Rattle.rules.specs.Limits.{max_tasks}
use Rattle.lists.specs.Sums.{count_le}
use Rattle.reasons.specs.Reasons.{sign_bytes, words}
use Rattle.lists.specs.Lists.{members}
use Rattle.blame.proofs.Blamed.{no_task_lem, one-absent, wrong_count, right_count}
use Rattle.blame.proofs.put_fault.Goals as goal

pub returns-then-not-names : goal.returns-then-not-names
unfolding words sign_bytes
returns-then-not-names c =
    λ table. no_task_lem _ _ _ _ _ (ap not c.if-not-names.true) c.put_bytes.ensures

pub returns-in-Some : goal.returns-in-Some
returns-in-Some c =
    λ table. one-absent _ _ _ _ _ (ap not c.if-not-names.false) _ c.in-Some.ensures.1 c.put_absent.ensures

pub overflow_cast-ran : goal.overflow_cast-ran
overflow_cast-ran c = omega (arith, c.ran_count-ran.ensures, count_le (members c.args.slot.now.named.now) 0 max_tasks)

pub returns-then-ran-due : goal.returns-then-ran-due
returns-then-ran-due c =
    let ran = c.ran_count-ran.ensures in
    let due = c.due_count-due.ensures in
    λ table. wrong_count _ _ _ _ _ (ap not c.if-not-names.false) c.in_default.ensures ran due c.if-ran-due.true c.put_count.ensures

pub returns : goal.returns
returns c =
    let ran = c.ran_count-ran.ensures in
    let due = c.due_count-due.ensures in
    λ table.
    right_count _ _ _ _ _ (ap not c.if-not-names.false) c.in_default.ensures ran due c.if-ran-due.false (c.put_waiting.ensures table)
