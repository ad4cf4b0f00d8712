-- `counts::count_of` meets its contract.
use native.Mathlib.Omega.{arith}
use mathlib.Core.List.{List}
use mathlib.Core.Path.{◌≡◌, refl, ap, ◌∙◌}
use Prim.Native.Nat.{ℕ}
use Rattle.rules.specs.Words.{sum}
use Rattle.rules.specs.Case.{task_count, period, deadline}
use Rattle.rules.specs.Counts.{availability, availabilities}
use Rattle.counts.proofs.Sums.{added, count_is}
use Rattle.counts.proofs.count_of.Goals as goal

pub loop-i-init : goal.loop-i-init
unfolding sum
loop-i-init c = (omega arith, refl)

pub loop-i-preserved : goal.loop-i-preserved
loop-i-preserved c =
    let v = c.loop-i.invariant in
    let e = c.availability_of-sum.ensures in (
      omega (arith, e.1, v.0),
      added c.args.table.now _ c.loop-i.i _ _ _ _ v.1 c.period_of-period.ensures c.deadline_of-deadline.ensures e.0,
    )

pub returns : goal.returns
unfolding availabilities
returns c =
    let table : List ℕ = c.args.table.now in
    -- the sum over all tasks
    let whole : c.loop-i.i ≡ task_count table = omega (arith, c.task_count-i-end.ensures) in
    let summed : c.loop-i.sum ≡ availabilities table c.args.slots =
    c.loop-i.invariant.1 ∙ ap (sum (λ i. availability (period table i) (deadline table i) c.args.slots) 0) whole in
    c.saturating_sub.ensures ∙ count_is _ _ _ _ summed
