-- `choice::next_key` meets its contract: each way through the pass, and what its end tells.
use mathlib.Core.Path.{◌≡◌, refl, sym, ◌∙◌}
use native.Mathlib.Omega.{arith}
use Rattle.rules.specs.Limits.{max_tasks}
use Rattle.choice.proofs.Extremes.{least}
use Rattle.choice.proofs.Passes.{next_take, next_keep, next_idle, next_all}
use Rattle.choice.proofs.next_key.Goals as goal
use Rattle.choice.proofs.next_key.Goals.{then-has_job+then-bound-key, then-has_job+else-bound-key, else-has_job}

pub loop-i-init : goal.loop-i-init
unfolding least
loop-i-init c = refl

pub loop-i-preserved : goal.loop-i-preserved
loop-i-preserved c =
    let v = c.loop-i.invariant in
    let e = c.has_job.ensures in
    elim c.if-has_job.branch [
      | then-has_job+then-bound-key w ↦
          w.least-is ∙ w.min-least.ensures
          ∙ next_take _ _ _ _ _ _ v _ (sym e ∙ w.if-has_job.true) w.key_of-key.ensures w.if-bound-key.true
      | then-has_job+else-bound-key w ↦ w.least-is ∙ next_keep _ _ _ _ _ _ v _ w.key_of-key.ensures w.if-bound-key.false
      | else-has_job w ↦ w.least-is ∙ next_idle c.args.policy c.args.clock _ _ _ _ v (sym e ∙ w.if-has_job.false)
    ]

pub returns : goal.returns
returns c =
    let done : c.loop-i.i ≡ max_tasks = omega (arith, c.loop-i-test.false) in
    next_all _ _ _ _ _ c.requires.short c.requires.bound_bound (rw done at c.loop-i.invariant)
