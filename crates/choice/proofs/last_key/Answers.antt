-- `choice::last_key` meets its contract: each way through the pass, and what its end tells.
use mathlib.Core.Path.{◌≡◌, refl, sym, ◌∙◌}
use native.Mathlib.Omega.{arith}
use Rattle.rules.specs.Limits.{max_tasks}
use Rattle.choice.proofs.Extremes.{max_is, greatest}
use Rattle.choice.proofs.Passes.{last_take, last_keep, last_idle, last_all}
use Rattle.choice.proofs.last_key.Goals as goal
use Rattle.choice.proofs.last_key.Goals.{then-has_job+then-key-bound, then-has_job+else-key-bound, else-has_job}

pub loop-i-init : goal.loop-i-init
unfolding greatest
loop-i-init c = refl

pub loop-i-preserved : goal.loop-i-preserved
loop-i-preserved c =
    let v = c.loop-i.invariant in
    let e = c.has_job.ensures in
    elim c.if-has_job.branch [
      | then-has_job+then-key-bound w ↦
          w.greatest-is ∙ w.max-greatest.ensures ∙ max_is _ _
          ∙ last_take _ _ _ _ _ _ v _ (sym e ∙ w.if-has_job.true) w.key_of-key.ensures w.if-key-bound.true
      | then-has_job+else-key-bound w ↦ w.greatest-is ∙ last_keep _ _ _ _ _ _ v _ w.key_of-key.ensures w.if-key-bound.false
      | else-has_job w ↦ w.greatest-is ∙ last_idle c.args.policy c.args.clock _ _ _ _ v (sym e ∙ w.if-has_job.false)
    ]

pub returns : goal.returns
returns c =
    let done : c.loop-i.i ≡ max_tasks = omega (arith, c.loop-i-test.false) in
    last_all _ _ _ _ _ c.requires (rw done at c.loop-i.invariant)
