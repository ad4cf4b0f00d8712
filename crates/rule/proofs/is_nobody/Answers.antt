-- `rule::is_nobody` meets its contract.
use mathlib.Core.Path.{refl}
use Rattle.rules.specs.Words.{holds_below}
use Rattle.lists.specs.Holds.{holds_more}
use Rattle.rule.proofs.is_nobody.Goals as goal

pub loop-is_named-init : goal.loop-is_named-init
unfolding holds_below
loop-is_named-init c = refl

pub loop-is_named-preserved : goal.loop-is_named-preserved
loop-is_named-preserved c = holds_more _ _ _ _ c.loop-is_named.invariant refl
