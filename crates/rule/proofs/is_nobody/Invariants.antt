-- `rule::is_nobody` meets its contract.
use mathlib.Core.Path.{◌≡◌}
use Rattle.rules.specs.Words.{holds_below}
use Rattle.lists.specs.Lists.{members}
use Rattle.rule.specs.NoneWait.{absent}
use Rattle.rule.proofs.is_nobody.Given as goal

abbrev pub invariant-loop-is_named : goal.invariant-loop-is_named
invariant-loop-is_named l = l.none ≡ holds_below (absent (members l.named)) l.is_named-index
