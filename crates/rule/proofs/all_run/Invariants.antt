-- `rule::all_run` meets its contract.
use mathlib.Core.Path.{◌≡◌}
use Rattle.rules.specs.Words.{holds_below}
use Rattle.rules.specs.Slot.{present}
use Rattle.lists.specs.Lists.{members}
use Rattle.rule.specs.NoneWait.{same_at}
use Rattle.rule.proofs.all_run.Given as goal

abbrev pub invariant-loop-i : goal.invariant-loop-i
invariant-loop-i l = l.same ≡ holds_below (same_at (present l.fn.r) (members l.named)) l.i
