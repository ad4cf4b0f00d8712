-- `blame::Slot::absent_task` meets its contract: none of the tasks before is absent.
use Rattle.std.proofs.Common.{◌≡◌, ℕ, ◌<◌, ◌&&◌, not, false}
use Rattle.rules.specs.Slot.{present}
use Rattle.lists.specs.Lists.{members}
use Rattle.blame.proofs.Slot.absent_task.Given as goal

abbrev pub invariant-loop-i : goal.invariant-loop-i
invariant-loop-i l = (k : ℕ) → k < l.i → (members l.self.named.now k && not (present l.self.run.now k)) ≡ false
