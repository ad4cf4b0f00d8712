-- `blame::Slot::overtaking_task` meets its contract: none of the tasks before overtakes.
use Rattle.std.proofs.Common.{◌≡◌, ℕ, ◌<◌, false, []}
use Rattle.rules.specs.Log.{wronged}
use Rattle.lists.specs.Lists.{members}
use Rattle.blame.specs.Blames.{setup_with}
use Rattle.blame.proofs.Slot.overtaking_task.Given as goal

abbrev pub invariant-loop-i : goal.invariant-loop-i
invariant-loop-i l =
    (k : ℕ) → k < l.i → wronged (setup_with l.self []) l.self.clock l.self.run.now (members l.self.named.now) l.j k ≡ false
