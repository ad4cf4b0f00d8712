-- `blame::Slot::waiting_task` meets its contract: no other overtakes one of the tasks before.
use Rattle.std.proofs.Common.{◌≡◌, ℕ, ◌<◌, []}
use Rattle.lists.specs.Lists.{members}
use Rattle.blame.specs.Blames.{setup_with, overtaking_task}
use Rattle.blame.proofs.Slot.waiting_task.Given as goal

abbrev pub invariant-loop-j : goal.invariant-loop-j
invariant-loop-j l =
    (k : ℕ) → k < l.j → overtaking_task (setup_with l.self []) l.self.clock l.self.run.now (members l.self.named.now) k ≡ 0
