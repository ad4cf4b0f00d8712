-- `blame::Slot::ran_count` meets its contract.
use Rattle.std.proofs.Common.{rules, false}
use Rattle.blame.proofs.Counts.{count_tasks}
use Rattle.blame.proofs.Slot.ran_count.Goals as goal

pub returns : goal.returns
returns c = count_tasks (λ b. b) false c.args.self.now.named.now _ (search rules) (search rules)
