-- `blame::Slot::jobs_now` meets its contract.
use Rattle.std.proofs.Common.{rules}
use Rattle.rules.specs.Slot.{is_present, no_task, present, jobs_now}
use Rattle.rules.specs.declared.Task.{Task}
use Rattle.blame.proofs.Counts.{count_tasks}
use Rattle.blame.proofs.Slot.jobs_now.Goals as goal

pub returns : goal.returns
unfolding jobs_now present
returns c = count_tasks (λ (t : Task). is_present t.job) no_task c.args.self.now.run.now.tasks _ (search rules) (search rules)
