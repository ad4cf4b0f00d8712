-- `heard::line_end` meets its contract.
use Rattle.feeds.specs.LineScan.{line_end}
use Rattle.heard.proofs.Scanning.{none_ended}
use Rattle.heard.proofs.line_end.Goals as goal

pub returns-in-Word : goal.returns-in-Word
returns-in-Word c = (c.requires, none_ended _ _ _ _ _ _ _ _ c.in-Word.is)

pub returns-in-Time : goal.returns-in-Time
unfolding line_end
returns-in-Time c = (c.end_time.ensures.0, rw c.in-Time.is c.end_time.ensures.1)

pub returns-in-Task : goal.returns-in-Task
unfolding line_end
returns-in-Task c = (c.end_task.ensures.0, rw c.in-Task.is c.end_task.ensures.1)

pub returns-in-Returned : goal.returns-in-Returned
unfolding line_end
returns-in-Returned c = (c.requires, rw c.in-Returned.is)
