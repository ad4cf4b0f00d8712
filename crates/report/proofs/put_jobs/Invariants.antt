-- `report::put_jobs` meets its contract: the lines of the releases passed are laid, each in the part from the present end on.
use Rattle.prints.specs.Lines.{job_room}
use Rattle.report.specs.Cases.{job_text, Listed}
use Rattle.report.proofs.put_jobs.Given as goal

abbrev pub invariant-loop-j : goal.invariant-loop-j
invariant-loop-j l = Listed (job_text l.table l.trace l.records) job_room l.at l.j l.initial.out l.out l.end
