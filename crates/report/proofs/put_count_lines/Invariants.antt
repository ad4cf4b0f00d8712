-- `report::put_count_lines` meets its contract: the lines of the tasks passed are laid, each in the part from the present end on.
use Rattle.prints.specs.Lines.{line_room}
use Rattle.report.specs.Cases.{count_text, Listed}
use Rattle.report.proofs.put_count_lines.Given as goal

abbrev pub invariant-loop-i : goal.invariant-loop-i
invariant-loop-i l = Listed (count_text l.free) line_room 0 l.i l.initial.out l.out l.end
