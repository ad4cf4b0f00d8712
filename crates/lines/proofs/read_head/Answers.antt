-- `lines::read_head` meets its contract: before each turn the lines read so far stand in the head.
use Rattle.lines.proofs.Heading.{head_none}
use Rattle.lines.proofs.read_head.Goals as goal

pub loop-top-init : goal.loop-top-init
loop-top-init c = head_none _ _ _ c.no_lines-top.ensures c.requires.table_len
