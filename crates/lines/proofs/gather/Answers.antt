-- `lines::gather` meets its contract: no line of the head is at fault, and no release line.
use Rattle.lines.proofs.Gathering.{gathers_all}
use Rattle.lines.proofs.gather.Goals as goal

pub returns : goal.returns
returns c =
    let head = rw c.in_ok-top.was at c.read_head.ensures.told in
    let rest = rw c.in_ok-releases.was at c.read_releases.ensures.told in
    record {
      told = gathers_all _ _ _ head.0 head.1 _ _ rest;
      table_long = c.read_head.ensures.long;
      trace_long = c.read_releases.ensures.long;
    }
