-- `follow::open_log` meets its contract.
use Rattle.rules.specs.Words.{tab}
use Rattle.follow.proofs.Following.{opens_at}
use Rattle.follow.proofs.open_log.Goals as goal

pub returns : goal.returns
unfolding tab
returns c = λ k. opens_at k _ _ c.fresh_run.ensures c.line_start.ensures
