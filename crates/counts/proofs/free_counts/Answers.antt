-- `counts::free_counts` meets its contract.
use Rattle.rules.specs.Counts.{free_count}
use Rattle.lists.specs.Lists.{tab_front}
use Rattle.counts.proofs.free_counts.Goals as goal

pub returns : goal.returns
returns c = λ i h. rw c.put_counts.ensures (tab_front (free_count _ _) _ _ i 0 h)
