-- `counts::free_count` meets its contract.
use mathlib.Core.Path.{ap, ◌∙◌}
use Rattle.rules.specs.Counts.{count, free_count}
use Rattle.counts.proofs.free_count.Goals as goal

pub returns : goal.returns
unfolding free_count
returns c =
    let a = c.args in
    c.count_of.ensures ∙ ap (count a.procs a.table.now) c.deadline_of-slots.ensures
