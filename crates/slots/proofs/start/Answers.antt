-- `slots::start` meets its contract: the records are those of `slot::fresh_run`, and beside them each count is written once.
use native.Mathlib.Omega.{arith}
use native.Mathlib.Numerals.{add-one}
use mathlib.Core.Path.{refl, sym, ◌∙◌}
use Rattle.rules.specs.Words.{tab}
use Rattle.rules.specs.Limits.{max_tasks}
use Rattle.rules.specs.Replay.{idle_task}
use Rattle.rules.specs.Slot.{no_task}
use Rattle.lists.specs.Lists.{tab_long, tab_at}
use Rattle.lists.specs.Fill.{filling_none, filling_store}
use Rattle.slots.proofs.Counting.{counting_store, counting_past}
use Rattle.slots.proofs.start.Goals as goal
use Rattle.slots.proofs.start.Goals.{then-i-tasks, else-i-tasks}

pub loop-i-init : goal.loop-i-init
unfolding tab
loop-i-init c = (
  filling_none max_tasks _ _ refl (tab_long idle_task 0 max_tasks),
  λ k h m. absurd (omega arith),
)

pub loop-i-preserved : goal.loop-i-preserved
loop-i-preserved c =
    let k = c.loop-i-test.true in
    let v = c.loop-i.invariant in (
      filling_store max_tasks _ _ _ _ no_task _ k v.0
          (c.idle_task.ensures _ (add-one _) ∙ sym (tab_at idle_task max_tasks _ no_task k)),
      elim c.if-i-tasks.branch [
        | then-i-tasks w ↦ rw w.counts-is (counting_store _ _ _ _ v.1 _ (omega arith) w.free_count.ensures)
        | else-i-tasks w ↦ rw w.counts-is (counting_past _ _ _ _ v.1 (omega arith))
      ],
    )
