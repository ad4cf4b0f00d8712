-- `sets::put_slot_line` meets its contract: the tasks for which the array holds true.
use mathlib.Core.Bool.{false}
use borrow.Author.Rules.{rules}
use lib.ListN.{get_or}
use Rattle.rules.specs.Log.{slot_line_text}
use Rattle.lists.specs.Lists.{tasks_same}
use Rattle.puts.specs.Fields.{word_of}
use Rattle.sets.proofs.put_slot_line.Goals as goal

pub returns : goal.returns
unfolding slot_line_text word_of
returns c =
    let ran = c.args.ran.now in
    let line = c.put_set_line.ensures in
    rw (← tasks_same line.0 (λ i. get_or ran i false) (λ i h. let told = line.1 i h in search rules)) line.2
