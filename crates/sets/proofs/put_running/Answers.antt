-- `sets::put_running` meets its contract: the tasks that the bits of the number name are its members.
use lib.Dec.{eqb}
use Prim.Native.Nat.{ℕ, ◌/◌, ◌^◌}
use borrow.Author.Rules.{rules}
use Rattle.std.specs.Int.Bits.{bit_and}
use Rattle.rules.specs.Slot.{tasks_in}
use Rattle.lists.specs.Lists.{tasks_same}
use Rattle.puts.specs.Fields.{word_of}
use Rattle.sets.specs.Sets.{running_line}
use Rattle.sets.proofs.Members.{members_tasks}
use Rattle.rules.specs.Limits.{max_tasks}
use Rattle.sets.proofs.put_running.Goals as goal

pub returns : goal.returns
unfolding running_line word_of tasks_in
returns c =
    let line = c.put_set_line.ensures in
    let bits = λ (i : ℕ). eqb (bit_and (c.args.set / 2 ^ i) 1) 1 in
    rw (members_tasks c.args.set max_tasks, ← tasks_same line.0 bits (λ i h. let told = line.1 i h in search rules)) line.2
