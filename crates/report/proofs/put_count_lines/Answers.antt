-- `report::put_count_lines` meets its contract: the lines of the tasks passed are laid, each in the part from the present end on.
use Prim.Native.Nat.{◌+◌, ◌≤◌}
use native.Mathlib.Omega.{arith}
use lib.ListN.{length}
use Rattle.puts.proofs.Puts.{laid_length}
use Rattle.prints.specs.Lines.{line_room}
use Rattle.report.proofs.Lines.{listed_none, listed_more}
use Rattle.report.proofs.put_count_lines.Goals as goal

pub loop-i-init : goal.loop-i-init
loop-i-init c = listed_none _ _ _ _

pub loop-i-preserved : goal.loop-i-preserved
loop-i-preserved c =
    -- one more line has room
    let room : c.loop-i.end + line_room ≤ length c.loop-i.out = let l = c.loop-i in
    omega (arith, l.invariant.short, laid_length l.invariant.laid, c.loop-i-test.true) in
    let l = c.loop-i in
    let h : l.end ≤ length l.out = omega (arith, room) in
    listed_more _ _ _ _ _ _ _ _ _ l.invariant h c.put_count-length.ensures
