-- `report::put_jobs` meets its contract: the lines of the releases passed are laid, each in the part from the present end on.
use Prim.Native.Nat.{◌+◌, ◌≤◌}
use native.Mathlib.Omega.{arith}
use lib.ListN.{length}
use Rattle.puts.proofs.Puts.{laid_length}
use Rattle.prints.specs.Lines.{job_room}
use Rattle.report.proofs.Lines.{listed_none, listed_more}
use Rattle.report.proofs.put_jobs.Goals as goal

pub loop-j-init : goal.loop-j-init
loop-j-init c = listed_none _ _ _ _

pub loop-j-preserved : goal.loop-j-preserved
loop-j-preserved c =
    -- one more line has room
    let room : c.loop-j.end + job_room ≤ length c.loop-j.out = let l = c.loop-j in
    omega (arith, l.invariant.short, laid_length l.invariant.laid, c.loop-j-test.true, c.release_count-j-end.ensures) in
    let l = c.loop-j in
    let h : l.end ≤ length l.out = omega (arith, room) in
    let put = c.put_release-length.ensures in
    listed_more _ _ _ _ _ _ _ _ _ l.invariant h put
