-- `writer::put_rows` meets its contract: the rows passed are laid, each in the part from the present end on.
use Prim.Native.Nat.{◌+◌, ◌-◌, ◌≤◌}
use mathlib.Core.Path.{refl, ap, ◌∙◌}
use native.Mathlib.Omega.{arith}
use lib.ListN.{length}
use borrow.Rule.Slice.PartMut.{put_mid}
use Rattle.puts.specs.Laid.{Laid}
use Rattle.puts.proofs.Puts.{laid_none, laid_then, laid_part, laid_length, part_length}
use Rattle.writer.specs.Rows.{row_text}
use Rattle.writer.proofs.Rows.{rows_none, rows_suc, rows_le, row_is}
use Rattle.writer.proofs.put_rows.Goals as goal

pub loop-i-init : goal.loop-i-init
loop-i-init c = rw (rows_none _ _ _) (refl, laid_none _ _)

-- the line of a row has room in the unused end
pub slice_bounds-put_line-count : goal.slice_bounds-put_line-count
slice_bounds-put_line-count c =
    omega (arith, c.loop-i.invariant.1.behind, rows_le c.args.word c.args.width c.args.vs.now c.loop-i.i c.args.rows c.loop-i-test.true)

pub slice_bounds-put_line-start : goal.slice_bounds-put_line-start
slice_bounds-put_line-start c =
    omega (arith, c.loop-i.invariant.1.behind, rows_le c.args.word c.args.width c.args.vs.now c.loop-i.i c.args.rows c.loop-i-test.true)

pub put_line-end-requires : goal.put_line-end-requires
put_line-end-requires c =
    -- its line has room in the unused end
    let room : c.loop-i.end + length (row_text c.args.word c.args.width c.args.vs.now c.loop-i.i) ≤ length c.loop-i.out = let l =
    c.loop-i in
    let a = c.args in
    omega (arith, l.invariant.1.behind, rows_le a.word a.width a.vs.now l.i a.rows c.loop-i-test.true) in
    let l = c.loop-i in
    let a = c.args in
    omega (arith, room, part_length l.end l.out, ap length (row_is a.word a.width a.vs.now l.i))

pub overflow_add-end : goal.overflow_add-end
overflow_add-end c =
    -- its line has room in the unused end
    let room : c.loop-i.end + length (row_text c.args.word c.args.width c.args.vs.now c.loop-i.i) ≤ length c.loop-i.out = let l =
    c.loop-i in
    let a = c.args in
    omega (arith, l.invariant.1.behind, rows_le a.word a.width a.vs.now l.i a.rows c.loop-i-test.true) in
    -- the row is laid behind those before it
    let laid : Laid c.loop-i.end (row_text c.args.word c.args.width c.args.vs.now c.loop-i.i) c.loop-i.out (put_mid c.loop-i.end (length
    c.loop-i.out - c.loop-i.end) c.loop-i.out c.put_line-end.new.out) (c.loop-i.end + c.put_line-end.result) = let l = c.loop-i in
    let a = c.args in
    rw (row_is a.word a.width a.vs.now l.i)
    (laid_part l.end _ l.out _ _ (omega (arith, room)) c.put_line-end.ensures) in
    omega (arith, room, laid.behind)

pub loop-i-preserved : goal.loop-i-preserved
loop-i-preserved c =
    -- its line has room in the unused end
    let room : c.loop-i.end + length (row_text c.args.word c.args.width c.args.vs.now c.loop-i.i) ≤ length c.loop-i.out = let l =
    c.loop-i in
    let a = c.args in
    omega (arith, l.invariant.1.behind, rows_le a.word a.width a.vs.now l.i a.rows c.loop-i-test.true) in
    -- the row is laid behind those before it
    let laid : Laid c.loop-i.end (row_text c.args.word c.args.width c.args.vs.now c.loop-i.i) c.loop-i.out (put_mid c.loop-i.end (length
    c.loop-i.out - c.loop-i.end) c.loop-i.out c.put_line-end.new.out) (c.loop-i.end + c.put_line-end.result) = let l = c.loop-i in
    let a = c.args in
    rw (row_is a.word a.width a.vs.now l.i)
    (laid_part l.end _ l.out _ _ (omega (arith, room)) c.put_line-end.ensures) in
    let l = c.loop-i in
    let a = c.args in
    let new = laid in (
      laid_length new ∙ l.invariant.0,
      rw (rows_suc a.word a.width a.vs.now l.i) (laid_then l.invariant.1 new),
    )
