-- `writer::put_tail` meets its contract: the end line in the part from `at` on, and behind it the rows of the releases.
use Prim.Native.Nat.{◌+◌, ◌-◌, ◌≤◌}
use mathlib.Core.List.{[], ◌∷◌}
use native.Mathlib.Omega.{arith}
use lib.ListN.{length, length-append}
use borrow.Rule.Slice.PartMut.{put_mid}
use Rattle.rules.specs.Case.{release_count}
use Rattle.rules.specs.Limits.{release_width}
use Rattle.rules.specs.Writer.{end_text}
use Rattle.puts.specs.Laid.{Laid}
use Rattle.puts.specs.Fields.{number_line, word_of}
use Rattle.puts.proofs.Puts.{laid_then, laid_part, laid_length, part_length}
use Rattle.writer.specs.Rows.{rows_text, tail_text}
use Rattle.writer.proofs.put_tail.Goals as goal

pub put_line-n-requires : goal.put_line-n-requires
unfolding end_text tail_text word_of
put_line-n-requires c =
    -- the end line and the releases have room
    let parts : c.args.at + length (number_line 9 4 (c.args.end ∷ [])) + length (rows_text 5 release_width c.args.trace.now (release_count
    c.args.trace.now)) ≤ length c.args.out.now = let trace = c.args.trace.now in
    omega (arith, length-append (end_text c.args.end) (rows_text 5 release_width trace (release_count trace))) in
    omega (arith, parts, part_length c.args.at c.args.out.now)

pub overflow_add-at : goal.overflow_add-at
unfolding end_text tail_text word_of
overflow_add-at c =
    -- the end line and the releases have room
    let parts : c.args.at + length (number_line 9 4 (c.args.end ∷ [])) + length (rows_text 5 release_width c.args.trace.now (release_count
    c.args.trace.now)) ≤ length c.args.out.now = let trace = c.args.trace.now in
    omega (arith, length-append (end_text c.args.end) (rows_text 5 release_width trace (release_count trace))) in
    -- the end line is laid
    let ended : Laid c.args.at (number_line 9 4 (c.args.end ∷ [])) c.args.out.now (put_mid c.args.at (length c.args.out.now - c.args.at)
    c.args.out.now c.put_line-n.new.out) (c.args.at + c.put_line-n.result) =
    laid_part _ _ _ _ _ (omega (arith, parts)) c.put_line-n.ensures in
    omega (
      arith,
      parts,
      ended.behind,
    )

pub put_rows-requires : goal.put_rows-requires
unfolding end_text tail_text word_of
put_rows-requires c =
    -- the end line and the releases have room
    let parts : c.args.at + length (number_line 9 4 (c.args.end ∷ [])) + length (rows_text 5 release_width c.args.trace.now (release_count
    c.args.trace.now)) ≤ length c.args.out.now = let trace = c.args.trace.now in
    omega (arith, length-append (end_text c.args.end) (rows_text 5 release_width trace (release_count trace))) in
    -- the end line is laid
    let ended : Laid c.args.at (number_line 9 4 (c.args.end ∷ [])) c.args.out.now (put_mid c.args.at (length c.args.out.now - c.args.at)
    c.args.out.now c.put_line-n.new.out) (c.args.at + c.put_line-n.result) =
    laid_part _ _ _ _ _ (omega (arith, parts)) c.put_line-n.ensures in
    let e = ended in record { width_in_bounds = omega arith; rows_in_bounds = omega (arith, parts, e.behind, laid_length e) }

pub returns : goal.returns
unfolding end_text tail_text word_of
returns c =
    -- the end line and the releases have room
    let parts : c.args.at + length (number_line 9 4 (c.args.end ∷ [])) + length (rows_text 5 release_width c.args.trace.now (release_count
    c.args.trace.now)) ≤ length c.args.out.now = let trace = c.args.trace.now in
    omega (arith, length-append (end_text c.args.end) (rows_text 5 release_width trace (release_count trace))) in
    -- the end line is laid
    let ended : Laid c.args.at (number_line 9 4 (c.args.end ∷ [])) c.args.out.now (put_mid c.args.at (length c.args.out.now - c.args.at)
    c.args.out.now c.put_line-n.new.out) (c.args.at + c.put_line-n.result) =
    laid_part _ _ _ _ _ (omega (arith, parts)) c.put_line-n.ensures in
    laid_then ended c.put_rows.ensures
