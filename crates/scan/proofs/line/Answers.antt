-- `scan::line` meets its contract: it ends at its newline, which is within the slice, or at the return right before it.
use mathlib.Core.Path.{sym, ◌∙◌}
use native.Mathlib.Omega.{arith}
use lib.ListN.{length-drop, drop}
use Rattle.rules.specs.Text.{newline_byte}
use Rattle.scan.proofs.Parts.{up_to_le, part_returned, part_whole}
use Rattle.scan.proofs.line.Goals as goal

pub returns-then-is_returned : goal.returns-then-is_returned
returns-then-is_returned c =
    part_returned _ _ _ c.requires.end_value (sym c.is_returned.ensures ∙ c.if-is_returned.true)

pub slice_bounds-result-end-2 : goal.slice_bounds-result-end-2
slice_bounds-result-end-2 c =
    let a = c.args in
    omega (arith, c.requires.end_value, up_to_le newline_byte (drop a.from a.s.now), length-drop a.from a.s.now)

pub returns : goal.returns
returns c =
    part_whole _ _ _ c.requires.end_value (sym c.is_returned.ensures ∙ c.if-is_returned.false)
