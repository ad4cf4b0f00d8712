-- `scan::field` meets its contract.
use native.Mathlib.Omega.{arith}
use Rattle.rules.specs.Text.{field_of}
use Rattle.scan.proofs.Parts.{part_up_to, up_to_le}
use Rattle.scan.proofs.field.Goals as goal

pub slice_bounds-result-end : goal.slice_bounds-result-end
slice_bounds-result-end c = omega (arith, up_to_le 9 c.args.s.now)

pub returns : goal.returns
unfolding field_of
returns c = part_up_to 9 _ _ _ c.seek-e.ensures
