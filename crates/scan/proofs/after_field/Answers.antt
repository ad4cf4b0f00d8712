-- `scan::after_field` meets its contract: past the tab where there is one, else nothing.
use native.Mathlib.Omega.{arith}
use Rattle.rules.specs.Text.{field_of, after_field}
use Rattle.scan.proofs.Parts.{rest_some, rest_none, up_to_le}
use Rattle.scan.proofs.after_field.Goals as goal

pub slice_bounds-result-count-else-e-s : goal.slice_bounds-result-count-else-e-s
unfolding field_of
slice_bounds-result-count-else-e-s c = omega (arith, c.requires, up_to_le 9 c.args.s.now)

pub slice_bounds-result-start-else-e-s : goal.slice_bounds-result-start-else-e-s
unfolding field_of
slice_bounds-result-start-else-e-s c = omega (arith, c.requires, up_to_le 9 c.args.s.now)

pub returns-then-e-s : goal.returns-then-e-s
unfolding field_of after_field
returns-then-e-s c = rest_some 9 _ c.args.s.now c.requires c.if-e-s.true

pub returns-else-e-s : goal.returns-else-e-s
unfolding field_of after_field
returns-else-e-s c = rest_none 9 _ c.args.s.now c.requires c.if-e-s.false
