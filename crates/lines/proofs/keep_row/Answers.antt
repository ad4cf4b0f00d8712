-- `lines::keep_row` meets its contract.
use mathlib.Core.Path.{ap}
use native.Mathlib.Omega.{arith}
use Rattle.lines.proofs.Stores.{adds_none, adds_past, adds_three, not_row}
use Rattle.lines.specs.Held.{row_numbers}
use Rattle.lines.proofs.keep_row.Goals as goal

pub returns-in_default : goal.returns-in_default
returns-in_default c = adds_none _ _ _ _ c.requires _ (not_row c.args.l c.in_default.not-Row)

pub returns-then-n-eq-TABLE_ROOM : goal.returns-then-n-eq-TABLE_ROOM
returns-then-n-eq-TABLE_ROOM c = adds_past _ _ _ _ c.requires _ c.if-n-eq-TABLE_ROOM.true

pub returns : goal.returns
returns c =
    adds_three _ _ _ _ c.requires _ c.in-Row.period c.in-Row.execution
    c.in-Row.deadline (ap row_numbers c.in-Row.is) (omega arith) (omega arith)
