-- `lines::keep_release` meets its contract.
use mathlib.Core.Path.{ap}
use native.Mathlib.Omega.{arith}
use Rattle.lines.proofs.Stores.{adds_none, adds_past, adds_two, not_release}
use Rattle.lines.specs.Held.{release_numbers}
use Rattle.lines.proofs.keep_release.Goals as goal

pub returns-in_default : goal.returns-in_default
returns-in_default c = adds_none _ _ _ _ c.requires _ (not_release c.args.l c.in_default.not-Release)

pub returns-then-n-eq-TRACE_ROOM : goal.returns-then-n-eq-TRACE_ROOM
returns-then-n-eq-TRACE_ROOM c = adds_past _ _ _ _ c.requires _ c.if-n-eq-TRACE_ROOM.true

pub returns : goal.returns
returns c =
    adds_two _ _ _ _ c.requires _ c.in-Release.time c.in-Release.task
    (ap release_numbers c.in-Release.is) (omega arith) (omega arith)
