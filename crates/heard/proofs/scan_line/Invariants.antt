-- `heard::scan_line` meets its contract.
use mathlib.Core.Path.{◌≡◌}
use Prim.Native.Nat.{◌-◌}
use lib.ListN.{length}
use Rattle.rules.specs.Limits.{max_tasks}
use Rattle.heard.specs.Scans.{scan_as}
use Rattle.heard.specs.Lines.{Goes}
use Rattle.heard.proofs.scan_line.Given as goal

abbrev pub invariant-loop-i : goal.invariant-loop-i
invariant-loop-i l =
    (length l.named ≡ max_tasks) × Goes l.piece l.from (scan_as l.initial.scan l.initial.named) l.i (scan_as l.scan l.named)

abbrev pub decreases-loop-i : goal.decreases-loop-i
decreases-loop-i l = length l.piece - l.i
