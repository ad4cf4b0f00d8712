-- `heard::scan_digits` meets its contract.
use mathlib.Core.Bool.{Bool}
use mathlib.Core.List.{List}
use Prim.Native.Nat.{◌-◌}
use lib.ListN.{length}
use Rattle.lists.specs.Lists.{members}
use Rattle.feeds.specs.NumScan.{num_so_far}
use Rattle.feeds.specs.Bounds.{NumSmall}
use Rattle.heard.specs.Scans.{scan_as, phase_as}
use Rattle.heard.specs.Lines.{Goes}
use Rattle.heard.proofs.scan_digits.Given as goal

abbrev pub invariant-loop-i : goal.invariant-loop-i
invariant-loop-i l =
    NumSmall (num_so_far l.digits l.value)
    × ((xs : List Bool) → Goes l.piece l.from (scan_as l.s xs) l.i
    (phase_as l.s.phase l.digits l.value l.s.time l.s.low l.s.rises l.s.names (members xs)))

abbrev pub decreases-loop-i : goal.decreases-loop-i
decreases-loop-i l = length l.piece - l.i
