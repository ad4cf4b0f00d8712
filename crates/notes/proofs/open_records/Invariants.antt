-- `notes::open_records` meets its contract.
use mathlib.Core.Path.{◌≡◌}
use Prim.Native.Nat.{◌*◌}
use lib.ListN.{drop}
use mathlib.Core.List.{◌++◌}
use Rattle.rules.specs.Limits.{record_width}
use Rattle.notes.proofs.Room.{opens}
use Rattle.notes.proofs.open_records.Given as goal

abbrev pub invariant-loop-j : goal.invariant-loop-j
invariant-loop-j l = l.out ≡ opens l.j ++ drop (l.j * record_width) l.initial.out
