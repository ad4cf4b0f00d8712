-- `prints::put_time` meets its contract: the time's digits behind a space.
use native.Mathlib.Omega.{arith}
use Rattle.rules.specs.Report.{space_byte}
use Rattle.puts.proofs.Lines.{numbers-one, numbers_room}
use Rattle.prints.proofs.put_time.Goals as goal

pub put_numbers-requires : goal.put_numbers-requires
put_numbers-requires c = omega (arith, numbers_room)

pub returns-in-Some : goal.returns-in-Some
returns-in-Some c = rw (c.in-Some.is, ← numbers-one space_byte c.in-Some.t) c.put_numbers.ensures
