-- `prints::put_outcome` meets its contract: the verdict, the two times, one behind the other.
use mathlib.Core.Path.{◌≡◌}
use native.Mathlib.Omega.{arith}
use Rattle.rules.specs.Replay.{record_of}
use Rattle.rules.specs.Report.{finish_field, demotion_field}
use Rattle.puts.proofs.Puts.{laid_then}
use Rattle.prints.specs.Lines.{time_field}
use Rattle.prints.proofs.Lines.{verdict_room_lem, time_room, finish_is, demotion_is, outcome_is}
use Rattle.prints.proofs.put_outcome.Goals as goal

pub put_time-demotion_at-requires : goal.put_time-demotion_at-requires
put_time-demotion_at-requires c = omega (arith, verdict_room_lem)

pub put_time-requires : goal.put_time-requires
put_time-requires c = omega (arith, verdict_room_lem, time_room)

pub returns : goal.returns
returns c =
    let a = c.args in
    let finish : time_field c.then_some.result ≡ finish_field a.finish = rw c.then_some.ensures (finish_is a.finish) in
    let demotion : time_field c.checked_sub.result ≡ demotion_field a.demotion = demotion_is _ _ c.checked_sub.ensures in
    rw (outcome_is (record_of a.verdict a.finish a.demotion), ← finish, ← demotion)
    (laid_then c.put_verdict-finish_at.ensures (laid_then c.put_time-demotion_at.ensures c.put_time.ensures))
