-- `blame::put_blame` meets its contract: the time, and behind it what is wrong.
use native.Mathlib.Omega.{arith}
use Rattle.rules.specs.Slot.{setup_of}
use Rattle.texts.specs.Digits.{at_most_ten}
use Rattle.puts.proofs.Puts.{laid_then, laid_length}
use Rattle.reasons.specs.Reasons.{sign_bytes, words}
use Rattle.lists.specs.Lists.{members}
use Rattle.blame.specs.Blames.{blame_text}
use Rattle.blame.proofs.Texts.{fault_short}
use Rattle.blame.proofs.put_blame.Goals as goal

pub put_number-parted_at-requires : goal.put_number-parted_at-requires
put_number-parted_at-requires c =
    let a = c.args in
    omega (arith, at_most_ten a.clock, laid_length c.put_bytes-time_at.ensures, c.put_bytes-time_at.ensures.behind)

pub put_bytes-at-requires : goal.put_bytes-at-requires
put_bytes-at-requires c =
    let a = c.args in
    omega (
      arith,
      at_most_ten a.clock,
      laid_length c.put_bytes-time_at.ensures,
      laid_length c.put_number-parted_at.ensures,
      c.put_bytes-time_at.ensures.behind,
      c.put_number-parted_at.ensures.behind,
    )

pub put_fault-requires : goal.put_fault-requires
put_fault-requires c =
    let a = c.args in
    omega (
      arith,
      at_most_ten a.clock,
      laid_length c.put_bytes-time_at.ensures,
      laid_length c.put_number-parted_at.ensures,
      laid_length c.put_bytes-at.ensures,
      c.put_bytes-time_at.ensures.behind,
      c.put_number-parted_at.ensures.behind,
      c.put_bytes-at.ensures.behind,
    )

pub returns : goal.returns
unfolding blame_text words sign_bytes
returns c =
    let a = c.args in
    let front = laid_then c.put_bytes-time_at.ensures (laid_then c.put_number-parted_at.ensures c.put_bytes-at.ensures) in
    λ table.
    let short = fault_short (setup_of a.procs a.policy table) a.clock a.r a.names (members a.named.now) in
    let behind = (c.put_fault.ensures table).behind in
    record {
      laid = laid_then front (c.put_fault.ensures table);
      short =
          omega (
            arith,
            c.put_bytes-time_at.ensures.behind,
            c.put_number-parted_at.ensures.behind,
            c.put_bytes-at.ensures.behind,
            behind,
            at_most_ten a.clock,
            short,
          );
    }
