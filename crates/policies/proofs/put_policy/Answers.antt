-- `policies::put_policy` meets its contract: the byte, and behind it the word that the number chooses.
use mathlib.Core.Path.{ap}
use Prim.Native.Nat.{ℕ}
use native.Mathlib.Omega.{arith}
use lib.ListN.{length, length-set}
use Rattle.rules.specs.Policies.{policy_name}
use Rattle.texts.specs.PolicyNames.{name_none}
use Rattle.puts.proofs.Puts.{laid_byte, laid_then}
use Rattle.policies.proofs.put_policy.Goals as goal

pub put_bytes-requires : goal.put_bytes-requires
unfolding policy_name
put_bytes-requires c = simp length-set (omega (arith, ap (λ (p : ℕ). length (policy_name p)) c.in-0.is))

pub put_bytes-requires-in-1 : goal.put_bytes-requires-in-1
unfolding policy_name
put_bytes-requires-in-1 c = simp length-set (omega (arith, ap (λ (p : ℕ). length (policy_name p)) c.in-1.is))

pub returns-in-0 : goal.returns-in-0
unfolding policy_name
returns-in-0 c =
    let a = c.args in
    rw c.in-0.is
    (laid_then (laid_byte a.at a.between a.out.now) c.put_bytes.ensures)

pub returns-in-1 : goal.returns-in-1
unfolding policy_name
returns-in-1 c =
    let a = c.args in
    rw c.in-1.is
    (laid_then (laid_byte a.at a.between a.out.now) c.put_bytes-in-1.ensures)

pub returns-in_default : goal.returns-in_default
returns-in_default c =
    let a = c.args in
    rw (name_none a.policy (omega arith)) (laid_byte a.at a.between a.out.now)
