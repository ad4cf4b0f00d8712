-- `policies::policy_width` meets its contract: in each arm the word is known by the number.
use mathlib.Core.Path.{sym, ap}
use native.Mathlib.Omega.{arith}
use lib.ListN.{length}
use Rattle.rules.specs.Policies.{policy_name}
use Rattle.texts.specs.PolicyNames.{name_none}
use Rattle.policies.proofs.policy_width.Goals as goal

pub returns-in-0 : goal.returns-in-0
unfolding policy_name
returns-in-0 c = rw c.in-0.is

pub returns-in-1 : goal.returns-in-1
unfolding policy_name
returns-in-1 c = rw c.in-1.is

pub returns-in_default : goal.returns-in_default
returns-in_default c = sym (ap length (name_none c.args.policy (omega arith)))
