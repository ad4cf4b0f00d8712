-- `policies::policy_of` meets its contract: each word is compared in the order of the list.
use mathlib.Core.Path.{sym, ◌∙◌}
use Rattle.rules.specs.Policies.{place_from, policy_of}
use Rattle.policies.proofs.policy_of.Goals as goal

pub returns-then-same_bytes : goal.returns-then-same_bytes
unfolding policy_of place_from
returns-then-same_bytes c = rw (sym c.same_bytes.ensures ∙ c.if-same_bytes.true)

pub returns-then-same_bytes-2 : goal.returns-then-same_bytes-2
unfolding policy_of place_from
returns-then-same_bytes-2 c =
    rw (sym c.same_bytes.ensures ∙ c.if-same_bytes.false, sym c.same_bytes-2.ensures ∙ c.if-same_bytes-2.true)

pub returns : goal.returns
unfolding policy_of place_from
returns c =
    rw (sym c.same_bytes.ensures ∙ c.if-same_bytes.false, sym c.same_bytes-2.ensures ∙ c.if-same_bytes-2.false)
