-- `traces::take_releases` meets its contract.
use Rattle.rules.specs.Words.{tab}
use mathlib.Core.Path.{ap, sym, ◌∙◌}
use native.Mathlib.Omega.{arith}
use Prim.Native.Nat.{ℕ, ◌-◌}
use Rattle.traces.proofs.Taking.{taking_none, taking_more, taking_done}
use Rattle.traces.proofs.take_releases.Goals as goal

pub loop-k-init : goal.loop-k-init
unfolding tab
loop-k-init c = taking_none _ _ _ c.requires.reached

pub loop-k-preserved : goal.loop-k-preserved
loop-k-preserved c =
    -- the release at hand is one of the trace, and names one of the tasks that a run has
    let now = sym c.time_of.ensures ∙ c.if-time_of-clock.false in
    let index = ap (λ (n : ℕ). n - 1) c.name_of.ensures in
    taking_more _ _ _ c.loop-k.k _ _ c.requires.orderly (omega arith) now index c.loop-k.invariant

pub returns-then-time_of-clock : goal.returns-then-time_of-clock
returns-then-time_of-clock c =
    taking_done _ _ _ c.loop-k.k _ c.requires.orderly
    (λ h e. c.if-time_of-clock.true (c.time_of.ensures ∙ e)) c.loop-k.invariant
