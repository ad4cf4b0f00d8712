-- `lowest::releases_fault` meets its contract.
use Rattle.std.proofs.Common.{arith, sym, ◌∙◌, ◌≤◌, ◌<◌}
use Rattle.std.proofs.lemmas.Result.{err_from_is_err_and}
use Rattle.rules.specs.Words.{tab}
use Rattle.rules.specs.Limits.{max_tasks, max_end}
use Rattle.rules.specs.Refusals.{last_before}
use Rattle.lowest.proofs.Walk.{passed, checked_none, checked_more, checked_all, checked_hit}
use Rattle.lowest.proofs.releases_fault.Goals as goal

pub loop-j-init : goal.loop-j-init
unfolding tab last_before
loop-j-init c = checked_none _ _ _

pub returns-in_err-release_fault : goal.returns-in_err-release_fault
returns-in_err-release_fault c =
    let p = err_from_is_err_and c.from_residual.result c.from_residual.ensures.1 in
    let stopped = sym c.release_fault.ensures ∙ c.in_err-release_fault.was in
    rw (p.1, p.2) (checked_hit _ _ _ _ _ _ c.loop-j.invariant.none (omega arith) stopped)

-- a release with no fault names one of few tasks at a time that is not too late
abbrev Stands : goal.After-name_of → Type 0
Stands c = (1 ≤ c.name_of.result) × (c.name_of.result ≤ max_tasks) × (c.time_of-time.result < max_end)

stands : (c : goal.After-name_of) → Stands c
stands c =
    let p = passed _ _ _ _ (sym c.release_fault.ensures ∙ c.in_ok-release_fault.was) in
    rw (c.name_of.ensures, c.time_of-time.ensures)
    (p.some, omega (arith, p.known, c.requires.0.few), omega (arith, p.soon, c.requires.2))

pub overflow_sub-i : goal.overflow_sub-i
overflow_sub-i c = (stands c).0

pub overflow_add-last : goal.overflow_add-last
overflow_add-last c = omega (arith, stands c)

pub bounds-last-i : goal.bounds-last-i
bounds-last-i c =
    let p = passed _ _ _ _ (sym c.release_fault.ensures ∙ c.in_ok-release_fault.was) in
    omega (arith, p.some, p.known, c.requires.0.few, c.name_of.ensures)

pub loop-j-preserved : goal.loop-j-preserved
loop-j-preserved c =
    rw (c.name_of.ensures, c.time_of-time.ensures)
    (checked_more _ _ _ _ (sym c.release_fault.ensures ∙ c.in_ok-release_fault.was) _ c.loop-j.invariant c.requires.0.few c.requires.2)

pub returns : goal.returns
returns c = checked_all _ _ _ _ _ c.loop-j.invariant (omega (arith, c.release_count-j-end.ensures))
