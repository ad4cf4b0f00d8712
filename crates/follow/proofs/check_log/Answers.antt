-- `follow::check_log` meets its contract.
use mathlib.Core.Path.{sym, ap, ◌∙◌}
use Rattle.std.proofs.lemmas.Result.{err_from_is_err_and}
use Rattle.rules.specs.Case.{Case}
use Rattle.legal.specs.Firsts.{given_clear}
use Rattle.legal.specs.Legal.{accepted_procs, accepted_table}
use Rattle.follow.proofs.Following.{case_refused, log_told}
use Rattle.follow.proofs.check_log.Goals as goal

pub returns-in_err-accepted : goal.returns-in_err-accepted
returns-in_err-accepted c =
    let p = err_from_is_err_and c.from_residual.result c.from_residual.ensures.1 in
    rw (p.1, p.2) (record { answer = case_refused _ _ _ (sym c.accept.ensures ∙ c.in_err-accepted.was) })

pub free_counts-free-requires : goal.free_counts-free-requires
free_counts-free-requires c =
    let ok = rw (← c.accepted-inside.view_is) at c.accepted.invariant in
    (accepted_table _ ok, accepted_procs _ ok)

pub close_log-requires : goal.close_log-requires
close_log-requires c = (c.feed-last.ensures _ (c.open_log.ensures _)).few

pub returns : goal.returns
returns c =
    -- the case that is accepted is the one that was given, and its end is handed on
    let same = (given_clear _ _ _ (sym c.accept.ensures ∙ c.in_ok-accepted.was)).1 in
    let ok = rw c.accepted.view_is at c.accepted.invariant in
    let ends = ap (λ (x : Case). x.end) (rw (← c.accepted-inside.view_is) at c.accepted.view_is) in
    let fed = c.feed-last.ensures _ (c.open_log.ensures _) in
    rw same (record { answer = log_told _ _ _ ok (c.close_log.ensures _ _ (sym ends) fed) })
