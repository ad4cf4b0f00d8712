-- `follow::close_log` meets its contract.
use mathlib.Core.Path.{sym, ◌∙◌}
use Rattle.follow.proofs.Following.{over_fault, over_unended, over_number, over_none}
use Rattle.follow.proofs.close_log.Goals as goal

pub returns-then-number-ne0 : goal.returns-then-number-ne0
returns-then-number-ne0 c = λ k f e w. over_fault k f _ w c.if-number-ne0.true

pub returns-then-not-is_start : goal.returns-then-not-is_start
returns-then-not-is_start c =
    let s = c.is_start in
    λ k f e w. over_unended k f _ w s.result c.if-number-ne0.false
    (s.ensures c.args.log.named) c.if-not-is_start.true

pub returns-then-log-end : goal.returns-then-log-end
returns-then-log-end c =
    let s = c.is_start in
    λ k f e w. over_number k f _ w s.result c.if-number-ne0.false
    (s.ensures c.args.log.named) c.if-not-is_start.false
    (λ z. c.if-log-end.true (z ∙ e))

pub returns : goal.returns
returns c =
    let s = c.is_start in
    λ k f e w. over_none k f _ w s.result c.if-number-ne0.false
    (s.ensures c.args.log.named) c.if-not-is_start.false
    (c.if-log-end.false ∙ sym e)
