-- `heard::end_time` meets its contract.
use mathlib.Core.Path.{refl, sym, ap, ◌∙◌}
use mathlib.Core.Bool.{true}
use Rattle.rules.specs.Words.{tab}
use Rattle.feeds.specs.LineScan.{heard, heard_time}
use Rattle.heard.proofs.Scanning.{none_in, num_none, num_some}
use Rattle.heard.proofs.end_time.Goals as goal

pub returns-then-digits-eq0 : goal.returns-then-digits-eq0
returns-then-digits-eq0 c = (refl, ap heard_time (sym (num_none _ _ c.if-digits-eq0.true)))

pub returns : goal.returns
unfolding tab
returns c =
    let a = c.args in
    (refl, ap (heard a.value true true) none_in ∙ ap heard_time (sym (num_some a.digits a.value c.if-digits-eq0.false)))
