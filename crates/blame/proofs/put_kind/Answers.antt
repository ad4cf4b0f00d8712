-- `blame::put_kind` meets its contract.
use mathlib.Core.Path.{sym, ◌∙◌}
use Rattle.reasons.specs.Reasons.{sign_bytes, words}
use Rattle.blame.specs.Blames.{kind_words}
use Rattle.blame.proofs.put_kind.Goals as goal

pub returns-then-is_demoted : goal.returns-then-is_demoted
unfolding kind_words words sign_bytes
returns-then-is_demoted c =
    rw (sym c.is_demoted.ensures ∙ c.if-is_demoted.true) c.put_bytes.ensures

pub returns : goal.returns
unfolding kind_words words sign_bytes
returns c =
    rw (sym c.is_demoted.ensures ∙ c.if-is_demoted.false) c.put_bytes-2.ensures
