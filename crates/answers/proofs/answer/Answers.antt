-- `answers::answer` meets its contract: the reader's refusal alone, or what the wish asks of the case that was read.
use Rattle.answers.proofs.Said.{case_shown, refusal_shown}
use Rattle.answers.proofs.answer.Goals as goal

pub returns-in_default : goal.returns-in_default
returns-in_default c = refusal_shown _ _ c.accepted_case-read.ensures _ c.in_default.not-Ok _ _ _ c.put_refusal.ensures

pub returns : goal.returns
returns c = case_shown _ _ c.accepted_case-read.ensures _ _ c.in-Ok.is _ _ _ c.put_wish.ensures
