-- `reasons::put_late_reason` meets its contract: in each arm the words are known by the number.
use Rattle.reasons.specs.Reasons.{sign_bytes, words, reason_of}
use Rattle.reasons.proofs.Chosen.{chosen, reason_short}
use borrow.Author.Rules.{rules}
use native.Mathlib.Omega.{arith}
use Rattle.std.proofs.lemmas.Grind.{common_steps}
use Rattle.reasons.proofs.put_late_reason.Goals as goal

pub returns-in-13 : goal.returns-in-13
unfolding words sign_bytes
returns-in-13 c = chosen _ 13 (search rules) c.put_bytes.ensures

pub returns-in-14 : goal.returns-in-14
unfolding words sign_bytes
returns-in-14 c = chosen _ 14 (search rules) c.put_bytes-in-14.ensures

pub returns-in-15 : goal.returns-in-15
unfolding words sign_bytes
returns-in-15 c = chosen _ 15 (search rules) c.put_bytes-in-15.ensures

pub returns-in-16 : goal.returns-in-16
unfolding words sign_bytes
returns-in-16 c = chosen _ 16 (search rules) c.put_placed.ensures

pub returns-in-17 : goal.returns-in-17
unfolding words sign_bytes
returns-in-17 c = chosen _ 17 (search rules) c.put_placed-in-17.ensures

pub returns-in-18 : goal.returns-in-18
unfolding words sign_bytes
returns-in-18 c = chosen _ 18 (search rules) c.put_placed-in-18.ensures

pub returns-in-19 : goal.returns-in-19
unfolding words sign_bytes
returns-in-19 c = chosen _ 19 (search rules) c.put_bytes-in-19.ensures

pub returns-in_default : goal.returns-in_default
unfolding reason_of words sign_bytes
returns-in_default c = grind (arith, common_steps, reason_short)
