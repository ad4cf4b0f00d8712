-- `reasons::put_reason` meets its contract: in each arm the words are known by the number.
use Rattle.reasons.specs.Reasons.{sign_bytes, words}
use Rattle.reasons.proofs.Chosen.{chosen}
use borrow.Author.Rules.{rules}
use Rattle.reasons.proofs.put_reason.Goals as goal

pub returns-in-1 : goal.returns-in-1
unfolding words sign_bytes
returns-in-1 c = chosen _ 1 (search rules) c.put_bytes.ensures

pub returns-in-2 : goal.returns-in-2
unfolding words sign_bytes
returns-in-2 c = chosen _ 2 (search rules) c.put_placed.ensures

pub returns-in-3 : goal.returns-in-3
unfolding words sign_bytes
returns-in-3 c = chosen _ 3 (search rules) c.put_placed-in-3.ensures

pub returns-in-4 : goal.returns-in-4
unfolding words sign_bytes
returns-in-4 c = chosen _ 4 (search rules) c.put_bytes-in-4.ensures

pub returns-in-5 : goal.returns-in-5
unfolding words sign_bytes
returns-in-5 c = chosen _ 5 (search rules) c.put_bytes-in-5.ensures

pub returns-in-6 : goal.returns-in-6
unfolding words sign_bytes
returns-in-6 c = chosen _ 6 (search rules) c.put_placed-in-6.ensures

pub returns-in-7 : goal.returns-in-7
unfolding words sign_bytes
returns-in-7 c = chosen _ 7 (search rules) c.put_bytes-in-7.ensures

pub returns-in-8 : goal.returns-in-8
unfolding words sign_bytes
returns-in-8 c = chosen _ 8 (search rules) c.put_placed-in-8.ensures

pub returns-in-9 : goal.returns-in-9
unfolding words sign_bytes
returns-in-9 c = chosen _ 9 (search rules) c.put_placed-in-9.ensures

pub returns-in-10 : goal.returns-in-10
unfolding words sign_bytes
returns-in-10 c = chosen _ 10 (search rules) c.put_placed-in-10.ensures

pub returns-in-11 : goal.returns-in-11
unfolding words sign_bytes
returns-in-11 c = chosen _ 11 (search rules) c.put_placed-in-11.ensures

pub returns-in-12 : goal.returns-in-12
unfolding words sign_bytes
returns-in-12 c = chosen _ 12 (search rules) c.put_bytes-in-12.ensures
