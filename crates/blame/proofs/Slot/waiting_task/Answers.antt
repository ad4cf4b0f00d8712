-- `blame::Slot::waiting_task` meets its contract: no other overtakes one of the tasks before.
use Rattle.std.proofs.Common.{ℕ, ◌+◌, ◌≡◌, arith, ap, true, false, not, eqb}
use borrow.Author.Tests.{ne_eqb}
use Rattle.blame.specs.Agrees.{none_first}
use Rattle.blame.specs.Blames.{overtaking_task, waiting_task}
use Rattle.blame.proofs.Firsts.{first_found}
use Rattle.blame.proofs.Slot.waiting_task.Goals as goal

some : (k i : ℕ) → k ≡ i + 1 → not (eqb k 0) ≡ true
some k i e = ap not (ne_eqb k 0 (λ z. omega arith))

none : (k : ℕ) → k ≡ 0 → not (eqb k 0) ≡ false
none k e = rw e

pub returns-in-Some : goal.returns-in-Some
unfolding waiting_task overtaking_task
returns-in-Some c = (
  omega arith,
  λ table. first_found _ _ _ (λ k h. none _ (c.loop-j.invariant k h)) (omega arith) (some _ _ (c.in-Some.ensures.1 table)),
  c.in-Some.ensures,
)

pub returns : goal.returns
unfolding waiting_task overtaking_task
returns c = λ table. none_first _ _ (λ k h. none _ (c.loop-j.invariant k (omega arith)))
