-- The tasks of a set as the loop gathers them, behind the slot; and the tasks of a number, by its bits.
use mathlib.Core.Path.{◌≡◌, refl, ap, ◌∙◌}
use mathlib.Core.Bool.{Bool, true, false, cond}
use mathlib.Core.List.{List, [], ◌∷◌, ◌++◌, append-nil}
use mathlib.Core.Logic.{◌⊎◌, inl, inr}
use Prim.Native.Nat.{ℕ, suc, ◌+◌, ◌≤◌, ◌<◌}
use native.Mathlib.Nat.{zero-add}
use native.Mathlib.Numerals.{add-one}
use native.Mathlib.Omega.{arith}
use lib.Dec.{eqb}
use lib.ListN.{length, take, set, length-set}
use borrow.Author.Tests.{eq-eqb, ne_eqb}
use Rattle.std.proofs.Math.Nat.{eq-or-lt_of_le}
use lib.Seq.{take-suc-set, length-take-le}
use Rattle.rules.specs.Words.{pick}
use Rattle.rules.specs.Limits.{max_tasks}
use Rattle.rules.specs.Slot.{TaskSet, tasks_from, tasks_in}
use Rattle.lists.specs.Lists.{tasks_more, tasks_cong}

-- ---- the numbers of the line of a slot, when the first i tasks are passed
-- the first n numbers are the slot and those of the tasks that are in a set, which is what the calls of a test P answered
pub record Gathered (P : ℕ → Bool → Type 0) (slot i n : ℕ) (numbers : List ℕ) : Type 0 where
  pub members : TaskSet
  pub told : (j : ℕ) → j < i → P j (members j)
  pub few : n ≤ suc i
  pub room : length numbers ≡ suc max_tasks
  pub front : take n numbers ≡ slot ∷ tasks_from members 0 i

-- a set, and one more answer
module _ (s : TaskSet) (i : ℕ) (b : Bool) where
  abbrev with_answer : TaskSet
  with_answer j = cond (eqb j i) b (s j)

  answer_there : with_answer i ≡ b
  answer_there = rw (eq-eqb i i refl)

  answer_other : (j : ℕ) → j < i → with_answer j ≡ s j
  answer_other j h = rw (ne_eqb j i (λ e. omega arith))

  tasks_answered : tasks_from with_answer 0 (i + 1) ≡ tasks_from s 0 i ++ pick b ((i + 1) ∷ []) []
  tasks_answered =
      let before = tasks_cong with_answer s i 0 (λ j l h. answer_other j (omega arith)) in
      rw (add-one i, tasks_more with_answer 0 i, zero-add i, before, answer_there)

module _ {P : ℕ → Bool → Type 0} {slot i n : ℕ} {numbers : List ℕ} (g : Gathered P slot i n numbers) where
  answered : (b : Bool) → P i b → (j : ℕ) → j < i + 1 → P j (with_answer g.members i b j)
  answered b p j h = let le : j ≤ i = omega arith in at (eq-or-lt_of_le le)
    where
      at : (j ≡ i) ⊎ (j < i) → P j (with_answer g.members i b j)
      at (inl e) = rw (e, answer_there g.members i b) p
      at (inr l) = rw (answer_other g.members i b j l) (g.told j l)

  pub gathered_in : i < max_tasks → P i true → Gathered P slot (i + 1) (n + 1) (set numbers n (i + 1))
  gathered_in h p = record {
    members = with_answer g.members i true;
    told = answered true p;
    few = omega (arith, g.few);
    room = rw length-set g.room;
    front =
        let lt : n < length numbers = omega (arith, g.few, g.room) in
        rw (add-one n, take-suc-set numbers n (i + 1) lt, g.front, tasks_answered g.members i true);
  }

  pub gathered_out : P i false → Gathered P slot (i + 1) n numbers
  gathered_out p = record {
    members = with_answer g.members i false;
    told = answered false p;
    few = omega (arith, g.few);
    room = g.room;
    front = g.front ∙ rw (tasks_answered g.members i false, append-nil);
  }

  pub gathered_few : i ≤ max_tasks → length (take n numbers) ≤ max_tasks + 1
  gathered_few h =
      let le : n ≤ length numbers = omega (arith, g.few, g.room) in
      omega (arith, length-take-le n numbers le, g.few)

  pub gathered_all : i ≡ max_tasks → take n numbers ≡ slot ∷ tasks_in g.members
  unfolding tasks_in
  gathered_all e = g.front ∙ ap (λ (k : ℕ). slot ∷ tasks_from g.members 0 k) e
