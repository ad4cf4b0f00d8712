-- The tasks read off the number of a set are the tasks of the set, so the running line names the tasks that run.
use mathlib.Core.Path.{◌≡◌, refl, ap, ◌∙◌}
use mathlib.Core.Bool.{Bool, true, false}
use mathlib.Core.List.{◌∷◌, map}
use Prim.Native.Nat.{ℕ, zero, suc, ◌+◌, ◌-◌, ◌*◌, ◌/◌, ◌%◌, ◌^◌, ◌≤◌, ◌<◌}
use native.Mathlib.Nat.{add-zero, add-suc, suc-add, zero-add, pow-suc, pow-succ', mul_left_comm, div-div-eq-div-mul}
use native.Mathlib.Omega.{arith}
use lib.Dec.{eqb}
use Rattle.std.specs.Int.Bits.{bit_and}
use Rattle.std.proofs.lemmas.Nat.{and_mask}
use Rattle.rules.specs.Words.{bit, sum}
use Rattle.rules.specs.Limits.{max_tasks}
use Rattle.rules.specs.Case.{Case}
use Rattle.rules.specs.Slot.{TaskSet, set_number, tasks_from, tasks_in}
use Rattle.rules.specs.Replay.{ran_at, running_set}
use Rattle.rules.specs.Text.{digits_of}
use Rattle.rules.specs.Writer.{line_text}
use Rattle.rules.specs.Report.{space_byte}
use Rattle.lists.specs.Lists.{tasks_more}
use Rattle.puts.specs.Fields.{running_word}
use Rattle.sets.specs.Sets.{halved, members_of, running_line}

-- ---- of a number, by its bits
halved_is : (i s : ℕ) → halved i s ≡ s / 2 ^ i
unfolding halved
halved_is zero s = omega arith
halved_is (suc i) s = rw (halved_is i s, div-div-eq-div-mul, pow-suc)

pub members_tasks : (s n : ℕ) → members_of s n ≡ tasks_from (λ i. eqb (bit_and (s / 2 ^ i) 1) 1) 0 n
unfolding members_of
members_tasks s zero = unfold tasks_from in refl
members_tasks s (suc n) =
    let lowest : bit_and (s / 2 ^ n) 1 ≡ s / 2 ^ n % 2 = and_mask (s / 2 ^ n) 1 in
    rw (tasks_more (λ i. eqb (bit_and (s / 2 ^ i) 1) 1) 0 n, zero-add n, members_tasks s n, lowest, halved_is n s)

-- ---- of a set
bit_small : (b : Bool) → bit b ≤ 1
bit_small true = omega arith
bit_small false = omega arith

bit-one : (b : Bool) → eqb (bit b) 1 ≡ b
bit-one true = refl
bit-one false = refl

module _ (s : TaskSet) where
  -- the d tasks from i on as a number, the lowest bit first
  from : ℕ → ℕ → ℕ
  from i zero = 0
  from i (suc d) = bit (s i) + 2 * from (suc i) d

  -- one more task at the upper end
  from_suc : (i d : ℕ) → from i (suc d) ≡ from i d + bit (s (i + d)) * 2 ^ d
  unfolding from
  from_suc i zero = rw (add-zero i) (omega arith)
  from_suc i (suc d) =
      rw (from_suc (suc i) d, add-suc i d, ← suc-add i d, pow-succ' 2 d)
      (omega (arith, mul_left_comm 2 (bit (s (suc i + d))) (2 ^ d)))

  sum_from : (n : ℕ) → sum (λ i. bit (s i) * 2 ^ i) 0 n ≡ from 0 n
  unfolding sum from
  sum_from zero = refl
  sum_from (suc n) = rw (sum_from n, from_suc 0 n, zero-add n)

  -- without the i lowest bits it begins at i
  halved_from : (i d : ℕ) → halved i (from 0 (i + d)) ≡ from i d
  unfolding halved from
  halved_from zero d = rw (zero-add d)
  halved_from (suc i) d =
      let e : suc i + d ≡ i + suc d = omega arith in
      rw (e, halved_from i (suc d)) (omega (arith, bit_small (s i)))

  lowest : (i d : ℕ) → from i (suc d) % 2 ≡ bit (s i)
  unfolding from
  lowest i d = omega (arith, bit_small (s i))

  bit_at : (i : ℕ) → i < max_tasks → halved i (set_number s) % 2 ≡ bit (s i)
  unfolding set_number
  bit_at i h =
      let e : max_tasks ≡ i + suc (max_tasks - suc i) = omega arith in
      ap (λ (n : ℕ). halved i n % 2) (sum_from max_tasks ∙ ap (from 0) e) ∙
      rw (halved_from i (suc (max_tasks - suc i))) (lowest i (max_tasks - suc i))

  pub members_are : (n : ℕ) → n ≤ max_tasks → members_of (set_number s) n ≡ tasks_from s 0 n
  unfolding members_of
  members_are zero h = unfold tasks_from in refl
  members_are (suc n) h = rw (tasks_more s 0 n, members_are n (omega arith), bit_at n h, bit-one (s n), zero-add n)

-- the running line of a slot names the tasks that run in it
pub running_is : (c : Case) (t : ℕ) → running_line t (running_set c t)
    ≡ line_text space_byte running_word (map digits_of (t ∷ tasks_in (ran_at c t)))
unfolding running_line tasks_in
running_is c t = rw (members_are (ran_at c t) max_tasks (omega arith))
