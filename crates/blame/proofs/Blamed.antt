-- What is wrong, as it is laid: each part of the rule by the test that finds it broken, where the tests before it found nothing.
use mathlib.Core.Path.{◌≡◌}
use mathlib.Core.Bool.{Bool, true, false, not}
use mathlib.Core.List.{List}
use Prim.Native.Nat.{ℕ, ◌+◌, ◌-◌}
use native.Mathlib.Omega.{arith}
use borrow.Author.Tests.{eq-eqb, ne_eqb}
use Rattle.rules.specs.Slot.{Setup, TaskSet, job_at}
use Rattle.rules.specs.declared.Run.{Run}
use Rattle.puts.specs.Laid.{Laid}
use Rattle.reasons.specs.Reasons.{words}
use Rattle.blame.specs.Blames.{absent_task, ran_count, due_count, overtaking_task, waiting_task, pair_words, absent_words}
use Rattle.blame.specs.Blames.{count_words, waiting_words, fault_words}

module _ (g : Setup) (now : ℕ) (r : Run) (runs : TaskSet) {at : ℕ} {old new : List ℕ} {end : ℕ} where
  -- ---- which task waits
  pub none_waits : waiting_task g now r runs ≡ 0 → Laid at (words "keeps the rule") old new end
      → Laid at (waiting_words g now r runs (waiting_task g now r runs)) old new end
  unfolding waiting_words
  none_waits e l = rw e l

  pub one_waits : (j i : ℕ) → waiting_task g now r runs ≡ j + 1 → overtaking_task g now r runs j ≡ i + 1
      → Laid at (pair_words (j + 1) (job_at r j) (i + 1) (job_at r i)) old new end
      → Laid at (waiting_words g now r runs (waiting_task g now r runs)) old new end
  unfolding waiting_words
  one_waits j i e f l =
      let n : j + 1 ≡ 0 → ⊥ = λ z. omega arith in
      let b : j + 1 - 1 ≡ j = omega arith in
      let d : i + 1 - 1 ≡ i = omega arith in
      rw (e, ne_eqb (j + 1) 0 n, b, f, d) l

  -- ---- the first that applies
  module _ (names : Bool) where
    pub no_task_lem : not names ≡ true → Laid at (words "names a number that is no task") old new end
        → Laid at (fault_words g now r names runs) old new end
    unfolding fault_words
    no_task_lem h l = rw h l

    module _ (h : not names ≡ false) where
      pub one-absent : (i : ℕ) → absent_task r runs ≡ i + 1 → Laid at (absent_words (i + 1)) old new end
          → Laid at (fault_words g now r names runs) old new end
      unfolding fault_words
      one-absent i e l =
          let n : i + 1 ≡ 0 → ⊥ = λ z. omega arith in
          rw (h, e, ne_eqb (i + 1) 0 n) l

      module _ (z : absent_task r runs ≡ 0) {n m : ℕ} (f : n ≡ ran_count runs) (d : m ≡ due_count g r) where
        pub wrong_count : (n ≡ m → ⊥) → Laid at (count_words n m) old new end → Laid at (fault_words g now r names runs) old new end
        unfolding fault_words
        wrong_count p l = rw (h, z, ← f, ← d, ne_eqb n m p) l

        pub right_count : n ≡ m → Laid at (waiting_words g now r runs (waiting_task g now r runs)) old new end
            → Laid at (fault_words g now r names runs) old new end
        unfolding fault_words
        right_count p l = rw (h, z, ← f, ← d, eq-eqb n m p) l
