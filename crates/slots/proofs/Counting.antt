-- The counts that `start` writes, as far as it has come.
use mathlib.Core.Path.{◌≡◌, ◌∙◌}
use mathlib.Core.List.{List}
use Prim.Native.Nat.{ℕ, ◌+◌, ◌≤◌, ◌<◌}
use native.Mathlib.Omega.{arith}
use borrow.Author.Count.{below_more}
use lib.ListN.{length, get_or, set}
use lib.Seq.{get_or-set_same, get_or-set_other}
use Rattle.rules.specs.Case.{task_count}
use Rattle.rules.specs.Counts.{free_count}

-- the counts of the tasks before i are written
abbrev pub Counting : ℕ → List ℕ → List ℕ → ℕ → Type 0
Counting procs table counts i = (k : ℕ) → k < i → k < task_count table → get_or counts k 0 ≡ free_count procs table k

module _ (procs : ℕ) (table counts : List ℕ) (i : ℕ) (w : Counting procs table counts i) where
  pub counting_store : (n : ℕ) → i < length counts → n ≡ free_count procs table i → Counting procs table (set counts i n) (i + 1)
  counting_store n l e = below_more _ i
      (λ k h m. get_or-set_other counts i k n 0 (λ z. omega arith) ∙ w k h m)
      (λ m. get_or-set_same counts i n 0 l ∙ e)

  pub counting_past : task_count table ≤ i → Counting procs table counts (i + 1)
  counting_past l = λ k h m. w k (omega arith) m
