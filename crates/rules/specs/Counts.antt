-- Contention-free counts (document 01, "Contention-free counts"; source document 001, equation 2): the availability of a task, the count
-- for l slots, the free count of a task. Step 2 of a slot gives a job its free count from here, and the counts call writes them all.
use Rattle.std.specs.Prelude.{ℕ, suc, ◌+◌, ◌*◌, ◌-◌, ◌/◌, ◌%◌, min, List}
use Rattle.rules.specs.Words.{sum, tab}
use Rattle.rules.specs.Case.{task_count, period, deadline}

-- the availability of a task in l slots: floor(l / T) × D + min(D, l mod T)
unfoldable pub availability : ℕ → ℕ → ℕ → ℕ
availability T D l = l / T * D + min D (l % T)

-- S: the sum of the availabilities of all tasks of the table, the task itself included
unfoldable pub availabilities : List ℕ → ℕ → ℕ
availabilities ts l = sum (λ i. availability (period ts i) (deadline ts i) l) 0 (task_count ts)

-- the count for l: max(0, l − floor(S / (m + 1))); a difference of ℕ is never below 0
unfoldable pub count : ℕ → List ℕ → ℕ → ℕ
count m ts l = l - availabilities ts l / suc m

-- a task's free count is the count for l = D
unfoldable pub free_count : ℕ → List ℕ → ℕ → ℕ
free_count m ts i = count m ts (deadline ts i)

-- the free counts of a table, in its order
abbrev pub free_counts : ℕ → List ℕ → List ℕ
free_counts m ts = tab (free_count m ts) 0 (task_count ts)
