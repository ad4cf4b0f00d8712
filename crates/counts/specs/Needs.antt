-- What the counts say to the replay, beside the rules: that an array holds the free counts (rules, Counts) of a table that stands.
-- The contract of `free_counts` says it, and the replay and the running set rest on it.
use Rattle.std.specs.Prelude.{ℕ, suc, ◌*◌, ◌<◌, ◌≡◌, List, get_or}
use Rattle.rules.specs.Limits.{max_period}
use Rattle.rules.specs.Case.{task_count}
use Rattle.rules.specs.Counts.{free_count}

-- an array that holds the free count of each task of the table
abbrev pub Counts : ℕ → List ℕ → List ℕ → Type 0
Counts m ts counts = (i : ℕ) → i < task_count ts → get_or counts i 0 ≡ free_count m ts i

-- no availability in at most max_period slots is larger: l / T and D are at most max_period, and min D .. is too
abbrev pub max_availability : ℕ
max_availability = max_period * suc max_period
