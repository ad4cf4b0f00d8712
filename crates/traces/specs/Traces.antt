-- A trace that can be gone through by time, and the releases of one time as a list: what the code of a walk over the slots asks and says,
-- beside the definitions of "What happens at time t".
use Rattle.std.specs.Prelude.{Bool, ◌&&◌, List, ℕ, ◌≤◌, ◌<◌, eqb, ltb}
use Rattle.rules.specs.Words.{tab}
use Rattle.rules.specs.Limits.{max_tasks}
use Rattle.rules.specs.Case.{release_count, time_of, name_of}
use Rattle.rules.specs.Replay.{released_in}

-- a trace in order whose names are task numbers
pub record Orderly (rs : List ℕ) : Type 0 where
  pub named : (j : ℕ) → j < release_count rs → (1 ≤ name_of rs j) × (name_of rs j ≤ max_tasks)
  pub sorted : (j k : ℕ) → j ≤ k → k < release_count rs → time_of rs j ≤ time_of rs k

-- which tasks the first k releases release at t
abbrev pub releases : List ℕ → ℕ → ℕ → List Bool
releases rs k t = tab (released_in rs k t) 0 max_tasks

-- the next release is one of time t
abbrev pub due : List ℕ → ℕ → ℕ → Bool
due rs next t = ltb next (release_count rs) && eqb (time_of rs next) t
