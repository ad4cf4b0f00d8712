-- What the tests of tasks and releases (rules, Refusals) ask of each other, and what they keep of the releases that they have tested.
-- These stand in contracts of inner functions alone; a public call asks nothing of its caller.
use Rattle.std.specs.Prelude.{ℕ, suc, ◌≤◌, List, leb, get_or, ◌≡◌, Result, Ok}
use Rattle.rules.specs.Words.{tab}
use Rattle.rules.specs.Limits.{max_tasks, max_end}
use Rattle.rules.specs.Case.{release_count}
use Rattle.rules.specs.Refusals.{checked, unless, last_before, releases_fault}
use Rattle.rules.specs.declared.Fault.{Fault}
pub use Rattle.legal.specs.Passing.{Sound}

-- one more than each task's last release among the first j
abbrev pub lasts : List ℕ → ℕ → List ℕ
lasts rs j = tab (λ i. last_before rs j (suc i)) 0 max_tasks

-- the first j releases are before the largest end
abbrev pub Early : List ℕ → ℕ → Type 0
Early rs j = (name : ℕ) → last_before rs j name ≤ max_end

-- every release is tested: what is found, and where that is nothing, one more than each task's last release of all
pub record ReleasesTested (ts : List ℕ) (e : ℕ) (rs last : List ℕ) (found : Result (Unit {0}) Fault) : Type 0 where
  pub found_first : found ≡ checked (releases_fault ts e rs)
  pub all_kept : found ≡ Ok tt → last ≡ lasts rs (release_count rs)

-- 16 of the task at i, from what is kept of its last release
unfoldable pub unkept_fault : List ℕ → ℕ → Fault
unkept_fault last i = unless (leb 1 (get_or last i 0)) 16 (suc i)
