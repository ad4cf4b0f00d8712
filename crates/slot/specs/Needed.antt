-- What a slot needs of its numbers, so that no sum wraps, no index is out of range and the free counts that it is lent are those of the
-- table. A caller with an accepted case has all of it.
use Rattle.std.specs.Prelude.{ℕ, ◌≤◌, ◌≡◌, Bool, true, false, List, get_or}
use Rattle.rules.specs.Slot.{Setup, free_count_in}
use Rattle.jobs.specs.Tasks.{Early, Startable}

-- of a slot of the setup `g` at time `now`, which is lent the free counts of the table's tasks
pub record Needed (g : Setup) (now : ℕ) (counts : List ℕ) (released : List Bool) : Type 0 where
  pub some : 1 ≤ g.procs
  pub early : Early now
  pub startable : (i : ℕ) → get_or released i false ≡ true → Startable g.table i (get_or counts i 0)
  pub counted : (i : ℕ) → get_or released i false ≡ true → get_or counts i 0 ≡ free_count_in g i
