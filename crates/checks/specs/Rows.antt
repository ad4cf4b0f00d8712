-- The parts of the row of tests (rules, Refusals) that one function makes, and what those after the table ask of it.
-- These stand in contracts of inner functions alone; a public call asks nothing of its caller.
use Rattle.std.specs.Prelude.{ℕ, List, [], ◌∷◌}
use Rattle.rules.specs.Refusals.{procs_fault, policy_fault, table_fault, tasks_fault, end_fault, trace_fault, releases_fault}
use Rattle.rules.specs.Refusals.{absences_fault}
use Rattle.rules.specs.declared.Fault.{Fault}
pub use Rattle.legal.specs.Passing.{Sound}

-- the tests on the table: 5, 6
abbrev pub table_tests : List ℕ → List Fault
table_tests ts = table_fault ts ∷ tasks_fault ts ∷ []

-- those up to the table: 4, 14, 5, 6
abbrev pub head_tests : ℕ → ℕ → List ℕ → List Fault
head_tests m p ts = procs_fault m ∷ policy_fault p ∷ table_tests ts

-- those after it: 7, 12, then release by release, then 16
abbrev pub trace_tests : List ℕ → ℕ → List ℕ → List Fault
trace_tests ts e rs = end_fault e ∷ trace_fault rs ∷ releases_fault ts e rs ∷ absences_fault ts rs ∷ []
