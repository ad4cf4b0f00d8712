-- The refusals on numbers (document 01, "Refusals by number", and request P1, which adds 16): each a test with its number and place, and
-- for each public call the list of tests that it makes, of which the first that fails is the answer. The refusals of a text, 1 to 3, are
-- in Reader.
use Rattle.std.specs.Prelude.{ℕ, zero, suc, ◌+◌, ◌*◌, ◌-◌, ◌%◌, ◌≡◌, Bool, true, false, ◌&&◌, ◌||◌, List, [], ◌∷◌, eqb, ltb, leb, length}
use Rattle.std.specs.Prelude.{Result, Ok, Err}
use Rattle.rules.specs.Words.{pick, count_in}
use Rattle.rules.specs.Limits.{max_procs, max_tasks, max_period, max_end, max_releases, task_width, release_width, record_width}
use Rattle.rules.specs.Case.{Case, task_count, period, execution, deadline, release_count, time_of, name_of}
use Rattle.rules.specs.Policies.{max_policy}
use Rattle.rules.specs.declared.Fault.{Fault}

abbrev pub fault_of : ℕ → ℕ → Fault
fault_of n p = record { number = n; place = p }

abbrev pub no_fault : Fault
no_fault = fault_of 0 0

-- what is answered where x is right if nothing is at fault: x, or the fault
abbrev pub unless_fault : {A : Type 0} → Fault → A → Result A Fault
unless_fault f x = pick (eqb f.number 0) (Ok x) (Err f)

-- what a check answers: nothing is at fault, or the fault that it found
abbrev pub checked : Fault → Result (Unit {0}) Fault
checked f = unless_fault f tt

-- a refusal by its number and place unless the test holds
abbrev pub unless : Bool → ℕ → ℕ → Fault
unless true n p = no_fault
unless false n p = fault_of n p

-- the first fault where there is one, else the second
unfoldable pub or_next : Fault → Fault → Fault
or_next f g = pick (eqb f.number 0) g f

-- the first fault of a list of tests
abbrev pub first : List Fault → Fault
first [] = no_fault
first (f ∷ fs) = or_next f (first fs)

-- the first fault of f 0, .., f (n - 1)
unfoldable pub first_of : (ℕ → Fault) → ℕ → Fault
first_of f zero = no_fault
first_of f (suc n) = or_next (first_of f n) (f n)

-- ---- 4: processors not 1 to 32
unfoldable pub procs_fault : ℕ → Fault
procs_fault m = unless (leb 1 m && leb m max_procs) 4 0

-- ---- 14: policy not 0 or 1
unfoldable pub policy_fault : ℕ → Fault
policy_fault p = unless (leb p max_policy) 14 0

-- ---- 5: tasks not 1 to 32, or task numbers not in threes
unfoldable pub table_fault : List ℕ → Fault
table_fault ts = unless (eqb (length ts % task_width) 0 && leb 1 (task_count ts) && leb (task_count ts) max_tasks) 5 0

-- ---- 6: a task breaks 1 ≤ C ≤ D ≤ T ≤ 10,000; place the lowest such task
abbrev pub task_stands : ℕ → ℕ → ℕ → Bool
task_stands T C D = leb 1 C && leb C D && leb D T && leb T max_period

unfoldable pub task_fault : List ℕ → ℕ → Fault
task_fault ts i = unless (task_stands (period ts i) (execution ts i) (deadline ts i)) 6 (suc i)

abbrev pub tasks_fault : List ℕ → Fault
tasks_fault ts = first_of (task_fault ts) (task_count ts)

-- ---- 7: end over 100,000
unfoldable pub end_fault : ℕ → Fault
end_fault e = unless (leb e max_end) 7 0

-- ---- 12: over 2,000 releases, or release numbers not in twos
unfoldable pub trace_fault : List ℕ → Fault
trace_fault rs = unless (eqb (length rs % release_width) 0 && leb (release_count rs) max_releases) 12 0

-- ---- release by release 8, 11, 9, 10; place the release
-- 8: a release names no task of the table
abbrev pub named : List ℕ → ℕ → Bool
named ts name = leb 1 name && leb name (task_count ts)

-- 9: a release does not come later than the one before it by (time, task)
abbrev pub later_than : ℕ → ℕ → ℕ → ℕ → Bool
later_than t₀ n₀ t n = ltb t₀ t || (eqb t₀ t && ltb n₀ n)

unfoldable pub in_order : List ℕ → ℕ → Bool
in_order rs zero = true
in_order rs (suc j) = later_than (time_of rs j) (name_of rs j) (time_of rs (suc j)) (name_of rs (suc j))

-- one more than the time of the last release of the named task among the first j; 0 where there is none
unfoldable pub last_before : List ℕ → ℕ → ℕ → ℕ
last_before rs zero name = 0
last_before rs (suc j) name = pick (eqb (name_of rs j) name) (suc (time_of rs j)) (last_before rs j name)

-- 10: less than T since the last release of that task
abbrev pub apart : ℕ → ℕ → ℕ → Bool
apart zero T t = true
apart (suc u) T t = leb (u + T) t

-- the tests of release j in their order: 8, 11 (a release time ≥ end), 9, 10
abbrev pub release_tests : List ℕ → ℕ → List ℕ → ℕ → List Fault
release_tests ts e rs j =
    unless (named ts (name_of rs j)) 8 (suc j) ∷
    unless (ltb (time_of rs j) e) 11 (suc j) ∷
    unless (in_order rs j) 9 (suc j) ∷
    unless (apart (last_before rs j (name_of rs j)) (period ts (name_of rs j - 1)) (time_of rs j)) 10 (suc j) ∷ []

unfoldable pub release_fault : List ℕ → ℕ → List ℕ → ℕ → Fault
release_fault ts e rs j = first (release_tests ts e rs j)

abbrev pub releases_fault : List ℕ → ℕ → List ℕ → Fault
releases_fault ts e rs = first_of (release_fault ts e rs) (release_count rs)

-- ---- 16: a task without a release; place the lowest such task
-- how many releases the task at i has
abbrev pub releases_of : List ℕ → ℕ → ℕ
releases_of rs i = count_in (λ j. eqb (name_of rs j) (suc i)) 0 (release_count rs)

unfoldable pub absent_fault : List ℕ → ℕ → Fault
absent_fault rs i = unless (leb 1 (releases_of rs i)) 16 (suc i)

abbrev pub absences_fault : List ℕ → List ℕ → Fault
absences_fault ts rs = first_of (absent_fault rs) (task_count ts)

-- ---- 13: lent room too short
unfoldable pub room_fault : ℕ → ℕ → Fault
room_fault need room = unless (leb need room) 13 0

-- ---- 15: named slot ≥ end
unfoldable pub slot_fault : ℕ → ℕ → Fault
slot_fault e s = unless (ltb s e) 15 0

-- ---- which tests a call makes, in their order
-- 4, 14, 5, 6, 7, 12, then release by release 8, 11, 9, 10, then 16: what every call on a whole case makes
abbrev pub case_tests : Case → List Fault
case_tests c =
    procs_fault c.procs ∷
    policy_fault c.policy ∷
    table_fault c.table ∷
    tasks_fault c.table ∷
    end_fault c.end ∷
    trace_fault c.trace ∷
    releases_fault c.table c.end c.trace ∷
    absences_fault c.table c.trace ∷ []

unfoldable pub case_fault : Case → Fault
case_fault c = first (case_tests c)

-- the counts: 4, 5, 6, 13, with room for one number a task
abbrev pub counts_tests : ℕ → List ℕ → ℕ → List Fault
counts_tests m ts room = procs_fault m ∷ table_fault ts ∷ tasks_fault ts ∷ room_fault (task_count ts) room ∷ []

unfoldable pub counts_fault : ℕ → List ℕ → ℕ → Fault
counts_fault m ts room = first (counts_tests m ts room)

-- the replay: the case's, then 13, with room for three numbers a release
unfoldable pub replay_fault : Case → ℕ → Fault
replay_fault c room = first (case_fault c ∷ room_fault (release_count c.trace * record_width) room ∷ [])

-- the running set: the case's, then 15
unfoldable pub running_fault : Case → ℕ → Fault
running_fault c s = first (case_fault c ∷ slot_fault c.end s ∷ [])

-- an accepted case: no test on its numbers finds a fault
unfoldable pub Accepted : Case → Type 0
Accepted c = (case_fault c).number ≡ 0
