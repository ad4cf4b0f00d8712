-- Parts 1 and 2 of demand 3 for any sets that keep the rule slot by slot, under EDF-CF: the theorems about courses (theory, Demand3).
use Rattle.std.specs.Prelude.{◌≡◌, true, ℕ, ◌≤◌, ◌<◌}
use Rattle.std.proofs.Common.{arith, leb-true}
use Rattle.rules.specs.Words.{count_in}
use Rattle.rules.specs.Case.{Case, deadline, time_of}
use Rattle.rules.specs.Counts.{free_count}
use Rattle.rules.specs.Policies.{demoting}
use Rattle.rules.specs.Refusals.{Accepted}
use Rattle.rules.specs.Slot.{TaskSet, contention_free, jobs_now}
use Rattle.rules.specs.Replay.{setup_in}
use Rattle.bridge.specs.Course.{contention_free_in, counted_in, opened_in, finish_in, demotion_in}
use Rattle.legal.specs.Legal.{legal}
use Rattle.bridge.specs.Records.{task_at, sole}
use Rattle.theory.specs.Lawful.{Lawful, Attends, jobs_opened}
use Rattle.theory.specs.Accept.{lawful}
use Rattle.theory.specs.Demand3.{course_free_slots, course_demoted_meets, due_at, Judged}
use Rattle.logs.specs.Rule.{obeys_all}
use Rattle.logs.specs.Follow.{course_of, course_opened, Follows}

-- sets that keep the rule attend to every contention-free slot
pub follows_attends : (c : Case) (works : ℕ → TaskSet) (e : ℕ) → Follows c works e → Attends (course_of c works) e
unfolding contention_free_in contention_free
follows_attends c works e f t i h l free p =
    let k = course_of c works in
    let counted : jobs_now (counted_in k t) ≤ c.procs = leb-true _ _ free in
    let few : jobs_now (opened_in k t) ≤ c.procs = omega (arith, jobs_opened k t) in
    let o = rw (← (course_opened c works t)) at (f t h) in
    obeys_all (setup_in c) t (opened_in k t) (works t) o few i l p

-- the releases of an accepted case are lawful, whatever is worked
pub course_lawful : (c : Case) → Accepted c → (works : ℕ → TaskSet) → Lawful (course_of c works)
course_lawful c ok works =
    let g = lawful c (legal c ok) in
    record { tasks_few = g.tasks_few; good = g.good; named = g.named; separate = g.separate }

-- 1. of the slots from a job's release to its deadline at least its task's free count are contention-free
pub follows_free_slots : (c : Case) → Accepted c → (works : ℕ → TaskSet) → (j : ℕ) → Judged c j
    → free_count c.procs c.table (task_at c j) ≤ count_in (contention_free_in (course_of c works)) (time_of c.trace j)
    (deadline c.table (task_at c j))
unfolding free_count
follows_free_slots c ok works j h = course_free_slots (course_of c works) (course_lawful c ok works) (time_of c.trace j)
    (deadline c.table (task_at c j))

-- 2. under EDF-CF a job that is demoted finishes after its release and not after its deadline
pub follows_demoted_meets : (c : Case) → Accepted c → demoting c.policy ≡ true → (works : ℕ → TaskSet)
    → Follows c works c.end → (j : ℕ) → Judged c j
    → 0 < demotion_in (course_of c works) (task_at c j) (time_of c.trace j)
    → (time_of c.trace j < finish_in (course_of c works) (task_at c j) (time_of c.trace j))
    × (finish_in (course_of c works) (task_at c j) (time_of c.trace j) ≤ due_at c j)
follows_demoted_meets c ok cf works f j h d =
    course_demoted_meets (course_of c works) c.end (task_at c j) (time_of c.trace j) (course_lawful c ok works) cf
    (follows_attends c works c.end f)
    (sole c (legal c ok) j h.0).released h.1 d
