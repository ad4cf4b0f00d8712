-- How long the words of a slot can be.
use mathlib.Core.Bool.{Bool, true, false, not}
use Prim.Native.Nat.{ℕ, ◌-◌, ◌≤◌}
use native.Mathlib.Omega.{arith}
use lib.Dec.{eqb}
use lib.ListN.{length, length-append}
use Rattle.rules.specs.Words.{pick}
use Rattle.rules.specs.Slot.{Setup, TaskSet, is_demoted, due_of}
use Rattle.rules.specs.declared.Job.{Job}
use Rattle.rules.specs.declared.Run.{Run}
use Rattle.texts.specs.Digits.{at_most_ten}
use Rattle.reasons.specs.Reasons.{sign_bytes, words}
use Rattle.blame.specs.Blames.{kind_words, job_words, pair_words, absent_words, count_words, waiting_words, fault_words}
use Rattle.blame.specs.Blames.{absent_task, ran_count, due_count, overtaking_task, waiting_task, job_of, kind_room, job_room, fault_room}

pub kind_short : (j : Job) → length (kind_words j) ≤ kind_room
unfolding kind_words words sign_bytes
kind_short j = go (is_demoted j)
  where
    go : (b : Bool) → length (pick b (words " (demoted, deadline ") (words " (normal, deadline ")) ≤ kind_room
    go true = omega arith
    go false = omega arith

pub job_short : (task : ℕ) (j : Job) → length (job_words task j) ≤ job_room
unfolding job_words words sign_bytes
job_short task j = simp length-append (omega (arith, at_most_ten task, kind_short j, at_most_ten (due_of j)))

pair_short : (j : ℕ) (a : Job) (i : ℕ) (b : Job) → length (pair_words j a i b) ≤ fault_room
unfolding pair_words words sign_bytes
pair_short j a i b = simp length-append (omega (arith, job_short j a, job_short i b))

absent_short : (task : ℕ) → length (absent_words task) ≤ fault_room
unfolding absent_words words sign_bytes
absent_short task = simp length-append (omega (arith, at_most_ten task))

count_short : (ran due : ℕ) → length (count_words ran due) ≤ fault_room
unfolding count_words words sign_bytes
count_short ran due = simp length-append (omega (arith, at_most_ten ran, at_most_ten due))

waiting_short : (g : Setup) (now : ℕ) (r : Run) (runs : TaskSet) (j : ℕ) → length (waiting_words g now r runs j) ≤ fault_room
unfolding waiting_words words sign_bytes
waiting_short g now r runs j = go (eqb j 0) (overtaking_task g now r runs (j - 1))
  where
    go : (b : Bool) (i : ℕ) → length (pick b (words "keeps the rule") (pair_words j (job_of r j) i (job_of r i))) ≤ fault_room
    go true i = omega arith
    go false i = pair_short j (job_of r j) i (job_of r i)

pub fault_short : (g : Setup) (now : ℕ) (r : Run) (names : Bool) (runs : TaskSet)
    → length (fault_words g now r names runs) ≤ fault_room
unfolding fault_words words sign_bytes
fault_short g now r names runs = go (not names) (not (eqb (absent_task r runs) 0)) (not (eqb (ran_count runs) (due_count g r)))
  where
    go : (a b c : Bool)
        → length
        (pick a (words "names a number that is no task")
        (pick b (absent_words (absent_task r runs))
        (pick c (count_words (ran_count runs) (due_count g r)) (waiting_words g now r runs (waiting_task g now r runs)))))
        ≤ fault_room
    go true b c = omega arith
    go false true c = absent_short (absent_task r runs)
    go false false true = count_short (ran_count runs) (due_count g r)
    go false false false = waiting_short g now r runs (waiting_task g now r runs)
