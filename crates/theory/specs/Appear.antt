-- Every task of an accepted case has a release (request P1): which cases that pass the earlier tests are accepted, and at which place the
-- others are refused as 16. Laws of the row of tests that every call on a whole case makes (`case_tests` of rules, Refusals).
use Rattle.std.specs.Prelude.{◌≡◌, List, [], ◌∷◌, ℕ, suc, ◌<◌, take}
use Rattle.std.proofs.Math.Path.{refl, ap, sym}
use Rattle.std.proofs.Common.{◌∙◌, arith}
use Rattle.rules.specs.declared.Fault.{Fault}
use Rattle.rules.specs.Case.{Case, task_count, release_count}
use Rattle.rules.specs.Refusals.{no_fault, fault_of, or_next, first, absent_fault, absences_fault, case_tests, case_fault, replay_fault}
use Rattle.rules.specs.Refusals.{running_fault, Accepted}
use Rattle.rules.specs.Answers.{Answer, refusal, settled}
use Rattle.rules.specs.Calls.{replay_answer, running_answer}
use Rattle.rules.specs.Writer.{write_fault, write_answer}
use Rattle.legal.specs.Settled.{refuses}
use Rattle.legal.specs.Firsts.{next_none, next_some, next_clear, stop, row_clear, row_join, row_stop, none_all, first_hit}
use Rattle.legal.specs.Passing.{table_clear, Released, releases_clear, Appears, absent_none, absent_found}
use Rattle.legal.specs.Legal.{legal}

-- the tests that are made before 16
abbrev pub earlier_tests : Case → List Fault
earlier_tests c = take 7 (case_tests c)

-- each task of the table has a release
abbrev pub EachAppears : Case → Type 0
EachAppears c = (i : ℕ) → i < task_count c.table → Appears c.trace i

module _ (c : Case) where
  abbrev last_test : List Fault
  last_test = absences_fault c.table c.trace ∷ []

  -- a case that an earlier test refuses is refused as it would be without 16
  pub refused_earlier : ((first (earlier_tests c)).number ≡ 0 → ⊥) → case_fault c ≡ first (earlier_tests c)
  unfolding case_fault
  refused_earlier h = sym (row_stop (first (earlier_tests c)) (earlier_tests c) last_test refl h)

  module _ (passed : (first (earlier_tests c)).number ≡ 0) where
    -- 16 alone decides of the others
    decided_by_16 : case_fault c ≡ first last_test
    unfolding case_fault
    decided_by_16 = sym (row_join (earlier_tests c) last_test) ∙ next_none (first (earlier_tests c)) (first last_test) passed

    pub each_appears_accepted : EachAppears c → Accepted c
    unfolding Accepted
    each_appears_accepted a =
        let none = none_all (absent_fault c.trace) (task_count c.table) (λ i h. absent_none c.trace i (a i h)) in
        ap (λ (f : Fault). f.number) (decided_by_16 ∙ next_none (absences_fault c.table c.trace) no_fault
        (ap (λ (f : Fault). f.number) none))

    -- the lowest task without a release is the place
    pub lowest_refused : (i : ℕ) → i < task_count c.table → ((k : ℕ) → k < i → Appears c.trace k)
        → (Appears c.trace i → ⊥)
        → case_fault c ≡ fault_of 16 (suc i)
    lowest_refused i h below none =
        let fault = fault_of 16 (suc i) in
        let some : fault.number ≡ 0 → ⊥ = λ q. absurd (omega arith) in
        let lower = none_all (absent_fault c.trace) i (λ k l. absent_none c.trace k (below k l)) in
        let found = first_hit (absent_fault c.trace) i (task_count c.table) h lower fault some (absent_found c.trace i none) in
        decided_by_16 ∙ ap (λ (f : Fault). or_next f no_fault) (sym found) ∙ next_some fault no_fault some

    -- the first task has no release where none has one: the trace is empty, or no time is before the end
    first-refused : (Appears c.trace 0 → ⊥) → case_fault c ≡ fault_of 16 1
    first-refused none =
        let w = row_clear (earlier_tests c) passed in
        lowest_refused 0 (table_clear c.table w.1.1.0).some (λ k l. absurd (omega arith)) none

    pub no_release_refused : release_count c.trace ≡ 0 → case_fault c ≡ fault_of 16 1
    no_release_refused z = first-refused (λ a. absurd (omega (arith, a.of_trace)))

    pub end_0_refused : c.end ≡ 0 → case_fault c ≡ fault_of 16 1
    end_0_refused z = first-refused (λ a. absurd (omega (arith, (released a.release a.of_trace).soon)))
      where
        released : (j : ℕ) → j < release_count c.trace → Released c.table c.end c.trace j
        released = releases_clear c.table c.end c.trace (row_clear (earlier_tests c) passed).1.1.1.1.1.1.0

-- ---- before 13 and 15: what is at fault in a case is what each call on it answers, whatever room is lent and whatever slot is named
module _ (c : Case) (fault : (case_fault c).number ≡ 0 → ⊥) where
  abbrev refused : Answer
  refused = refusal (case_fault c).number (case_fault c).place

  settled-first : (later : Fault) (values : List ℕ) → settled (first (case_fault c ∷ later ∷ [])) values ≡ refused
  settled-first later values = sym (refuses (case_fault c) _ (stop (case_fault c) (case_fault c) _ refl fault) values fault)

  pub replay_refuses : (room : List ℕ) → replay_answer c room ≡ refused
  unfolding replay_answer replay_fault
  replay_refuses room = settled-first _ _

  pub running_refuses : (s : ℕ) → running_answer c s ≡ refused
  unfolding running_answer running_fault
  running_refuses s = settled-first _ _

  pub write_refuses : (room : List ℕ) → write_answer c room ≡ refused
  unfolding write_answer write_fault
  write_refuses room = settled-first _ _

-- ---- an accepted case passes the earlier tests, and each of its tasks has a release
pub accepted_each_appears : (c : Case) → Accepted c → ((first (earlier_tests c)).number ≡ 0) × EachAppears c
unfolding Accepted case_fault
accepted_each_appears c ok =
    let whole = row_join (earlier_tests c) (absences_fault c.table c.trace ∷ []) in
    ((next_clear (first (earlier_tests c)) _ (ap (λ (f : Fault). f.number) whole ∙ ok)).0, (legal c ok).appear)
