-- What the reader's answer says of the text: a refusal is the text's, and the case read is the text's case and accepted.
use mathlib.Core.Path.{◌≡◌, sym, ap, ◌∙◌}
use mathlib.Core.List.{List, [], ◌∷◌}
use Prim.Native.Nat.{ℕ, ◌*◌, ◌≤◌}
use native.Mathlib.Omega.{arith}
use lib.ListN.{length, get_or, take, drop, length-append}
use Rattle.rules.specs.declared.Fault.{Fault}
use Rattle.rules.specs.Limits.{max_tasks, max_releases, task_width, release_width}
use Rattle.rules.specs.Case.{case_of, task_count, release_count}
use Rattle.rules.specs.Refusals.{fault_of}
use Rattle.rules.specs.Answers.{refusal, result, settled}
use Rattle.rules.specs.Reader.{case_in, text_fault, read_fault, case_values, read_answer, read_tasks, read_releases}
use Rattle.legal.specs.Legal.{Legal, legal}
use Rattle.legal.specs.Settled.{settled_result}
use Rattle.texts.specs.Passing.{read_clear, read_roomy}
use Rattle.roundtrip.specs.RoundTrip.{case_accepted}
use Rattle.roundtrip.specs.CallTrip.{in_hand, ReadAs, read_as}
use Rattle.report.proofs.Answers.{refused_by}

module _ (s ts rs : List ℕ) where
  -- ---- a refusal
  module _ (n p : ℕ) (a : max_tasks * task_width ≤ length ts) (b : max_releases * release_width ≤ length rs)
      (h : refusal n p ≡ read_answer s ts rs) where
    pub refused_fault : ((text_fault s).number ≡ 0 → ⊥) × (fault_of n p ≡ text_fault s)
    unfolding read_answer
    refused_fault =
        refused_by (text_fault s) _ n p (h ∙ ap (λ (f : Fault). settled f (case_values (case_in s))) (read_roomy s _ _ a b))

  -- ---- a case
  module _ (m p e n k : ℕ) (h : result (m ∷ p ∷ e ∷ n ∷ k ∷ []) ≡ read_answer s ts rs) where
    settled_read : ((read_fault s (length ts) (length rs)).number ≡ 0) × (case_values (case_in s) ≡ m ∷ p ∷ e ∷ n ∷ k ∷ [])
    unfolding read_answer
    settled_read = settled_result (read_fault s (length ts) (length rs)) (case_values (case_in s)) _ (sym h)

    pub text_clear : (text_fault s).number ≡ 0
    text_clear = (read_clear s _ _ settled_read.0).text

    stands : Legal (case_in s)
    stands = legal (case_in s) (case_accepted s text_clear)

    read : ReadAs s ts rs (case_in s)
    read = read_as s ts rs settled_read.0 stands

    tasks_read : n ≡ task_count (case_in s).table
    unfolding case_values
    tasks_read = sym (ap (λ l. get_or l 3 0) settled_read.1)

    releases_read : k ≡ release_count (case_in s).trace
    unfolding case_values
    releases_read = sym (ap (λ l. get_or l 4 0) settled_read.1)

    pub tasks_few : n ≤ max_tasks
    tasks_few = omega (arith, tasks_read, stands.tasks_few)

    pub releases_few : k ≤ max_releases
    releases_few = omega (arith, releases_read, stands.releases_few)

    -- the numbers read are there
    pub tasks_long : n * task_width ≤ length (read_tasks s ts rs)
    tasks_long =
        omega (
          arith,
          tasks_read,
          stands.threes,
          ap length read.tasks_after
              ∙ length-append (case_in s).table (drop (length (case_in s).table) ts),
        )

    pub releases_long : k * release_width ≤ length (read_releases s ts rs)
    releases_long =
        omega (
          arith,
          releases_read,
          stands.twos,
          ap length read.releases-after
              ∙ length-append (case_in s).trace (drop (length (case_in s).trace) rs),
        )

    -- what the caller has in hand is the case of the text
    pub case_read : case_of m p (take (n * task_width) (read_tasks s ts rs)) e (take (k * release_width) (read_releases s ts rs))
        ≡ case_in s
    unfolding in_hand
    case_read = ap (λ l. in_hand l (read_tasks s ts rs) (read_releases s ts rs)) (sym settled_read.1) ∙ read.in_hand_lem
