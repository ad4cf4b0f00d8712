-- The converter (request P6) in the words of the public calls, for any answers that keep the promises of the calls (rules, Calls): what the
-- reader answers to what was converted, what the converter answers to it, and what a refusal is and leaves. Asked is only that the first
-- call gave a result and that the second has room.
use Rattle.std.specs.Prelude.{◌≡◌, refl, List, [], ◌∷◌, ◌++◌, ℕ, ◌*◌, ◌≤◌, length, get_or, take, drop}
use Rattle.std.proofs.Common.{sym, ap, ap₂, ◌∙◌, subst, arith, length-append}
use Rattle.rules.specs.declared.Fault.{Fault}
use Rattle.rules.specs.declared.Taken.{Taken}
use Rattle.rules.specs.Limits.{max_tasks, max_releases, max_text, task_width, release_width}
use Rattle.rules.specs.Answers.{refusal, result, written_as}
use Rattle.rules.specs.Calls.{ReadPromise, ConvertPromise}
use Rattle.rules.specs.Reader.{case_in, text_fault, case_values}
use Rattle.rules.specs.Convert.{old_case_in, converted, convert_fault, convert_answer, convert_bytes}
use Rattle.lists.specs.Lists.{take-first}
use Rattle.legal.specs.Legal.{legal}
use Rattle.legal.specs.Settled.{settled_clear, kept_new, settled_result}
use Rattle.legal.specs.Settled as Settled
use Rattle.texts.specs.Passing.{length_clear, read_roomy}
use Rattle.roundtrip.specs.RoundTrip.{case_accepted}
use Rattle.roundtrip.specs.CallTrip.{in_hand, ReadAs, read_as, Read, Wrote}
use Rattle.conversion.specs.Conversion.{case_converted, converted_once, fault_converted, refuses, Converts, converts}
use Rattle.std.specs.Prelude.{Result}

-- ---- one call
-- where nothing is at fault
answer_clear : (s room : List ℕ) → (convert_fault s (length room)).number ≡ 0 → convert_answer s room ≡ result (length (converted s) ∷ [])
unfolding convert_answer
answer_clear s room h = settled_clear (convert_fault s (length room)) _ h

bytes_clear : (s room : List ℕ) → (convert_fault s (length room)).number ≡ 0
    → convert_bytes s room ≡ converted s ++ drop (length (converted s)) room
unfolding convert_bytes
bytes_clear s room h = kept_new (convert_fault s (length room)) _ _ h

-- a conversion that gave a result: nothing was at fault, and the lent bytes begin with the converted text
record Converted (s bytes : List ℕ) (n : ℕ) (later : List ℕ) : Type 0 where
  pub clear : Converts s (length bytes)
  pub long : n ≡ length (converted s)
  pub left : later ≡ converted s ++ drop (length (converted s)) bytes
  pub text : take n later ≡ converted s
  pub fault : (text_fault (converted s)).number ≡ 0

converted_result : (s bytes : List ℕ) (w : Result ℕ Fault) (later : List ℕ) (n : ℕ)
    → ConvertPromise s bytes w later → written_as w ≡ result (n ∷ []) → Converted s bytes n later
unfolding convert_answer
converted_result s bytes w later n promise said =
    let f = convert_fault s (length bytes) in
    let a = settled_result f (length (converted s) ∷ []) (n ∷ []) (sym promise.answer ∙ said) in
    let c = converts s (length bytes) a.0 in
    let l : n ≡ length (converted s) = sym (ap (λ (l : List ℕ). get_or l 0 0) a.1) in
    let whole = promise.left ∙ bytes_clear s bytes a.0 in
    record {
      clear = c;
      long = l;
      left = whole;
      text = ap (take n) whole ∙ take-first n (converted s) _ l;
      fault = ap (λ (g : Fault). g.number) (fault_converted s c.text) ∙ c.short;
    }

-- its length is within the lent bytes
pub result_fits : (s bytes : List ℕ) (w : Result ℕ Fault) (later : List ℕ) (n : ℕ)
    → ConvertPromise s bytes w later → written_as w ≡ result (n ∷ []) → n ≤ length later
result_fits s bytes w later n promise said =
    let v = converted_result s bytes w later n promise said in
    omega (arith, v.long, ap length v.left, length-append (converted s) (drop (length (converted s)) bytes))

-- ---- reading what was converted gives the case that the old text meant
read_converted : (s tasks releases : List ℕ) → (text_fault s).number ≡ 0 → (text_fault (converted s)).number ≡ 0
    → max_tasks * task_width ≤ length tasks → max_releases * release_width ≤ length releases
    → ReadAs (converted s) tasks releases (old_case_in s)
read_converted s tasks releases h f p q =
    subst (ReadAs (converted s) tasks releases) (case_converted s h)
    (read_as (converted s) tasks releases (rw (read_roomy (converted s) _ _ p q) f)
    (legal (case_in (converted s)) (case_accepted (converted s) f)))

pub read_what_was_converted : (s bytes : List ℕ) (w : Result ℕ Fault) (later : List ℕ) (n : ℕ)
    (tasks releases : List ℕ) (r : Result Taken Fault)
    (ts rs : List ℕ)
    → ConvertPromise s bytes w later
    → written_as w ≡ result (n ∷ [])
    → max_tasks * task_width ≤ length tasks
    → max_releases * release_width ≤ length releases
    → ReadPromise (take n later) tasks releases r ts rs
    → Read (old_case_in s) tasks releases r ts rs
read_what_was_converted s bytes w later n tasks releases r ts rs promise said p q read =
    let v = converted_result s bytes w later n promise said in
    let a = read_converted s tasks releases v.clear.text v.fault p q in
    let kept = subst (λ t. ReadPromise t tasks releases r ts rs) v.text read in
    record {
      answer = kept.answer ∙ a.answer;
      tasks_after = kept.left_tasks ∙ a.tasks_after;
      releases-after = kept.left_releases ∙ a.releases-after;
      in_hand_lem = ap₂ (in_hand (case_values (old_case_in s))) kept.left_tasks kept.left_releases ∙ a.in_hand_lem;
    }

-- ---- converting what was converted changes nothing
pub converted_what_was_converted : (s bytes : List ℕ) (w : Result ℕ Fault) (later : List ℕ) (n : ℕ) (bytes' : List ℕ) (w' : Result ℕ Fault)
    (later' : List ℕ)
    → ConvertPromise s bytes w later
    → written_as w ≡ result (n ∷ [])
    → length (take n later) ≤ length bytes'
    → ConvertPromise (take n later) bytes' w' later'
    → Wrote (take n later) bytes' w' later'
converted_what_was_converted s bytes w later n bytes' w' later' promise said fits again =
    let v = converted_result s bytes w later n promise said in
    rw v.text (twice v.fault (length_clear (converted s) v.clear.short) (rw v.text at fits)
    (subst (λ t. ConvertPromise t bytes' w' later') v.text again))
  where
    twice : (text_fault (converted s)).number ≡ 0 → length (converted s) ≤ max_text → length (converted s) ≤ length bytes'
        → ConvertPromise (converted s) bytes' w' later' → Wrote (converted s) bytes' w' later'
    twice f l k promise' =
        let same = converted_once s in
        let clear : (convert_fault (converted s) (length bytes')).number ≡ 0 =
        ap (λ (g : Fault). g.number) ((refuses (converted s) (length bytes')).none f (rw same l) (rw same k)) in
        record {
          answer = promise'.answer ∙ rw same at (answer_clear (converted s) bytes' clear);
          bytes_after = promise'.left ∙ rw same at (bytes_clear (converted s) bytes' clear);
        }

-- ---- a refusal tells number and place of the fault, and leaves the lent bytes as they were
pub refused_left : (s bytes : List ℕ) (w : Result ℕ Fault) (later : List ℕ) → ConvertPromise s bytes w later
    → ((convert_fault s (length bytes)).number ≡ 0 → ⊥)
    → (written_as w ≡ refusal (convert_fault s (length bytes)).number (convert_fault s (length bytes)).place) × (later ≡ bytes)
unfolding convert_answer convert_bytes
refused_left s bytes w later promise h =
    let f = convert_fault s (length bytes) in
    (promise.answer ∙ sym (Settled.refuses f f refl _ h), promise.left ∙ sym (Settled.leaves f f refl _ _ h))
