-- Laws over specs/CallTrip.
use Rattle.std.specs.Prelude.{◌≡◌, List, ℕ, ◌≤◌, length}
use Rattle.std.proofs.Common.{sym, ap, ap₂, ◌∙◌, subst}
use Rattle.rules.specs.declared.Taken.{Taken}
use Rattle.rules.specs.Limits.{max_text}
use Rattle.rules.specs.Answers.{result, taken_as}
use Rattle.rules.specs.Calls.{ReadPromise, WritePromise}
use Rattle.rules.specs.Text.{without_returns}
use Rattle.rules.specs.Reader.{case_in, text_fault, read_fault, case_values, read_answer, read_tasks, read_releases}
use Rattle.legal.specs.Legal.{legal}
use Rattle.legal.specs.Settled.{settled_result}
use Rattle.texts.specs.Passing.{read_clear}
use Rattle.roundtrip.specs.CaseLines.{text_fits}
use Rattle.roundtrip.specs.RoundTrip.{with_policy, text_read, case_accepted}
use Rattle.roundtrip.specs.CallTrip.{in_hand, WrittenAs, read_as, written_as_lem, write_clear, Wrote}
use Rattle.std.specs.Prelude.{Result}
use Rattle.rules.specs.declared.Fault.{Fault}

-- what a text with its policy line and without its returns takes up: a room of 60,000 bytes is always enough
pub with_policy-fits : (s : List ℕ) → (text_fault s).number ≡ 0 → length (with_policy (without_returns s)) ≤ max_text
with_policy-fits s h = rw (text_read s h) at (text_fits (case_in s) (case_accepted s h))

write_read : (s tasks releases vs room : List ℕ)
    → read_answer s tasks releases ≡ result vs
    → length (with_policy (without_returns s)) ≤ length room
    → WrittenAs (in_hand vs (read_tasks s tasks releases) (read_releases s tasks releases)) room (with_policy (without_returns s))
unfolding read_answer
write_read s tasks releases vs room h p =
    let a = settled_result (read_fault s (length tasks) (length releases)) (case_values (case_in s)) vs h in
    let clear = (read_clear s _ _ a.0).text in
    let e = case_accepted s clear in
    let text = text_read s clear in
    let hand : in_hand vs (read_tasks s tasks releases) (read_releases s tasks releases) ≡ case_in s =
    ap (λ l. in_hand l (read_tasks s tasks releases) (read_releases s tasks releases)) (sym a.1)
    ∙ (read_as s tasks releases a.0 (legal (case_in s) e)).in_hand_lem in
    rw hand (subst (WrittenAs (case_in s) room) text (written_as_lem (case_in s) room (write_clear (case_in s) (length room) e (rw text
    p))))

-- writing what was read gives the text with its policy line where it was absent and without its returns
pub written_what_was_read : (s tasks releases : List ℕ) (r : Result Taken Fault) (ts rs vs bytes : List ℕ)
    (w : Result ℕ Fault) (later : List ℕ)
    → ReadPromise s tasks releases r ts rs
    → taken_as r ≡ result vs
    → length (with_policy (without_returns s)) ≤ length bytes
    → WritePromise (in_hand vs ts rs) bytes w later
    → Wrote (with_policy (without_returns s)) bytes w later
written_what_was_read s tasks releases r ts rs vs bytes w later read said p promise =
    let a = write_read s tasks releases vs bytes (sym read.answer ∙ said) p in
    let same : in_hand vs ts rs ≡ in_hand vs (read_tasks s tasks releases) (read_releases s tasks releases) =
    ap₂ (in_hand vs) read.left_tasks read.left_releases in
    let kept = subst (λ c. WritePromise c bytes w later) same promise in
    record { answer = kept.answer ∙ a.answer; bytes_after = kept.left ∙ a.bytes }
