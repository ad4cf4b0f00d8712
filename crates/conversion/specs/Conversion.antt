-- The converter (request P6) over its definitions: read under the new default, the converted text is the case that the old text meant;
-- converting it again changes nothing; and it is refused exactly when the text was, or where it is too long. CallConvert says it of the
-- call.
use Rattle.std.specs.Prelude.{◌≡◌, refl, Bool, true, false, ◌⊎◌, ℕ, ◌+◌, ◌≤◌, ◌<◌}
use Rattle.std.proofs.Math.Path.{sym, ap}
use Rattle.std.proofs.Common.{◌∙◌, subst, inl, inr}
use mathlib.Core.List.{List, [], ◌∷◌, ◌++◌, head-eq_of_cons-eq, tail-eq_of_cons-eq}
use native.Mathlib.Omega.{arith}
use Rattle.std.proofs.Math.ListN.{length, length-append}
use Rattle.std.proofs.lemmas.Bool.{lt-leb}
use Rattle.rules.specs.Words.{pick}
use Rattle.rules.specs.declared.Fault.{Fault}
use Rattle.rules.specs.declared.Line.{Line}
use Rattle.rules.specs.declared.Line.TheVariants.{Procs, Policy}
use Rattle.rules.specs.Limits.{max_text}
use Rattle.rules.specs.Refusals.{no_fault, fault_of, or_next, room_fault, case_fault, Accepted}
use Rattle.rules.specs.Policies.{edf, max_policy, policy_name}
use Rattle.rules.specs.Text.{newline_byte, up_to, has, line_of, after_line}
use Rattle.rules.specs.Reader.{line_says, lines_of, kind_of, case_order, lines_fault, policy_when_absent, no_case, with_line, with_lines}
use Rattle.rules.specs.Reader.{case_with_default, case_in, length_fault, text_fault}
use Rattle.rules.specs.Writer.{more_fields, line_text, policy_text}
use Rattle.rules.specs.PolicyLine.{policy_given, with_policy}
use Rattle.rules.specs.Convert.{old_policy_when_absent, old_case_in, converted, convert_fault}
use Rattle.legal.specs.Firsts.{next_none, next_some, next_same, row_clear, row_none}
use Rattle.legal.specs.Passing.{room_clear, room_none}
use Rattle.texts.specs.Fields.{past_some}
use Rattle.texts.specs.LinesOf.{line_cut, lines_of-nil, lines_of_some}
use Rattle.texts.specs.Passing.{next_last, length_passes, length_none, text_clear, text_none}
use Rattle.roundtrip.specs.Orders.{Body, ordered_of, ordered_clear, bare_clear}
use Rattle.conversion.specs.Defaults.{fault_under}
use Rattle.conversion.specs.PutIn.{put_in, put_lines, put_first, put_once, Named, Bare, named_or_bare}

-- ---- a text without a fault in its lines, the line of policy p put in
-- its lines
put_bare : (p : ℕ) → p ≤ max_policy → (s : List ℕ) → (w : Bare s)
    → lines_of (with_policy p s) ≡ Procs w.procs ∷ Policy p ∷ lines_of (after_line s)
unfolding with_policy
put_bare p h s w = rw w.given (put_lines p h s ∙ rw (put_first p s w.ended, w.says))

put_named : (p : ℕ) (s : List ℕ) → Named s → with_policy p s ≡ s
unfolding with_policy
put_named p s w = rw w.given

-- under any default it is the case that the text is under p
put_case : (p q : ℕ) → p ≤ max_policy → (s : List ℕ) → (lines_fault case_order 0 1 (lines_of s)).number ≡ 0
    → case_with_default q (with_policy p s) ≡ case_with_default p s
unfolding case_with_default with_lines with_line
put_case p q h s f = go (named_or_bare s f)
  where
    go : Named s ⊎ Bare s → with_lines (no_case q) (lines_of (with_policy p s)) ≡ with_lines (no_case p) (lines_of s)
    go (inl w) = unfold with_lines with_line in rw (put_named p s w, w.lines)
    go (inr w) = unfold with_lines with_line in rw (put_bare p h s w, w.lines)

-- and its lines have no fault
put_clear : (p : ℕ) → p ≤ max_policy → (s : List ℕ) → (lines_fault case_order 0 1 (lines_of s)).number ≡ 0
    → (lines_fault case_order 0 1 (lines_of (with_policy p s))).number ≡ 0
put_clear p h s f = go (named_or_bare s f)
  where
    go : Named s ⊎ Bare s → (lines_fault case_order 0 1 (lines_of (with_policy p s))).number ≡ 0
    go (inl w) = rw (put_named p s w) f
    go (inr w) = rw (put_bare p h s w, ordered_clear w.procs p (lines_of (after_line s)) w.body)

-- ---- the case
lines-converted : (s : List ℕ) → (lines_fault case_order 0 1 (lines_of s)).number ≡ 0 → case_in (converted s) ≡ old_case_in s
unfolding case_in old_case_in converted
lines-converted s h = put_case edf policy_when_absent (omega arith) s h

-- read under the new default, the converted text is the case that the old text meant
pub case_converted : (s : List ℕ) → (text_fault s).number ≡ 0 → case_in (converted s) ≡ old_case_in s
case_converted s h = lines-converted s (text_clear s h).lines

-- ---- converting again
pub converted_once : (s : List ℕ) → converted (converted s) ≡ converted s
unfolding converted
converted_once s = put_once edf s

-- ---- what is at fault
-- an old case is accepted exactly when the case that the text is now is
old_accepted : (s : List ℕ) → Accepted (case_in s) → Accepted (old_case_in s)
unfolding Accepted case_in old_case_in
old_accepted s e = rw (fault_under old_policy_when_absent policy_when_absent (omega arith) (omega arith) s) e

now_accepted : (s : List ℕ) → Accepted (old_case_in s) → Accepted (case_in s)
unfolding Accepted case_in old_case_in
now_accepted s e = rw (fault_under policy_when_absent old_policy_when_absent (omega arith) (omega arith) s) e

-- with the converted text of an accepted one nothing is at fault but that it may be too long
pub fault_converted : (s : List ℕ) → (text_fault s).number ≡ 0 → text_fault (converted s) ≡ length_fault (converted s)
unfolding text_fault Accepted
fault_converted s h =
    let w = text_clear s h in
    let t = converted s in
    let lines : (lines_fault case_order 0 1 (lines_of t)).number ≡ 0 = unfold converted in put_clear edf (omega arith) s w.lines in
    let accepted : (case_fault (case_in t)).number ≡ 0 = rw (case_converted s h) (old_accepted s w.accepted) in
    next_same (length_fault t) _ no_fault (λ e. row_none (lines_fault case_order 0 1 (lines_of t) ∷ case_fault (case_in t) ∷ [])
    (lines, (accepted, tt))) ∙ next_last (length_fault t) (length_none t)

-- the other way: where nothing is at fault with the converted text, nothing is with the text
bare_back : (s : List ℕ) → (lines_fault case_order 0 1 (lines_of (put_in edf s))).number ≡ 0
    → (lines_fault case_order 0 1 (lines_of s)).number ≡ 0
bare_back s h =
    let o = ordered_of (lines_of (put_in edf s)) h in
    go o.procs o.after o.body o.whole (put_lines edf (omega arith) s)
  where
    some : (t : List ℕ) (l : Line) (ls : List Line) → lines_of t ≡ l ∷ ls → 1 ≤ length t
    some [] l ls e = absurd (omega (arith, ap length (sym lines_of-nil ∙ e)))
    some (b ∷ t) l ls e = omega arith

    back : (m : ℕ) → line_says (line_of (put_in edf s)) ≡ Procs m → Body (lines_of (after_line s))
        → (lines_fault case_order 0 1 (lines_of s)).number ≡ 0
    back m e b =
        let ended : has newline_byte s ≡ true = unfold after_line in past_some newline_byte s
        (some (after_line s) b.task b.others b.whole) in
        let long : 1 ≤ length s = omega (
          arith,
          ap length (line_cut s ended),
          length-append (up_to newline_byte s)
              (newline_byte ∷ after_line s),
        ) in
        rw (lines_of_some s long, ended, sym (put_first edf s ended), e, bare_clear m (lines_of (after_line s)) b)

    go : (m : ℕ) (after : List Line) → Body after
        → ((p : ℕ) × (lines_of (put_in edf s) ≡ Procs m ∷ Policy p ∷ after)) ⊎ (lines_of (put_in edf s) ≡ Procs m ∷ after)
        → lines_of (put_in edf s) ≡ line_says (line_of (put_in edf s)) ∷ Policy edf ∷ lines_of (after_line s)
        → (lines_fault case_order 0 1 (lines_of s)).number ≡ 0
    go m after b (inl (p, e)) l =
        let q = sym l ∙ e in
        back m (head-eq_of_cons-eq q) (subst Body (sym (tail-eq_of_cons-eq (tail-eq_of_cons-eq q))) b)
    go m after b (inr e) l =
        let q = tail-eq_of_cons-eq (sym l ∙ e) ∙ b.whole in
        absurd (omega (arith, ap kind_of (head-eq_of_cons-eq q), b.is_task))

put_long : (p : ℕ) (s : List ℕ) → has newline_byte s ≡ true → length (put_in p s) ≡ length s + length (policy_text p)
put_long p s h =
    let u = up_to newline_byte s in
    omega (
      arith,
      ap length (line_cut s h),
      length-append u (newline_byte ∷ after_line s),
      length-append u (newline_byte ∷ (policy_text p ++ after_line s)),
      length-append (policy_text p) (after_line s),
    )

is_ended : (s : List ℕ) → Named s ⊎ Bare s → has newline_byte s ≡ true
is_ended s (inl w) = w.ended
is_ended s (inr w) = w.ended

-- an accepted text has a newline
pub text_ended : (s : List ℕ) → (text_fault s).number ≡ 0 → has newline_byte s ≡ true
text_ended s h = is_ended s (named_or_bare s (text_clear s h).lines)

given_copied : (s : List ℕ) → policy_given s ≡ true → converted s ≡ s
unfolding converted with_policy
given_copied s g = rw g

bare_put : (s : List ℕ) → policy_given s ≡ false → converted s ≡ put_in edf s
unfolding converted with_policy
bare_put s g = rw g

pub fault_back : (s : List ℕ) → (text_fault (converted s)).number ≡ 0 → (text_fault s).number ≡ 0
fault_back s = go (policy_given s) refl
  where
    go : (b : Bool) → policy_given s ≡ b → (text_fault (converted s)).number ≡ 0 → (text_fault s).number ≡ 0
    go true g h = rw (given_copied s g) at h
    go false g h =
        let same = bare_put s g in
        let w = text_clear (put_in edf s) (rw same at h) in
        let lines = bare_back s w.lines in
        let ended = is_ended s (named_or_bare s lines) in
        let case : case_in (put_in edf s) ≡ old_case_in s = ap case_in (sym same) ∙ lines-converted s lines in
        ap (λ (f : Fault). f.number) (text_none s (record {
          short = omega (arith, w.short, put_long edf s ended);
          lines = lines;
          accepted = now_accepted s (rw case at w.accepted);
        }))

-- ---- how long it is
pub line_long : length (policy_text edf) ≡ 11
unfolding policy_text line_text more_fields policy_name
line_long = refl

pub converted_long : (s : List ℕ) → (text_fault s).number ≡ 0
    → length (converted s) ≡ length s + pick (policy_given s) 0 (length (policy_text edf))
unfolding converted with_policy
converted_long s h = go (policy_given s)
  where
    go : (b : Bool) → length (pick b s (put_in edf s)) ≡ length s + pick b 0 (length (policy_text edf))
    go true = omega arith
    go false = put_long edf s (text_ended s h)

-- ---- the converter refuses as the reader does; else by 1 where the result is too long; else by 13 where it does not fit; else not
pub record Refuses (s : List ℕ) (room : ℕ) : Type 0 where
  pub as_read : ((text_fault s).number ≡ 0 → ⊥) → convert_fault s room ≡ text_fault s
  pub too_long : (text_fault s).number ≡ 0 → max_text < length (converted s) → convert_fault s room ≡ fault_of 1 0
  pub no_room : (text_fault s).number ≡ 0 → length (converted s) ≤ max_text → room < length (converted s)
      → convert_fault s room ≡ fault_of 13 0
  pub none : (text_fault s).number ≡ 0 → length (converted s) ≤ max_text → length (converted s) ≤ room
      → convert_fault s room ≡ no_fault

pub refuses : (s : List ℕ) (room : ℕ) → Refuses s room
unfolding convert_fault
refuses s room =
    record {
      as_read = λ h. next_some (text_fault s) _ h;
      too_long = λ h l. next_none (text_fault s) _ h ∙ (unfold length_fault or_next in rw (lt-leb (length (converted s)) max_text l));
      no_room = λ h k l. next_none (text_fault s) _ h ∙ next_none (length_fault (converted s)) _ (fits k)
          ∙ (unfold room_fault or_next in rw (lt-leb (length (converted s)) room l));
      none = λ h k l. row_none (text_fault s ∷ length_fault (converted s) ∷ room_fault (length (converted s)) room ∷ [])
          (h, (fits k, (ap (λ (f : Fault). f.number) (room_none (length (converted s)) room l), tt)));
    }
  where
    fits : length (converted s) ≤ max_text → (length_fault (converted s)).number ≡ 0
    fits k = length_passes (converted s) k

-- nothing at fault: the text is accepted, and the converted one fits
pub record Converts (s : List ℕ) (room : ℕ) : Type 0 where
  pub text : (text_fault s).number ≡ 0
  pub short : (length_fault (converted s)).number ≡ 0
  pub fits : length (converted s) ≤ room

pub converts : (s : List ℕ) (room : ℕ) → (convert_fault s room).number ≡ 0 → Converts s room
unfolding convert_fault
converts s room h =
    let w = row_clear (text_fault s ∷ length_fault (converted s) ∷ room_fault (length (converted s)) room ∷ []) h in
    record { text = w.0; short = w.1.0; fits = room_clear (length (converted s)) room w.1.1.0 }
