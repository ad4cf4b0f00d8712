-- The round trip of the case text (document 01, "The case text", and request P4): reading what the writer wrote gives the same case;
-- writing what was read gives the text with its policy line where it was absent and without its returns. Over the definitions; CallTrip
-- says it of the calls.
use Rattle.std.specs.Prelude.{◌≡◌, Bool, ◌⊎◌, List, [], ◌∷◌, ◌++◌, ℕ, ◌^◌, eqb, length}
use Rattle.std.proofs.Common.{sym, ap, ◌∙◌, inl, inr, arith}
use Rattle.rules.specs.Words.{pick}
use Rattle.rules.specs.declared.Line.{Line}
use Rattle.rules.specs.declared.Line.TheVariants.{Bad, Procs, Policy}
use Rattle.rules.specs.Case.{Case, case_of}
use Rattle.rules.specs.Refusals.{no_fault, Accepted}
use Rattle.rules.specs.Text.{newline_byte, return_byte, has, line_of, without_returns, after_line, field_of}
use Rattle.rules.specs.Reader.{word_kind, line_says, lines_of, kind_of, policy_when_absent, no_case, with_line, with_lines}
use Rattle.rules.specs.Reader.{case_with_default, case_in, text_fault}
use Rattle.rules.specs.Writer.{joined_text, policy_text, case_text}
use Rattle.legal.specs.Legal.{legal}
use Rattle.texts.specs.Returns.{without_short}
use Rattle.texts.specs.LinesOf.{by_without}
use Rattle.texts.specs.Passing.{text_clear, text_none}
use Rattle.roundtrip.specs.LineTrip.{word_in, fields_in, line_bytes, body_kind}
use Rattle.roundtrip.specs.Lines.{text_of, text_of-cons, text_no_return, line_of_text, after_line_text, lines-written, lines_read}
use Rattle.roundtrip.specs.Orders.{all_said, body_tail, Ordered, ordered_of}
use Rattle.roundtrip.specs.CaseLines.{case_lines, case_text_lem, lines_hold, lines_held, lines_below, lines_clear, text_fits}

-- ---- reading what the writer wrote
-- the lines of what is written of an accepted case
written-lines : (c : Case) → Accepted c → lines_of (case_text c) ≡ case_lines c
written-lines c e = ap lines_of (case_text_lem c) ∙ lines-written (10 ^ 6) (case_lines c) (omega arith) (lines_below c (legal c e))

-- the same case
pub case_written : (c : Case) → Accepted c → case_in (case_text c) ≡ c
unfolding case_with_default case_in
case_written c e = ap (with_lines (no_case policy_when_absent)) (written-lines c e) ∙ lines_hold policy_when_absent c (legal c e)

-- the reader finds no fault in it
pub no_fault-written : (c : Case) → Accepted c → text_fault (case_text c) ≡ no_fault
no_fault-written c e =
    text_none (case_text c) (record {
      short = text_fits c e;
      lines = rw (written-lines c e, lines_clear c (legal c e));
      accepted = rw (case_written c e) e;
    })

-- ---- writing what was read
-- whether the second line of a text is a policy line
unfoldable pub policy_given : List ℕ → Bool
policy_given s = eqb (word_kind (field_of (line_of (after_line s)))) 2

-- a text, with the policy line put in after its first line where it was absent
unfoldable pub with_policy : List ℕ → List ℕ
with_policy s = pick (policy_given s) s (line_of s ++ (newline_byte ∷ (policy_text policy_when_absent ++ after_line s)))

given_second : (k l : Line) (ls : List Line) → policy_given (text_of (k ∷ l ∷ ls)) ≡ eqb (kind_of l) 2
unfolding policy_given
given_second k l ls = rw (after_line_text k (l ∷ ls), line_of_text l ls, body_kind l)

policy_put_in : (k l : Line) (ls : List Line) → kind_of l ≡ 3
    → with_policy (text_of (k ∷ l ∷ ls)) ≡ text_of (k ∷ Policy policy_when_absent ∷ l ∷ ls)
unfolding with_policy text_of joined_text policy_text line_bytes word_in fields_in
policy_put_in k l ls e =
    rw (given_second k l ls, e, line_of_text k (l ∷ ls), after_line_text k (l ∷ ls))
    (sym (text_of-cons k (Policy policy_when_absent ∷ l ∷ ls)))

policy_there : (k : Line) (p : ℕ) (ls : List Line) → with_policy (text_of (k ∷ Policy p ∷ ls)) ≡ text_of (k ∷ Policy p ∷ ls)
unfolding with_policy
policy_there k p ls = rw (given_second k (Policy p) ls)

-- of lines in order, the text of the case that they hold
text_ordered : (ls : List Line) → Ordered ls → case_text (with_lines (no_case policy_when_absent) ls) ≡ with_policy (text_of ls)
unfolding with_lines with_line
text_ordered ls o = go o.whole
  where
    held : (p : ℕ) → case_text (with_lines (case_of o.procs p [] 0 []) o.after)
        ≡ text_of (Procs o.procs ∷ Policy p ∷ o.after)
    held p = case_text_lem _ ∙ ap text_of (lines_held o.procs p o.after (body_tail o.after o.body))

    go : ((p : ℕ) × (ls ≡ Procs o.procs ∷ Policy p ∷ o.after)) ⊎ (ls ≡ Procs o.procs ∷ o.after)
        → case_text (with_lines (no_case policy_when_absent) ls) ≡ with_policy (text_of ls)
    go (inl (p, e)) = rw e (held p ∙ sym (policy_there (Procs o.procs) p o.after))
    go (inr e) =
        rw e (held policy_when_absent ∙ rw o.body.whole
        (sym (policy_put_in (Procs o.procs) o.body.task o.body.others o.body.is_task)))

-- the case of a text in which the reader finds no fault is accepted
pub case_accepted : (s : List ℕ) → (text_fault s).number ≡ 0 → Accepted (case_in s)
case_accepted s h = (text_clear s h).accepted

-- the lines of such a text are those that the text has without its returns
pub read_lines : (s : List ℕ) → (text_fault s).number ≡ 0 → text_of (lines_of s) ≡ without_returns s
read_lines s h = lines_read s (all_said 0 1 (lines_of s) (text_clear s h).lines)

-- the text with its policy line where it was absent and without its returns
pub text_read : (s : List ℕ) → (text_fault s).number ≡ 0 → case_text (case_in s) ≡ with_policy (without_returns s)
unfolding case_with_default case_in
text_read s h = text_ordered (lines_of s) (ordered_of (lines_of s) (text_clear s h).lines) ∙ ap with_policy (read_lines s h)

-- ---- a text without its returns
-- its lines, where the reader finds no fault in the text
lines_without : (s : List ℕ) → (text_fault s).number ≡ 0 → lines_of s ≡ lines_of (without_returns s)
unfolding lines_of
lines_without s h =
    by_without line_says Bad (length s) s (omega arith)
    (ap (has return_byte) (sym (read_lines s h)) ∙ text_no_return (lines_of s))

-- is the same case
pub case_without : (s : List ℕ) → (text_fault s).number ≡ 0 → case_in (without_returns s) ≡ case_in s
unfolding case_with_default case_in
case_without s h = ap (with_lines (no_case policy_when_absent)) (sym (lines_without s h))

-- and the reader finds no fault in it
pub no_fault_without : (s : List ℕ) → (text_fault s).number ≡ 0 → text_fault (without_returns s) ≡ no_fault
no_fault_without s h =
    let w = text_clear s h in
    text_none (without_returns s) (record {
      short = omega (arith, w.short, without_short s);
      lines = rw (lines_without s h) at w.lines;
      accepted = rw (case_without s h) w.accepted;
    })
