-- The converter tests whether its result would pass 60,000 bytes (request P6), and never finds it so: an accepted text has at most 2,035
-- lines, each of bounded length and with one return at most, and so at most 38,805 bytes. Of an accepted text the room alone decides.
use Rattle.std.specs.Prelude.{◌≡◌, Bool, true, false, ◌⊎◌, List, ◌∷◌, ℕ, ◌+◌, ◌*◌, ◌≤◌, length}
use Rattle.std.proofs.Common.{ap, ◌∙◌, inl, inr, arith, length-append}
use Rattle.rules.specs.declared.Line.{Line}
use Rattle.rules.specs.declared.Line.TheVariants.{Procs, Policy, End}
use Rattle.rules.specs.Words.{pick}
use Rattle.rules.specs.Limits.{max_tasks, max_releases}
use Rattle.rules.specs.Case.{Case, task_count, release_count}
use Rattle.rules.specs.Refusals.{room_fault}
use Rattle.rules.specs.Policies.{edf}
use Rattle.rules.specs.Text.{newline_byte}
use Rattle.rules.specs.Reader.{lines_of, policy_when_absent, no_case, with_line, with_lines, case_with_default, case_in, length_fault}
use Rattle.rules.specs.Reader.{text_fault}
use Rattle.rules.specs.Writer.{policy_text}
use Rattle.rules.specs.PolicyLine.{policy_given}
use Rattle.rules.specs.Convert.{converted, convert_fault}
use Rattle.lists.specs.Lists.{tab_long}
use Rattle.legal.specs.Firsts.{next_none}
use Rattle.legal.specs.Legal.{legal}
use Rattle.texts.specs.LinesOf.{returns_few}
use Rattle.texts.specs.Passing.{next_last, length_passes, text_clear}
use Rattle.legal.specs.Passing.{room_clear, room_none}
use Rattle.roundtrip.specs.LineTrip.{line_body}
use Rattle.roundtrip.specs.Lines.{text_of, text_of-cons}
use Rattle.roundtrip.specs.Lengths.{procs_long, policy_long, task_long, end_long, release_long, text_long}
use Rattle.roundtrip.specs.Listed.{row_at, release_at}
use Rattle.roundtrip.specs.Orders.{Body, body_tail, ordered_of}
use Rattle.roundtrip.specs.CaseLines.{row_lines, release_lines, case_lines, case_text_lem, lines_held}
use Rattle.roundtrip.specs.RoundTrip.{read_lines, case_accepted}
use Rattle.conversion.specs.Conversion.{line_long, converted_long}

-- ---- the lines of an accepted text are those of its case, or these but for the policy line
record Held (s : List ℕ) : Type 0 where
  pub lines : List Line
  pub whole : case_lines (case_in s) ≡ lines
  pub few : length (lines_of s) ≤ length lines
  pub short : length (text_of (lines_of s)) ≤ length (text_of lines)

lines_of_case : (s : List ℕ) (m p : ℕ) (after : List Line) → Body after
    → with_lines (no_case policy_when_absent) (lines_of s) ≡ with_lines (no_case p) (Procs m ∷ after)
    → case_lines (case_in s) ≡ Procs m ∷ Policy p ∷ after
unfolding case_with_default case_in with_lines with_line
lines_of_case s m p after b e = ap case_lines e ∙ lines_held m p after (body_tail after b)

named-lines : (s : List ℕ) (m p : ℕ) (after : List Line) → lines_of s ≡ Procs m ∷ Policy p ∷ after
    → with_lines (no_case policy_when_absent) (lines_of s) ≡ with_lines (no_case p) (Procs m ∷ after)
unfolding with_lines with_line
named-lines s m p after e = rw e

-- a line more is not shorter
put_longer : (k l : Line) (ls : List Line) → length (text_of (k ∷ ls)) ≤ length (text_of (k ∷ l ∷ ls))
put_longer k l ls =
    omega (
      arith,
      ap length (text_of-cons k ls),
      ap length (text_of-cons k (l ∷ ls)),
      ap length (text_of-cons l ls),
      length-append (line_body k) (newline_byte ∷ text_of ls),
      length-append (line_body k) (newline_byte ∷ text_of (l ∷ ls)),
      length-append (line_body l) (newline_byte ∷ text_of ls),
    )

held : (s : List ℕ) → (text_fault s).number ≡ 0 → Held s
held s h = let o = ordered_of (lines_of s) (text_clear s h).lines in go o.procs o.after o.body o.whole
  where
    go : (m : ℕ) (after : List Line) → Body after
        → ((p : ℕ) × (lines_of s ≡ Procs m ∷ Policy p ∷ after)) ⊎ (lines_of s ≡ Procs m ∷ after) → Held s
    go m after b (inl (p, e)) = record {
      lines = Procs m ∷ Policy p ∷ after;
      whole = lines_of_case s m p after b (named-lines s m p after e);
      few = omega (arith, ap length e);
      short = omega (arith, ap (λ (ls : List Line). length (text_of ls)) e);
    }
    go m after b (inr e) = record {
      lines = Procs m ∷ Policy policy_when_absent ∷ after;
      whole = lines_of_case s m policy_when_absent after b (ap (with_lines (no_case policy_when_absent)) e);
      few = omega (arith, ap length e);
      short = omega (arith, ap (λ (ls : List Line). length (text_of ls)) e, put_longer (Procs m) (Policy policy_when_absent) after);
    }

case_lines_long : (c : Case) → length (case_lines c) ≡ task_count c.table + release_count c.trace + 3
unfolding case_lines
case_lines_long c =
    omega (
      arith,
      length-append (row_lines c.table) (End c.end ∷ release_lines c.trace),
      tab_long (row_at c.table) 0 (task_count c.table),
      tab_long (release_at c.trace) 0 (release_count c.trace),
    )

-- ---- how long an accepted text can be: what is written of its case, and a return a line
abbrev pub longest : ℕ
longest =
    procs_long + (policy_long + (max_tasks * task_long + (end_long + max_releases * release_long))) + (max_tasks + max_releases + 3)

pub text_short : (s : List ℕ) → (text_fault s).number ≡ 0 → length s ≤ longest
text_short s h =
    let w = held s h in
    let g = legal (case_in s) (case_accepted s h) in
    omega (
      arith,
      returns_few s,
      ap length (read_lines s h),
      w.short,
      w.few,
      ap (λ (ls : List Line). length (text_of ls)) w.whole,
      ap length w.whole,
      ap length (case_text_lem (case_in s)),
      text_long (case_in s) g,
      case_lines_long (case_in s),
      g.tasks_few,
      g.releases_few,
    )

-- the converted text is never too long
few_more : (s : List ℕ) → (text_fault s).number ≡ 0 → length (converted s) ≤ length s + 11
few_more s h = rw (converted_long s h) (go (policy_given s))
  where
    go : (b : Bool) → length s + pick b 0 (length (policy_text edf)) ≤ length s + 11
    go true = omega arith
    go false = omega (arith, line_long)

pub never_over : (s : List ℕ) → (text_fault s).number ≡ 0 → (length_fault (converted s)).number ≡ 0
never_over s h = length_passes (converted s) (omega (arith, text_short s h, few_more s h))

-- so of an accepted text the converter finds at fault that the result does not fit, and nothing else
pub room_decides : (s : List ℕ) (room : ℕ) → (text_fault s).number ≡ 0 → convert_fault s room ≡ room_fault (length (converted s)) room
unfolding convert_fault
room_decides s room h =
    let n = length (converted s) in
    next_none (text_fault s) _ h ∙ next_none (length_fault (converted s)) _ (never_over s h)
    ∙ next_last (room_fault n room) (λ e. room_none n room (room_clear n room e))
