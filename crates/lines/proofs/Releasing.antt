-- The release lines: between two of them, what is at fault with them all is what is at fault with those unread, and their trace is what is
-- kept with the trace of those unread. And what they add to a case is their trace.
use Rattle.std.specs.Prelude.{Ok, Err}
use mathlib.Core.Path.{◌≡◌, refl, sym, ap, ◌∙◌}
use mathlib.Core.List.{List, [], ◌∷◌, ◌++◌, append_assoc, append-nil}
use Prim.Native.Nat.{ℕ, suc, ◌+◌, ◌≤◌, ◌<◌}
use native.Mathlib.Omega.{arith}
use lib.ListN.{length, take, drop, length-take}
use lib.Seq.{take_all}
use borrow.Author.Tests.{eqb-true}
use Rattle.rules.specs.Limits.{release_width}
use Rattle.rules.specs.Case.{Case, case_of}
use Rattle.rules.specs.Text.{after_line}
use Rattle.rules.specs.Refusals.{checked}
use Rattle.rules.specs.Reader.{kind_of, lines_of, may_follow, may_stop, case_order, lines_fault, with_line, with_lines}
use Rattle.rules.specs.declared.Fault.{Fault}
use Rattle.rules.specs.declared.Line.{Line}
use Rattle.rules.specs.declared.Line.TheVariants.{Bad, Procs, Policy, Row, End, Release}
use Rattle.legal.specs.Firsts.{clear_checked}
use Rattle.texts.specs.LinesOf.{end_release}
use Rattle.texts.specs.Passing.{lines_clear}
use Rattle.lines.specs.declared.Step.{Step}
use Rattle.lines.specs.Held.{trace_room, line_fault, next_says, release_numbers, trace_of, Whole, Added}
use Rattle.lines.specs.Gathers.{NextLine, ReleasesRead}
use Rattle.lines.proofs.Faults.{line_follows, fault_stop}
use Rattle.lines.proofs.Keeps.{take_clipped}
use Rattle.lines.proofs.Reading.{unread_lines, unread_none, fault_next, fault_after}

-- line n is the next and starts at `at`; the first was line n₀ at at₀
pub record Releasing (s : List ℕ) (at₀ n₀ at n r : ℕ) (trace : List ℕ) : Type 0 where
  pub within : at ≤ length s
  pub counted : n ≤ at + 1
  pub fault : lines_fault case_order 4 n₀ (lines_of (drop at₀ s)) ≡ lines_fault case_order 4 n (lines_of (drop at s))
  pub kept : take trace_room (trace_of (lines_of (drop at₀ s))) ≡ take trace_room (take r trace ++ trace_of (lines_of (drop at s)))
  pub releases : Whole trace_room release_width r trace

pub releasing_none : (s : List ℕ) (at n : ℕ) (trace : List ℕ) → at ≤ length s → n ≤ at + 1 → length trace ≡ trace_room
    → Releasing s at n at n 0 trace
releasing_none s at n trace i l h =
    record { within = i; counted = l; fault = refl; kept = refl; releases = record { long = h; within = omega arith; even = refl } }

-- a line with nothing at fault after `end` is a release
released : (l : Line) (n : ℕ) → (line_fault case_order 4 (kind_of l) n).number ≡ 0 → kind_of l ≡ 5
unfolding may_follow
released l n e = eqb-true (kind_of l) 5 (line_follows case_order 4 (kind_of l) n l (λ _. refl) e).1

module _ (s : List ℕ) (at₀ n₀ at n r : ℕ) (trace : List ℕ) (w : Releasing s at₀ n₀ at n r trace) where
  -- the next line
  module _ (step : Step) (l : at < length s) (line : NextLine s at step) where
    -- is at fault
    pub releasing_stop : (f : Fault) → checked (line_fault case_order 4 (kind_of step.said) n) ≡ Err f
        → checked (lines_fault case_order 4 n₀ (lines_of (drop at₀ s))) ≡ Err f
    releasing_stop f e = ap checked w.fault ∙ fault_next case_order s 4 n at f l (rw line.said at e)

    -- is read
    pub releasing_on : (r' : ℕ) (trace' : List ℕ) → checked (line_fault case_order 4 (kind_of step.said) n) ≡ Ok tt
        → Added trace_room release_width r (release_numbers step.said) trace r' trace'
        → Releasing s at₀ n₀ step.next (n + 1) r' trace'
    unfolding trace_of
    releasing_on r' trace' e x =
        let said = next_says (drop at s) in
        let new = release_numbers said in
        let rest = trace_of (lines_of (after_line (drop at s))) in
        let unread = lines_of (drop step.next s) in
        let clear = clear_checked _ (rw line.said at e) in
        let kept = rw line.said at x.kept in
        record {
          within = line.within;
          counted = omega (arith, w.counted, line.on);
          fault =
              w.fault ∙ fault_after case_order s 4 n at step.next l clear line.unread ∙
              ap (λ (k : ℕ). lines_fault case_order k (n + 1) unread) (released said n clear) ∙
              sym (end_release (n + 1) unread);
          kept =
              w.kept ∙ ap (λ (ls : List Line). take trace_room (take r trace ++ trace_of ls)) (unread_lines s at l) ∙
              ap (take trace_room) (sym (append_assoc (take r trace) new rest))
              ∙ sym (take_clipped trace_room (take r trace ++ new) rest) ∙
              ap (λ (z : List ℕ). take trace_room (z ++ rest)) (sym kept) ∙
              ap (λ (u : List ℕ). take trace_room (take r' trace' ++ trace_of (lines_of u))) (sym line.unread);
          releases = x.whole;
        }

  -- no line is left
  pub releasing_all : length s ≤ at → ReleasesRead s at₀ n₀ r trace
  unfolding trace_of may_stop
  releasing_all l =
      record {
        clear =
            ap (λ (f : Fault). f.number)
            (w.fault ∙ ap (lines_fault case_order 4 n) (unread_none s at l) ∙ fault_stop case_order 4 n);
        kept =
            w.kept ∙ ap (λ (ls : List Line). take trace_room (take r trace ++ trace_of ls)) (unread_none s at l) ∙
            ap (take trace_room) (append-nil (take r trace)) ∙
            take_all trace_room (take r trace) (omega (arith, length-take r trace, w.releases.within));
        whole = w.releases;
      }

-- ---- what release lines add to a case
abbrev pub with_trace : Case → List ℕ → Case
with_trace c rs = case_of c.procs c.policy c.table c.end rs

line_said : (c : Case) (l : Line) → kind_of l ≡ 5 → with_line c l ≡ with_trace c (c.trace ++ release_numbers l)
unfolding with_line
line_said c Bad e = absurd (omega arith)
line_said c (Procs m) e = absurd (omega arith)
line_said c (Policy p) e = absurd (omega arith)
line_said c (Row T C D) e = absurd (omega arith)
line_said c (End x) e = absurd (omega arith)
line_said c (Release t n) e = refl

lines_said : (c : Case) (n : ℕ) (ls : List Line) → (lines_fault case_order 5 n ls).number ≡ 0
    → with_lines c ls ≡ with_trace c (c.trace ++ trace_of ls)
unfolding may_follow with_lines trace_of
lines_said c n [] e = ap (with_trace c) (sym (append-nil c.trace))
lines_said c n (l ∷ ls) e =
    let w = lines_clear case_order 5 n l ls e in
    let k : kind_of l ≡ 5 = eqb-true (kind_of l) 5 w.line.follows in
    lines_said (with_line c l) (suc n) ls (rw k at w.rest) ∙
    ap (λ (d : Case). with_trace d (d.trace ++ trace_of ls)) (line_said c l k) ∙
    ap (with_trace c) (append_assoc c.trace (release_numbers l) (trace_of ls))

pub releases_said : (c : Case) (n : ℕ) (ls : List Line) → (lines_fault case_order 4 n ls).number ≡ 0
    → with_lines c ls ≡ with_trace c (c.trace ++ trace_of ls)
releases_said c n ls e = lines_said c n ls (ap (λ (f : Fault). f.number) (sym (end_release n ls)) ∙ e)
