-- The lines of the head: one more of them is read, or one is at fault or missing. A release line does not stand among them.
use Rattle.std.specs.Prelude.{Result, Ok, Err}
use mathlib.Core.Path.{◌≡◌, refl, sym, ap, ◌∙◌}
use mathlib.Core.Bool.{Bool, true, false, true≢false}
use mathlib.Core.List.{List, [], ◌∷◌}
use Prim.Native.Nat.{ℕ, ◌+◌, ◌≤◌, ◌<◌}
use native.Mathlib.Decide.{dec_le}
use native.Mathlib.Omega.{arith}
use lib.ListN.{length, take}
use lib.Dec.{ltb}
use borrow.Author.Tests.{ne_eqb, ltb-true, ltb-false}
use Rattle.rules.specs.Words.{pick}
use Rattle.rules.specs.Limits.{task_width}
use Rattle.rules.specs.Refusals.{fault_of, checked}
use Rattle.rules.specs.Reader.{kind_of, lines_of, may_follow, may_stop, case_order, lines_fault, policy_when_absent, with_lines}
use Rattle.rules.specs.declared.Fault.{Fault}
use Rattle.rules.specs.declared.Line.{Line}
use Rattle.rules.specs.declared.Line.TheVariants.{Bad, Procs, Policy, Row, End, Release}
use Rattle.legal.specs.Firsts.{clear_checked}
use Rattle.kinds.proofs.Order.{not_release, not_other}
use Rattle.lines.specs.declared.Head.{Head}
use Rattle.lines.specs.declared.HeadRead.{HeadRead}
use Rattle.lines.specs.declared.Step.{Step}
use Rattle.lines.specs.Held.{table_room, trace_room, clip, kept_case, line_fault, no_lines, head_with, row_numbers, release_numbers, Added}
use Rattle.lines.specs.Gathers.{NextLine, InHead}
use Rattle.lines.proofs.Faults.{line_follows}
use Rattle.lines.proofs.Keeps.{kept_line}
use Rattle.lines.proofs.Reading.{reading_none, reading_stop, reading_end, reading_on}

-- a refusal unless a test holds
abbrev pub Unless : Bool → Fault → Result (Unit {0}) Fault → Type 0
Unless b f r = ◌≡◌ {A = Result (Unit {0}) Fault} (pick b (Ok tt) (Err f)) r

unless_stop : (b : Bool) (f g : Fault) → Unless b f (Err g) → (b ≡ false) × (f ≡ g)
unless_stop true f g e = absurd cc
unless_stop false f g e = (refl, cc)

unless_pass : (b : Bool) (f : Fault) → Unless b f (Ok tt) → b ≡ true
unless_pass true f e = refl
unless_pass false f e = absurd cc

pub line_there : (s : List ℕ) (at : ℕ) (f : Fault) → Unless (ltb at (length s)) f (Ok tt) → at < length s
line_there s at f e = ltb-true at (length s) (unless_pass _ _ e)

-- what may follow a line before `end` is at most `end`
head_follows : (b k : ℕ) → b < 4 → may_follow b k ≡ true → k ≤ 4
head_follows b k h e =
    elim (dec_le k 4) [
      | yes l ↦ l
      | no l ↦
          elim (dec_le k 5) [
            | yes m ↦ absurd (true≢false (sym e ∙ sym (not_release b k (omega arith) (λ z. omega arith))))
            | no m ↦
                absurd (true≢false (sym e ∙
                sym (not_other b k (λ z. omega arith) (λ z. omega arith) (λ z. omega arith) (λ z. omega arith) (λ z. omega arith))))
          ]
    ]

not_released : (l : Line) → kind_of l ≤ 4 → release_numbers l ≡ []
not_released Bad h = refl
not_released (Procs m) h = refl
not_released (Policy p) h = refl
not_released (Row T C D) h = refl
not_released (End e) h = refl
not_released (Release t n) h = absurd (omega arith)

pub head_none : (s table : List ℕ) (top : HeadRead) → top ≡ no_lines → length table ≡ table_room → InHead s top table
head_none s table top e h =
    rw e
    record {
      reading = reading_none case_order policy_when_absent s;
      tasks = record { long = h; within = omega arith; even = refl };
      early = omega arith;
    }

module _ (s : List ℕ) (top : HeadRead) (table : List ℕ) (w : InHead s top table) where
  -- the text stops before `end`
  pub head_missing : (f : Fault) → top.before < 4 → Unless (ltb top.next (length s)) (fault_of 3 top.line) (Err f)
      → checked (lines_fault case_order 0 1 (lines_of s)) ≡ Err f
  unfolding may_stop
  head_missing f b e =
      let q = unless_stop _ _ f e in
      let told : lines_fault case_order 0 1 (lines_of s) ≡ fault_of 3 top.line =
      reading_end _ _ _ _ _ _ _ w.reading (ltb-false top.next (length s) q.0) ∙
      rw (ne_eqb top.before 4 (λ z. omega arith), ne_eqb top.before 5 (λ z. omega arith)) in
      ap checked told ∙ ap Err q.1

  -- the next line is at fault
  pub head_stop : (f : Fault) (step : Step) → top.next < length s → NextLine s top.next step
      → checked (line_fault case_order top.before (kind_of step.said) top.line) ≡ Err f
      → checked (lines_fault case_order 0 1 (lines_of s)) ≡ Err f
  head_stop f step l line e =
      reading_stop _ _ _ _ _ _ _ w.reading f l
      (ap (λ (y : Line). checked (line_fault case_order top.before (kind_of y) top.line)) (sym line.said) ∙ e)

  -- one more line is read
  pub head_more : (step : Step) (h' : Head) (t' : ℕ) (table' : List ℕ) → top.before < 4 → top.next < length s
      → NextLine s top.next step → checked (line_fault case_order top.before (kind_of step.said) top.line) ≡ Ok tt
      → h' ≡ head_with top.head step.said
      → Added table_room task_width top.tasks (row_numbers step.said) table t' table'
      → InHead s (record { head = h'; tasks = t'; before = step.kind; line = top.line + 1; next = step.next }) table'
  head_more step h' t' table' b l line p g x =
      let said = step.said in
      let e = line.said in
      let clear = clear_checked _ p in
      let follows = line_follows case_order top.before step.kind top.line said line.opens clear in
      let few = head_follows top.before (kind_of said) b follows.1 in
      let none : [] ≡ take trace_room (release_numbers said) = rw (not_released said few) refl in
      record {
        reading =
            reading_on _ _ _ _ _ _ _ w.reading _ _ _ l (ap kind_of (sym e) ∙ follows.0)
            (ap (λ (y : Line). (line_fault case_order top.before (kind_of y) top.line).number) (sym e) ∙ clear)
            line.unread line.on line.within
            (λ ls. ap (λ (y : Line). clip (with_lines (kept_case top.head top.tasks table 0 []) (y ∷ ls))) (sym e) ∙
            kept_line top.head top.tasks 0 table [] said ls t' 0 table' [] x.kept none ∙
            ap (λ (u : Head). clip (with_lines (kept_case u t' table' 0 []) ls)) (sym g));
        tasks = x.whole;
        early = omega (arith, few, follows.0);
      }
