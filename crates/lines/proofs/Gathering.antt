-- What the lines of a text come to, from its head and its release lines.
use mathlib.Core.Path.{◌≡◌, ap, ap₂, ◌∙◌}
use mathlib.Core.List.{List, []}
use Prim.Native.Nat.{ℕ}
use native.Mathlib.Omega.{arith}
use lib.ListN.{take, drop, length-take}
use lib.Seq.{take_all}
use Rattle.rules.specs.Case.{case_of}
use Rattle.rules.specs.Reader.{lines_of, case_order, lines_fault, case_in}
use Rattle.rules.specs.declared.Fault.{Fault}
use Rattle.lines.specs.declared.HeadRead.{HeadRead}
use Rattle.lines.specs.Held.{table_room, clip, kept_case}
use Rattle.lines.specs.Gathers.{InHead, ReleasesRead, AllRead}
use Rattle.lines.proofs.Releasing.{releases_said}

module _ (s : List ℕ) (top : HeadRead) (table : List ℕ) (w : InHead s top table) (e : top.before ≡ 4) where
  -- behind `end` what is at fault with the text is what is at fault with the release lines
  pub rest_fault : lines_fault case_order 0 1 (lines_of s) ≡ lines_fault case_order 4 top.line (lines_of (drop top.next s))
  rest_fault =
      w.reading.fault ∙ ap (λ (k : ℕ). lines_fault case_order k top.line (lines_of (drop top.next s))) e

  -- none is
  pub gathers_all : (r : ℕ) (trace : List ℕ) → ReleasesRead s top.next top.line r trace
      → AllRead s (record { head = top.head; tasks = top.tasks; releases = r }) table trace
  unfolding case_in clip
  gathers_all r trace x =
      let c = kept_case top.head top.tasks table 0 [] in
      record {
        clear = ap (λ (f : Fault). f.number) rest_fault ∙ x.clear;
        kept =
            w.reading.kept ∙ ap clip (releases_said c top.line (lines_of (drop top.next s)) x.clear) ∙
            ap₂ (λ (ts rs : List ℕ). case_of top.head.procs top.head.policy ts top.head.end rs)
            (take_all table_room (take top.tasks table) (omega (arith, length-take top.tasks table, w.tasks.within))) x.kept;
        tasks = w.tasks;
        releases = x.whole;
      }
