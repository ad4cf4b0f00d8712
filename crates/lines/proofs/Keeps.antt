-- Laws of `clip`: what is kept of a case with one more line is made of what was kept of the case and of that line.
use mathlib.Core.Path.{◌≡◌, refl, sym, ap, ap₂, ◌∙◌}
use mathlib.Core.List.{List, [], ◌∷◌, ◌++◌, append-nil}
use Prim.Native.Nat.{ℕ, zero, suc}
use native.Mathlib.Omega.{arith}
use lib.ListN.{take}
use lib.Seq.{take-take}
use Rattle.rules.specs.Case.{Case, case_of}
use Rattle.rules.specs.Reader.{with_line, with_lines}
use Rattle.rules.specs.declared.Line.{Line}
use Rattle.rules.specs.declared.Line.TheVariants.{Bad, Procs, Policy, Row, End, Release}
use Rattle.lines.specs.declared.Head.{Head}
use Rattle.lines.specs.Held.{table_room, trace_room, clip, head_of, head_with, row_numbers, release_numbers, kept_case}

pub take_clipped : (n : ℕ) (xs ys : List ℕ) → take n (take n xs ++ ys) ≡ take n (xs ++ ys)
take_clipped zero xs ys = refl
take_clipped (suc n) [] ys = refl
take_clipped (suc n) (x ∷ xs) ys = ap (λ (l : List ℕ). x ∷ l) (take_clipped n xs ys)

abbrev with_head : Head → List ℕ → List ℕ → Case
with_head h ts rs = case_of h.procs h.policy ts h.end rs

-- what is kept with one more line
line_kept : (c : Case) (l : Line)
    → clip (with_line c l) ≡ with_head (head_with (head_of c.procs c.policy c.end) l) (take table_room (c.table ++ row_numbers l))
    (take trace_room (c.trace ++ release_numbers l))
unfolding clip with_line
line_kept c Bad = rw (append-nil c.table, append-nil c.trace)
line_kept c (Procs m) = rw (append-nil c.table, append-nil c.trace)
line_kept c (Policy p) = rw (append-nil c.table, append-nil c.trace)
line_kept c (Row T C D) = rw (append-nil c.trace)
line_kept c (End e) = rw (append-nil c.table, append-nil c.trace)
line_kept c (Release t n) = rw (append-nil c.table)

clip_line : (c : Case) (l : Line) → clip (with_line (clip c) l) ≡ clip (with_line c l)
unfolding clip
clip_line c l =
    line_kept (clip c) l ∙
    ap₂ (with_head (head_with (head_of c.procs c.policy c.end) l)) (take_clipped table_room c.table (row_numbers l))
    (take_clipped trace_room c.trace (release_numbers l)) ∙
    sym (line_kept c l)

clip-clip : (c : Case) → clip (clip c) ≡ clip c
unfolding clip
clip-clip c = ap₂ (with_head (head_of c.procs c.policy c.end)) (take-take table_room table_room c.table (omega arith))
    (take-take trace_room trace_room c.trace (omega arith))

clip-lines : (c : Case) (ls : List Line) → clip (with_lines (clip c) ls) ≡ clip (with_lines c ls)
unfolding with_lines
clip-lines c [] = clip-clip c
clip-lines c (l ∷ ls) =
    sym (clip-lines (with_line (clip c) l) ls) ∙ ap (λ (d : Case). clip (with_lines d ls)) (clip_line c l) ∙ clip-lines (with_line c l) ls

-- one more line read
pub kept_line : (h : Head) (t r : ℕ) (table trace : List ℕ) (l : Line) (ls : List Line) (t' r' : ℕ) (table' trace' : List ℕ)
    → take t' table' ≡ take table_room (take t table ++ row_numbers l)
    → take r' trace' ≡ take trace_room (take r trace ++ release_numbers l)
    → clip (with_lines (kept_case h t table r trace) (l ∷ ls))
    ≡ clip (with_lines (kept_case (head_with h l) t' table' r' trace') ls)
unfolding with_lines
kept_line h t r table trace l ls t' r' table' trace' p q =
    let c = kept_case h t table r trace in
    sym (clip-lines (with_line c l) ls) ∙
    ap (λ (d : Case). clip (with_lines d ls)) (line_kept c l ∙ sym (ap₂ (with_head (head_with h l)) p q))
