-- `kinds::release_says` meets its contract: the line starts as a release does, or it is asked as any other.
use mathlib.Core.Path.{◌≡◌, sym, ap, ◌∙◌}
use mathlib.Core.List.{List}
use Prim.Native.Nat.{ℕ, ◌-◌, ◌≤◌}
use native.Mathlib.Omega.{arith}
use lib.ListN.{length, take, drop, length-drop}
use lib.Seq.{take_all}
use Rattle.rules.specs.Reader.{two_numbers, fields_say}
use Rattle.rules.specs.declared.Line.TheVariants.{Release}
use Rattle.kinds.proofs.Opening.{fields_open, starts_long, release_line_lem}
use Rattle.kinds.proofs.release_says.Goals as goal

pub returns-then-starts_release : goal.returns-then-starts_release
unfolding fields_say
returns-then-starts_release c =
    let s = c.args.s.now in
    let e = c.starts_release.ensures c.if-starts_release.true in
    let says : c.release_fields-line.result ≡ fields_say 5 (drop 8 s) =
    c.release_fields-line.ensures ∙ ap (λ (l : List ℕ). two_numbers l Release) (rest s (starts_long s e)) in
    record { line = says ∙ sym (release_line_lem s e); opens = rw says (fields_open 5 (drop 8 s)) }
  where
    rest : (s : List ℕ) → 8 ≤ length s → take (length s - 8) (drop 8 s) ≡ drop 8 s
    rest s h = take_all (length s - 8) (drop 8 s) (omega (arith, length-drop 8 s))
