-- Laws of `lines_of`: the lines of a text are what its first line says and the lines of what is unread after it, which starts behind the
-- newline at which the line ends.
use mathlib.Core.Path.{◌≡◌, refl, sym, ap, ◌∙◌}
use mathlib.Core.List.{List, ◌∷◌}
use Prim.Native.Nat.{ℕ, suc, ◌+◌, ◌≤◌, ◌<◌}
use native.Mathlib.Omega.{arith}
use lib.ListN.{length, drop, length-drop, drop_of_length-le}
use lib.Seq.{drop-drop}
use Rattle.rules.specs.Text.{newline_byte, up_to, line_of, after_line}
use Rattle.rules.specs.Reader.{line_says, lines_of}
use Rattle.rules.specs.declared.Line.TheVariants.{Bad}
use Rattle.texts.specs.LinesOf.{lines_of_some}
use Rattle.scan.proofs.Parts.{drop_past, none_past, has_some, has_none, up_to_le}
use Rattle.kinds.specs.declared.Said.{Said}
use Rattle.kinds.specs.Says.{Says}
use Rattle.lines.specs.Held.{next_says}
use Rattle.lines.specs.Gathers.{NextLine}

pub lines_next : (s : List ℕ) → 0 < length s → lines_of s ≡ next_says s ∷ lines_of (after_line s)
unfolding next_says
lines_next s h = lines_of_some s h

-- the line at `at` ends at e
module _ (s : List ℕ) (at e : ℕ) (ends : e ≡ at + length (up_to newline_byte (drop at s))) where
  -- with its newline, and its bytes say what was found
  pub ended : (line : List ℕ) (found : Said) → e < length s → line ≡ line_of (drop at s) → Says line found
      → NextLine s at (record { kind = found.kind; said = found.line; next = e + 1 })
  unfolding next_says after_line
  ended line found h p w =
      let u = up_to newline_byte (drop at s) in
      let k : e + 1 ≡ at + suc (length u) = omega arith in
      let here : length u < length (drop at s) = omega (arith, length-drop at s) in
      record {
        said = w.line ∙ ap line_says p ∙ rw (has_some newline_byte (drop at s) here);
        opens = w.opens;
        unread = ap (λ (n : ℕ). drop n s) k ∙ sym (drop-drop (suc (length u)) at s) ∙ drop_past newline_byte (drop at s) here;
        on = omega arith;
        within = omega arith;
      }

  -- without it, at the end of the text
  pub last : at < length s → length s ≤ e → NextLine s at (record { kind = 0; said = Bad; next = e })
  unfolding next_says after_line
  last l h =
      let none : length (drop at s) ≤ length (up_to newline_byte (drop at s)) = omega (arith, length-drop at s) in
      record {
        said = rw (has_none newline_byte (drop at s) none);
        opens = λ q. absurd (q refl);
        unread = drop_of_length-le s h ∙ sym (none_past newline_byte (drop at s) none);
        on = omega arith;
        within = omega (arith, length-drop at s, up_to_le newline_byte (drop at s));
      }
