-- The lines of a text, one by one (`lines_by` of rules, Text): a line and what is past it, that it does not matter in how many steps lines
-- are looked for, and that lines read and written are the same bytes but for the returns, whatever a line says. For the lines of a case
-- text (Lines) and of a log (LogLines, Feed).
use Rattle.std.specs.Prelude.{◌≡◌, Bool, length}
use Rattle.std.proofs.Math.Path.{refl, sym, ap, ap₂}
use Rattle.std.proofs.Common.{◌∙◌, arith, length-append}
use Rattle.std.proofs.Math.Bool.{true, false}
use mathlib.Core.List.{List, [], ◌∷◌, ◌++◌, map, append_assoc}
use Prim.Native.Nat.{ℕ, zero, suc, ◌+◌, ◌≤◌}
use Rattle.rules.specs.Words.{pick}
use Rattle.rules.specs.declared.Line.{Line}
use Rattle.rules.specs.declared.Line.TheVariants.{Bad}
use Rattle.rules.specs.Text.{newline_byte, return_byte, up_to, has, line_of, without_returns, after_line, lines_by}
use Rattle.rules.specs.Writer.{joined_text}
use Rattle.rules.specs.Reader.{line_says, lines_of, may_follow, may_stop, case_order, lines_fault}
use Rattle.texts.specs.Fields.{All, without_head, without_parts, past_seam, past_none, has_seam, cut_at, past_less}
use Rattle.texts.specs.Returns.{line_plain, line_short, line_no_newline, without_unended, without_line}

-- ---- a line and what is past it
pub line_cut : (s : List ℕ) → has newline_byte s ≡ true → up_to newline_byte s ++ (newline_byte ∷ after_line s) ≡ s
unfolding after_line
line_cut s h = cut_at newline_byte s h

pub after_line_less : (b : ℕ) (s : List ℕ) → length (after_line (b ∷ s)) ≤ length s
unfolding after_line
after_line_less b s = past_less newline_byte b s

pub after_line-cons : (l s : List ℕ) → has newline_byte l ≡ false → after_line (l ++ (newline_byte ∷ s)) ≡ s
unfolding after_line
after_line-cons l s h = past_seam newline_byte l s h

-- ---- the lines of a text, whatever a line says
module _ {A : Type 0} (says : List ℕ → A) (bad : A) where
  -- the steps do not matter, as long as there is one for each byte
  pub by_steps : (k j : ℕ) (s : List ℕ) → length s ≤ k → length s ≤ j → lines_by says bad k s ≡ lines_by says bad j s
  unfolding lines_by
  by_steps zero zero s h l = refl
  by_steps zero (suc j) [] h l = refl
  by_steps zero (suc j) (b ∷ s) h l = absurd (omega arith)
  by_steps (suc k) zero [] h l = refl
  by_steps (suc k) zero (b ∷ s) h l = absurd (omega arith)
  by_steps (suc k) (suc j) [] h l = refl
  by_steps (suc k) (suc j) (b ∷ s) h l =
      let m = after_line_less b s in
      ap (λ (ls : List A). pick (has newline_byte (b ∷ s)) (says (line_of (b ∷ s))) bad ∷ ls)
      (by_steps k j (after_line (b ∷ s)) (omega arith) (omega arith))

  pub by_nil : (k : ℕ) → lines_by says bad k [] ≡ []
  unfolding lines_by
  by_nil zero = refl
  by_nil (suc k) = refl

  -- the first line of a text that is not empty, and the lines of what is past it
  pub by_some : (s : List ℕ) → 1 ≤ length s → lines_by says bad (length s) s
      ≡ pick (has newline_byte s) (says (line_of s)) bad ∷ lines_by says bad (length (after_line s)) (after_line s)
  unfolding lines_by
  by_some [] h = absurd (omega arith)
  by_some (b ∷ s) h =
      ap (λ (ls : List A). pick (has newline_byte (b ∷ s)) (says (line_of (b ∷ s))) bad ∷ ls)
      (by_steps (length s) (length (after_line (b ∷ s))) (after_line (b ∷ s)) (after_line_less b s) (omega arith))

  -- a line without a return, its newline, and more
  pub by_cons : (l s : List ℕ) → has newline_byte l ≡ false → has return_byte l ≡ false
      → lines_by says bad (length (l ++ (newline_byte ∷ s))) (l ++ (newline_byte ∷ s)) ≡ says l ∷ lines_by says bad (length s) s
  by_cons l s h r =
      by_some (l ++ (newline_byte ∷ s)) (omega (arith, length-append l (newline_byte ∷ s)))
      ∙ rw (has_seam newline_byte l s, line_plain l s h r, after_line-cons l s h)

  -- a line with its newline, and what follows
  pub by_ended : (k b : ℕ) (s : List ℕ) → has newline_byte (b ∷ s) ≡ true
      → lines_by says bad (suc k) (b ∷ s) ≡ says (line_of (b ∷ s)) ∷ lines_by says bad k (after_line (b ∷ s))
  unfolding lines_by
  by_ended k b s h = rw h

  -- a last line without its newline is badly formed
  pub by_unended : (k b : ℕ) (s : List ℕ) → has newline_byte (b ∷ s) ≡ false → lines_by says bad (suc k) (b ∷ s) ≡ bad ∷ []
  unfolding lines_by after_line
  by_unended k b s h = rw (h, past_none newline_byte (b ∷ s) h, by_nil k)

  -- lines that are read, none of them badly formed, and written are the same bytes without the returns
  pub by_back : (bytes : A → List ℕ) (P : A → Type 0) → (P bad → ⊥)
      → ((s : List ℕ) → P (says s) → bytes (says s) ≡ s ++ (newline_byte ∷ []))
      → (k : ℕ) (s : List ℕ) → length s ≤ k → All P (lines_by says bad k s)
      → joined_text (map bytes (lines_by says bad k s)) ≡ without_returns s
  unfolding lines_by All joined_text without_returns
  by_back bytes P none back zero [] h a = refl
  by_back bytes P none back zero (b ∷ s) h a = absurd (omega arith)
  by_back bytes P none back (suc k) [] h a = refl
  by_back bytes P none back (suc k) (b ∷ s) h a =
      let m = after_line_less b s in
      go (has newline_byte (b ∷ s)) refl a.0 (by_back bytes P none back k (after_line (b ∷ s)) (omega arith) a.1)
    where
      go : (t : Bool) → has newline_byte (b ∷ s) ≡ t → P (pick t (says (line_of (b ∷ s))) bad)
          → joined_text (map bytes (lines_by says bad k (after_line (b ∷ s)))) ≡ without_returns (after_line (b ∷ s))
          → bytes (pick t (says (line_of (b ∷ s))) bad) ++ joined_text (map bytes (lines_by says bad k (after_line (b ∷ s))))
          ≡ without_returns (b ∷ s)
      go true e said more =
          ap₂ ◌++◌ (back (line_of (b ∷ s)) said) more
          ∙ append_assoc (line_of (b ∷ s)) (newline_byte ∷ []) (without_returns (after_line (b ∷ s)))
          ∙ sym (without_line (b ∷ s) e)
      go false e said more = absurd (none said)

  -- a text of which no return is left without its returns: its lines are those of the text without them
  pub by_without : (k : ℕ) (s : List ℕ) → length s ≤ k → has return_byte (without_returns s) ≡ false
      → lines_by says bad k s ≡ lines_by says bad (length (without_returns s)) (without_returns s)
  unfolding lines_by without_returns
  by_without zero [] h r = refl
  by_without zero (b ∷ s) h r = absurd (omega arith)
  by_without (suc k) [] h r = refl
  by_without (suc k) (b ∷ s) h r =
      let m = after_line_less b s in
      go (has newline_byte (b ∷ s)) refl (by_without k (after_line (b ∷ s)) (omega arith))
    where
      behind : List ℕ
      behind = without_returns (after_line (b ∷ s))

      whole : List ℕ → List A
      whole t = lines_by says bad (length t) t

      go : (t : Bool) → has newline_byte (b ∷ s) ≡ t
          → (has return_byte behind ≡ false → lines_by says bad k (after_line (b ∷ s)) ≡ whole behind)
          → lines_by says bad (suc k) (b ∷ s) ≡ whole (without_returns (b ∷ s))
      go true e more =
          let p = without_parts return_byte (line_of (b ∷ s)) (newline_byte ∷ behind) (rw (without_line (b ∷ s) e) at r) in
          let q = without_head return_byte newline_byte behind p.1 in
          by_ended k b s e ∙ ap (λ (ls : List A). says (line_of (b ∷ s)) ∷ ls) (more q.1)
          ∙ sym (ap whole (without_line (b ∷ s) e) ∙ by_cons (line_of (b ∷ s)) behind (line_no_newline (b ∷ s)) p.0)
      go false e more =
          by_steps (suc k) (length (b ∷ s)) (b ∷ s) h (omega arith) ∙ sym (ap whole (without_unended (b ∷ s) e))

  -- a text is no longer than without its returns and one byte a line
  pub by_returns : (k : ℕ) (s : List ℕ) → length s ≤ k → length s ≤ length (without_returns s) + length (lines_by says bad k s)
  by_returns zero [] h = omega arith
  by_returns zero (b ∷ s) h = absurd (omega arith)
  by_returns (suc k) [] h = omega arith
  by_returns (suc k) (b ∷ s) h =
      let m = after_line_less b s in
      go (has newline_byte (b ∷ s)) refl (by_returns k (after_line (b ∷ s)) (omega arith))
    where
      rest : List ℕ
      rest = after_line (b ∷ s)

      go : (t : Bool) → has newline_byte (b ∷ s) ≡ t → length rest ≤ length (without_returns rest) + length (lines_by says bad k rest)
          → length (b ∷ s) ≤ length (without_returns (b ∷ s)) + length (lines_by says bad (suc k) (b ∷ s))
      go true e more =
          omega (
            arith,
            more,
            ap length (line_cut (b ∷ s) e),
            length-append (up_to newline_byte (b ∷ s)) (newline_byte ∷ rest),
            line_short (b ∷ s),
            ap length (without_line (b ∷ s) e),
            length-append (line_of (b ∷ s)) (newline_byte ∷ without_returns rest),
            ap length (by_ended k b s e),
          )
      go false e more = omega (arith, ap length (without_unended (b ∷ s) e))

-- ---- the lines of a case text
pub returns_few : (s : List ℕ) → length s ≤ length (without_returns s) + length (lines_of s)
unfolding lines_of
returns_few s = by_returns line_says Bad (length s) s (omega arith)

pub lines_of-nil : lines_of [] ≡ []
unfolding lines_of
lines_of-nil = by_nil line_says Bad 0

pub lines_of_some : (s : List ℕ) → 1 ≤ length s
    → lines_of s ≡ pick (has newline_byte s) (line_says (line_of s)) Bad ∷ lines_of (after_line s)
unfolding lines_of
lines_of_some s h = by_some line_says Bad s h

pub lines_of-cons : (l s : List ℕ) → has newline_byte l ≡ false → has return_byte l ≡ false
    → lines_of (l ++ (newline_byte ∷ s)) ≡ line_says l ∷ lines_of s
unfolding lines_of
lines_of-cons l s h r = by_cons line_says Bad l s h r

-- ---- the order of lines: releases may follow the end as they follow one another, and a text may stop after either
pub end_release : (n : ℕ) (ls : List Line) → lines_fault case_order 4 n ls ≡ lines_fault case_order 5 n ls
unfolding lines_fault may_follow may_stop
end_release n [] = refl
end_release n (l ∷ ls) = refl
