-- A text with no returns reads as before there were any (request P4): its lines go up to the newline, as document 01 has it, and so the
-- reader finds the same fault or the same case in it, and the check of a log the same lines.
use Rattle.std.specs.Prelude.{◌≡◌, refl, false, List, [], ◌∷◌, ℕ, zero, suc, eqb, length}
use Rattle.rules.specs.declared.Line.{Line}
use Rattle.rules.specs.declared.Line.TheVariants.{Bad}
use Rattle.rules.specs.Words.{pick}
use Rattle.rules.specs.Case.{Case}
use Rattle.rules.specs.Refusals.{first, case_fault}
use Rattle.rules.specs.Text.{newline_byte, return_byte, up_to, past, has, after_line, lines_by}
use Rattle.rules.specs.Reader.{line_says, lines_of, case_order, lines_fault, policy_when_absent, no_case, with_lines, case_with_default}
use Rattle.rules.specs.Reader.{case_in}
use Rattle.rules.specs.Reader.{length_fault, text_fault}
use Rattle.rules.specs.Log.{bad_line, slot_says, log_lines}
use Rattle.lists.specs.Lists.{picked}
use Rattle.texts.specs.Fields.{without_head}
use Rattle.texts.specs.Returns.{line_up_to}

-- the lines of a text as document 01 has them: up to the newline, whatever stands in front of it
unfoldable pub newline_lines : {A : Type 0} → (List ℕ → A) → A → ℕ → List ℕ → List A
newline_lines says bad zero s = []
newline_lines says bad (suc k) [] = []
newline_lines says bad (suc k) (b ∷ s) =
    pick (has newline_byte (b ∷ s)) (says (up_to newline_byte (b ∷ s))) bad ∷ newline_lines says bad k (past newline_byte (b ∷ s))

past_without : (x y : ℕ) (s : List ℕ) → has y s ≡ false → has y (past x s) ≡ false
unfolding has past
past_without x y [] h = refl
past_without x y (b ∷ s) h =
    let w = without_head y b s h in
    picked (λ t. has y t ≡ false) (eqb b x) s (past x s) (λ e. w.1) (λ e. past_without x y s w.1)

by_before : {A : Type 0} (says : List ℕ → A) (bad : A) (k : ℕ) (s : List ℕ) → has return_byte s ≡ false
    → lines_by says bad k s ≡ newline_lines says bad k s
unfolding lines_by newline_lines after_line
by_before says bad zero s r = refl
by_before says bad (suc k) [] r = refl
by_before says bad (suc k) (b ∷ s) r =
    rw (line_up_to (b ∷ s) r, by_before says bad k (past newline_byte (b ∷ s)) (past_without newline_byte return_byte (b ∷ s) r))

-- ---- case texts
abbrev pub lines_before : List ℕ → List Line
lines_before s = newline_lines line_says Bad (length s) s

pub lines_before_lem : (s : List ℕ) → has return_byte s ≡ false → lines_of s ≡ lines_before s
unfolding lines_of
lines_before_lem s r = by_before line_says Bad (length s) s r

-- the case that is read
abbrev pub case_before : List ℕ → Case
case_before s = with_lines (no_case policy_when_absent) (lines_before s)

pub case_before_lem : (s : List ℕ) → has return_byte s ≡ false → case_in s ≡ case_before s
unfolding case_in case_with_default
case_before_lem s r = rw (lines_before_lem s r)

-- the fault that is found
pub fault_before : (s : List ℕ) → has return_byte s ≡ false
    → text_fault s ≡ first (length_fault s ∷ lines_fault case_order 0 1 (lines_before s) ∷ case_fault (case_before s) ∷ [])
unfolding text_fault
fault_before s r = rw (lines_before_lem s r, case_before_lem s r)

-- ---- logs
pub log_lines_before : (s : List ℕ) → has return_byte s ≡ false → log_lines s ≡ newline_lines slot_says bad_line (length s) s
unfolding log_lines
log_lines_before s r = by_before slot_says bad_line (length s) s r
