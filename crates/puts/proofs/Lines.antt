-- Fields and lines: one more field, fields and the end of a line, and how many bytes numbers take.
use mathlib.Core.Path.{◌≡◌, refl, sym, ap, ◌∙◌}
use mathlib.Core.List.{List, [], ◌∷◌, ◌++◌, append_assoc, append-nil}
use Prim.Native.Nat.{ℕ, zero, suc, ◌+◌, ◌*◌, ◌≤◌, ◌<◌}
use native.Mathlib.Numerals.{add-one}
use native.Mathlib.Omega.{arith}
use lib.ListN.{length, take, get_or, length-append}
use lib.Seq.{take-suc}
use Rattle.rules.specs.Text.{digits_of}
use Rattle.rules.specs.Writer.{more_fields, line_text}
use Rattle.texts.specs.Digits.{at_most_ten}
use Rattle.puts.specs.Fields.{fields_text, number_fields}

-- fields, and behind them those that end the line
pub fields_then : (b : ℕ) (ss ts : List (List ℕ)) → fields_text b ss ++ more_fields b ts ≡ more_fields b (ss ++ ts)
unfolding fields_text more_fields
fields_then b [] ts = refl
fields_then b (s ∷ ss) ts = ap (λ (l : List ℕ). b ∷ l) (append_assoc s (fields_text b ss) (more_fields b ts)
    ∙ ap (λ (l : List ℕ). s ++ l) (fields_then b ss ts))

-- a line's word, its fields and its newline
pub line_end_lem : (b : ℕ) (word : List ℕ) (ss : List (List ℕ)) → word ++ (fields_text b ss ++ (10 ∷ [])) ≡ line_text b word ss
unfolding line_text more_fields
line_end_lem b word ss = ap (λ (l : List ℕ). word ++ l) (fields_then b ss [] ∙ ap (more_fields b) (append-nil ss))

pub line_length : (b : ℕ) (word : List ℕ) (ss : List (List ℕ))
    → length (line_text b word ss) ≡ length word + length (fields_text b ss) + 1
line_length b word ss =
    sym (ap length (line_end_lem b word ss)) ∙ omega (
      arith,
      length-append word (fields_text b ss ++ (10 ∷ [])),
      length-append (fields_text b ss) (10 ∷ []),
    )

-- numbers behind numbers
pub numbers-append : (b : ℕ) (us vs : List ℕ) → number_fields b (us ++ vs) ≡ number_fields b us ++ number_fields b vs
unfolding fields_text
numbers-append b [] vs = refl
numbers-append b (u ∷ us) vs =
    ap (λ (l : List ℕ). b ∷ l)
    (ap (λ (l : List ℕ). digits_of u ++ l) (numbers-append b us vs)
    ∙ sym (append_assoc (digits_of u) (number_fields b us) (number_fields b vs)))

-- one number, and one more
pub numbers-one : (b v : ℕ) → number_fields b (v ∷ []) ≡ b ∷ digits_of v
unfolding fields_text
numbers-one b v = ap (λ (l : List ℕ). b ∷ l) (append-nil (digits_of v))

pub numbers-suc : (b : ℕ) (vs : List ℕ) (i : ℕ) → i < length vs
    → number_fields b (take (i + 1) vs) ≡ number_fields b (take i vs) ++ (b ∷ digits_of (get_or vs i 0))
numbers-suc b vs i h =
    rw (add-one i, take-suc vs i 0 h, numbers-append b (take i vs) (get_or vs i 0 ∷ []), numbers-one b (get_or vs i 0))

-- at most eleven bytes a number
pub numbers_room : (b : ℕ) (vs : List ℕ) → length (number_fields b vs) ≤ 11 * length vs
unfolding fields_text
numbers_room b [] = omega arith
numbers_room b (v ∷ vs) = omega (arith, numbers_room b vs, length-append (digits_of v) (number_fields b vs), at_most_ten v)

-- a number and those before it take no more than all
pub numbers_le : (b : ℕ) (vs : List ℕ) (i : ℕ) → i < length vs
    → length (number_fields b (take i vs)) + 1 + length (digits_of (get_or vs i 0)) ≤ length (number_fields b vs)
unfolding fields_text
numbers_le b (v ∷ vs) zero h = omega (arith, length-append (digits_of v) (number_fields b vs))
numbers_le b (v ∷ vs) (suc i) h = omega (
  arith,
  numbers_le b vs i (omega arith),
  length-append (digits_of v) (number_fields b vs),
  length-append (digits_of v) (number_fields b (take i vs)),
)
numbers_le b [] i h = absurd (omega arith)
