-- Rows of numbers as lines: one more row, the rows of tasks and releases, and how many bytes rows take.
use mathlib.Core.Path.{◌≡◌, refl, ap, ◌∙◌}
use mathlib.Core.List.{List, [], ◌++◌, map}
use Prim.Native.Nat.{ℕ, zero, suc, ◌+◌, ◌-◌, ◌*◌, ◌≤◌, ◌<◌}
use native.Mathlib.Nat.{add-zero, add-suc, suc-mul, zero-mul}
use native.Mathlib.Numerals.{add-one}
use native.Mathlib.Omega.{arith}
use lib.ListN.{length, take, drop, length-append}
use lib.Seq.{take-add}
use Rattle.rules.specs.Words.{tab}
use Rattle.rules.specs.Limits.{task_width, release_width}
use Rattle.rules.specs.Case.{task_count, release_count}
use Rattle.rules.specs.Text.{digits_of}
use Rattle.rules.specs.Writer.{joined_text, task_text, release_text}
use Rattle.lists.specs.Lists.{joined-more, tab_cong}
use Rattle.texts.specs.Rows.{task_numbers, release_numbers_lem}
use Rattle.puts.specs.Fields.{fields_text, number_fields, number_line, word_of}
use Rattle.puts.proofs.Lines.{line_length, numbers-append}
use Rattle.writer.specs.Rows.{row_text, rows_text}

-- ---- one more row
pub rows_none : (word width : ℕ) (vs : List ℕ) → rows_text word width vs 0 ≡ []
unfolding rows_text joined_text tab
rows_none word width vs = refl

-- a row is the line of the part of the numbers from its first to its last
pub row_is : (word width : ℕ) (vs : List ℕ) (i : ℕ) → row_text word width vs i
    ≡ number_line 9 word (take (i * width + width - i * width) (drop (i * width) vs))
unfolding row_text
row_is word width vs i =
    let e : i * width + width - i * width ≡ width = omega arith in
    rw e

module _ (word width : ℕ) (vs : List ℕ) where
  rows_more : (n : ℕ) → rows_text word width vs (suc n) ≡ rows_text word width vs n ++ row_text word width vs n
  unfolding rows_text
  rows_more n = joined-more (row_text word width vs) n

  pub rows_suc : (n : ℕ) → rows_text word width vs (n + 1) ≡ rows_text word width vs n ++ row_text word width vs n
  rows_suc n = rw (add-one n) (rows_more n)

  rows_grow : (n d : ℕ) → length (rows_text word width vs n) ≤ length (rows_text word width vs (n + d))
  rows_grow n zero = rw (add-zero n) (omega arith)
  rows_grow n (suc d) =
      rw (add-suc n d)
      (omega (
        arith,
        rows_grow n d,
        ap length (rows_more (n + d)),
        length-append (rows_text word width vs (n + d)) (row_text word width vs (n + d)),
      ))

  -- a row and those before it take no more than all
  pub rows_le : (i n : ℕ) → i < n → length (rows_text word width vs i) + length (row_text word width vs i)
      ≤ length (rows_text word width vs n)
  rows_le i n h =
      let e : suc i + (n - suc i) ≡ n = omega arith in
      omega (
        arith,
        rw e at (rows_grow (suc i) (n - suc i)),
        ap length (rows_more i),
        length-append (rows_text word width vs i) (row_text word width vs i),
      )

  -- what rows take: a word and a newline each, and all their numbers
  pub rows_length : (k n : ℕ) → length (word_of word) ≡ k → length (rows_text word width vs n)
      ≡ n * suc k + length (number_fields 9 (take (n * width) vs))
  unfolding row_text fields_text
  rows_length k zero e = rw (zero-mul width, zero-mul (suc k)) (ap length (rows_none word width vs))
  rows_length k (suc n) e =
      let row = take width (drop (n * width) vs) in
      let before = take (n * width) vs in
      let numbers : take (suc n * width) vs ≡ before ++ row =
      ap (λ (z : ℕ). take z vs) (suc-mul n width) ∙ take-add (n * width) width vs in
      rw numbers
      (omega (
        arith,
        rows_length k n e,
        ap length (rows_more n),
        length-append (rows_text word width vs n) (row_text word width vs n),
        line_length 9 (word_of word) (map digits_of row),
        ap length (numbers-append 9 before row),
        length-append (number_fields 9 before) (number_fields 9 row),
        suc-mul n (suc k),
      ))

-- ---- tasks and releases as rows
pub task_row : (ts : List ℕ) (i : ℕ) → i < task_count ts → task_text ts i ≡ row_text 3 task_width ts i
unfolding task_text row_text word_of
task_row ts i h = rw (task_numbers ts i (omega arith))

pub release_row : (rs : List ℕ) (j : ℕ) → j < release_count rs → release_text rs j ≡ row_text 5 release_width rs j
unfolding release_text row_text word_of
release_row rs j h = rw (release_numbers_lem rs j (omega arith))

pub task_rows : (ts : List ℕ) → joined_text (tab (task_text ts) 0 (task_count ts)) ≡ rows_text 3 task_width ts (task_count ts)
unfolding rows_text
task_rows ts = ap joined_text (tab_cong (task_text ts) (row_text 3 task_width ts) 0 (task_count ts) (λ i p q. task_row ts i (omega arith)))

pub release_rows : (rs : List ℕ) → joined_text (tab (release_text rs) 0 (release_count rs))
    ≡ rows_text 5 release_width rs (release_count rs)
unfolding rows_text
release_rows rs = ap joined_text
    (tab_cong (release_text rs) (row_text 5 release_width rs) 0 (release_count rs) (λ j p q. release_row rs j (omega arith)))
