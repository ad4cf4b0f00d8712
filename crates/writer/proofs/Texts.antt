-- The text of a case in three parts, and how long each is.
use mathlib.Core.Path.{◌≡◌, refl, sym, ap, ◌∙◌}
use mathlib.Core.List.{List, [], ◌∷◌, ◌++◌, append_assoc}
use Prim.Native.Nat.{ℕ, ◌+◌, ◌*◌}
use native.Mathlib.Omega.{arith}
use lib.ListN.{length, take, length-append}
use lib.Seq.{take_all}
use Rattle.rules.specs.Case.{case_of, task_count, release_count}
use Rattle.rules.specs.Limits.{task_width, release_width}
use Rattle.rules.specs.Text.{digits_of}
use Rattle.rules.specs.Policies.{policy_name}
use Rattle.rules.specs.Writer.{line_text, more_fields, procs_text, policy_text, end_text, case_text}
use Rattle.puts.specs.Fields.{number_fields, word_of}
use Rattle.writer.specs.Rows.{rows_text, head_text, tail_text, WholeRows}
use Rattle.writer.proofs.Rows.{rows_length, task_rows, release_rows}

pub case_parts : (m p : ℕ) (ts : List ℕ) (e : ℕ) (rs : List ℕ)
    → head_text m p ++ (rows_text 3 task_width ts (task_count ts) ++ tail_text e rs) ≡ case_text (case_of m p ts e rs)
unfolding case_text head_text tail_text
case_parts m p ts e rs = rw (task_rows ts, release_rows rs) (append_assoc (procs_text m) (policy_text p) _)

pub head_length : (m p : ℕ) → length (head_text m p) ≡ 7 + length (digits_of m) + 8 + length (policy_name p)
unfolding head_text procs_text policy_text line_text more_fields
head_length m p =
    omega (
      arith,
      length-append (procs_text m) (policy_text p),
      length-append (digits_of m) (10 ∷ []),
      length-append (policy_name p) (10 ∷ []),
    )

all_rows : (word width k n : ℕ) (vs : List ℕ) → length (word_of word) ≡ k → length vs ≡ n * width
    → length (rows_text word width vs n) ≡ n * (k + 1) + length (number_fields 9 vs)
all_rows word width k n vs e h =
    let whole : take (n * width) vs ≡ vs = take_all (n * width) vs (omega arith) in
    omega (arith, rw whole at (rows_length word width vs k n e))

pub case_length : (m p : ℕ) (ts : List ℕ) (e : ℕ) (rs : List ℕ) → WholeRows ts rs
    → length (case_text (case_of m p ts e rs))
    ≡ (7 + length (digits_of m) + 8 + length (policy_name p)) + (task_count ts * 5 + length (number_fields 9 ts)) + 5 + length
    (digits_of e) + (release_count rs * 8 + length (number_fields 9 rs))
unfolding tail_text end_text line_text more_fields word_of
case_length m p ts e rs w =
    sym (ap length (case_parts m p ts e rs)) ∙
    omega (
      arith,
      length-append (head_text m p) (rows_text 3 task_width ts (task_count ts) ++ tail_text e rs),
      length-append (rows_text 3 task_width ts (task_count ts)) (tail_text e rs),
      length-append (end_text e) (rows_text 5 release_width rs (release_count rs)),
      length-append (digits_of e) (10 ∷ []),
      head_length m p,
      all_rows 3 task_width 4 (task_count ts) ts refl w.tasks,
      all_rows 5 release_width 7 (release_count rs) rs refl w.releases,
    )
