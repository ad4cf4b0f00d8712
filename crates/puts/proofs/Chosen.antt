-- The word that a number chooses from the list is no longer than the longest.
use mathlib.Core.List.{List, [], ◌∷◌}
use Prim.Native.Nat.{ℕ, zero, suc, max, ◌≤◌}
use native.Mathlib.Omega.{arith}
use lib.ListN.{length, get_or}
use Rattle.rules.specs.Report.{run_word}
use Rattle.puts.specs.Fields.{line_words, word_of}

abbrev longest : List (List ℕ) → ℕ
longest [] = 0
longest (s ∷ ss) = max (length s) (longest ss)

no_longer : (ss : List (List ℕ)) (i : ℕ) (d : List ℕ) → length (get_or ss i d) ≤ max (length d) (longest ss)
no_longer [] i d = omega arith
no_longer (s ∷ ss) zero d = omega arith
no_longer (s ∷ ss) (suc i) d = omega (arith, no_longer ss i d)

pub word_short : (w : ℕ) → length (word_of w) ≤ 7
unfolding word_of
word_short w = no_longer line_words w run_word
