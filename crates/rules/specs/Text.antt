-- Lines, fields and numbers of a case text (document 01, "The case text", and request P4): where a line and a field end, which bytes are
-- a number and what it is worth, the digits of a number, the words. The reader, the writer and the printed lines are all made of these.
use Rattle.std.specs.Prelude.{Option, Some, None}
use Rattle.std.specs.Prelude.{ℕ, zero, suc, ◌+◌, ◌-◌, ◌*◌, ◌/◌, ◌%◌, List, [], ◌∷◌, ◌++◌, Bool, true, false, ◌&&◌, ◌||◌, not, length, eqb}
use Rattle.std.specs.Prelude.{ltb, leb}
use Rattle.rules.specs.Words.{pick}

-- ---- bytes
abbrev pub newline_byte : ℕ
newline_byte = 10

abbrev pub return_byte : ℕ
return_byte = 13

abbrev pub tab_byte : ℕ
tab_byte = 9

-- whether two texts are the same
unfoldable pub same : List ℕ → List ℕ → Bool
same [] [] = true
same [] (y ∷ ys) = false
same (x ∷ xs) [] = false
same (x ∷ xs) (y ∷ ys) = eqb x y && same xs ys

-- the bytes of s before its first x, or all of s where it has none
unfoldable pub up_to : ℕ → List ℕ → List ℕ
up_to x [] = []
up_to x (b ∷ s) = pick (eqb b x) [] (b ∷ up_to x s)

-- the bytes of s past its first x, or none where it has none
unfoldable pub past : ℕ → List ℕ → List ℕ
past x [] = []
past x (b ∷ s) = pick (eqb b x) s (past x s)

-- whether x stands in s
unfoldable pub has : ℕ → List ℕ → Bool
has x [] = false
has x (b ∷ s) = pick (eqb b x) true (has x s)

-- ---- lines
-- whether b is a return that stands right before a newline, s being what follows b
unfoldable pub line_return : ℕ → List ℕ → Bool
line_return b [] = false
line_return b (d ∷ s) = eqb b return_byte && eqb d newline_byte

-- what the line finder hands back: the first unread byte up to the newline, or up to one return that stands right before it
unfoldable pub line_of : List ℕ → List ℕ
line_of [] = []
line_of (b ∷ s) = pick (eqb b newline_byte || line_return b s) [] (b ∷ line_of s)

-- a text without its returns: one return before a newline goes
unfoldable pub without_returns : List ℕ → List ℕ
without_returns [] = []
without_returns (b ∷ s) = pick (line_return b s) (without_returns s) (b ∷ without_returns s)

-- what is unread after the line
unfoldable pub after_line : List ℕ → List ℕ
after_line s = past newline_byte s

-- the lines of a text, of which each takes up at least one byte, each by what it says; a last line without its newline is badly formed
unfoldable pub lines_by : {A : Type 0} → (List ℕ → A) → A → ℕ → List ℕ → List A
lines_by says bad zero s = []
lines_by says bad (suc k) [] = []
lines_by says bad (suc k) (b ∷ s) =
    pick (has newline_byte (b ∷ s)) (says (line_of (b ∷ s))) bad ∷ lines_by says bad k (after_line (b ∷ s))

-- ---- fields: the first of a line, and what follows the tab after it
unfoldable pub field_of : List ℕ → List ℕ
field_of s = up_to tab_byte s

unfoldable pub after_field : List ℕ → List ℕ
after_field s = past tab_byte s

-- ---- numbers: 1 to 9 digits with no leading zero, or 0 itself
abbrev pub is_digit : ℕ → Bool
is_digit b = leb 48 b && leb b 57

unfoldable pub all_digits : List ℕ → Bool
all_digits [] = true
all_digits (b ∷ s) = is_digit b && all_digits s

-- no `0` stands in front of another byte
unfoldable pub no_leading_zero : List ℕ → Bool
no_leading_zero [] = true
no_leading_zero (b ∷ []) = true
no_leading_zero (b ∷ (d ∷ s)) = not (eqb b 48)

unfoldable pub is_number : List ℕ → Bool
is_number s = leb 1 (length s) && leb (length s) 9 && no_leading_zero s && all_digits s

-- what digits are worth after those that were worth v
unfoldable pub worth : ℕ → List ℕ → ℕ
worth v [] = v
worth v (b ∷ s) = worth (v * 10 + (b - 48)) s

-- what the bytes of a field say as a number
unfoldable pub number_in : List ℕ → Option ℕ
number_in s = pick (is_number s) (Some (worth 0 s)) None

-- the decimal digits of n, which has at most k + 1 of them
unfoldable pub digits_in : ℕ → ℕ → List ℕ
digits_in zero n = (48 + n % 10) ∷ []
digits_in (suc k) n = pick (ltb n 10) ((48 + n % 10) ∷ []) (digits_in k (n / 10) ++ ((48 + n % 10) ∷ []))

-- the decimal digits of n, below 10 ^ 10
unfoldable pub digits_of : ℕ → List ℕ
digits_of n = digits_in 9 n

-- ---- the words of the case text; those of the policies are in Policies, those of what is printed in Report
abbrev pub procs_word : List ℕ
procs_word = 112 ∷ 114 ∷ 111 ∷ 99 ∷ 115 ∷ []

abbrev pub policy_word : List ℕ
policy_word = 112 ∷ 111 ∷ 108 ∷ 105 ∷ 99 ∷ 121 ∷ []

abbrev pub task_word : List ℕ
task_word = 116 ∷ 97 ∷ 115 ∷ 107 ∷ []

abbrev pub end_word : List ℕ
end_word = 101 ∷ 110 ∷ 100 ∷ []

abbrev pub release_word : List ℕ
release_word = 114 ∷ 101 ∷ 108 ∷ 101 ∷ 97 ∷ 115 ∷ 101 ∷ []
