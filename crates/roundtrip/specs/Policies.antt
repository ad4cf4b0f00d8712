-- The reader cannot meet 14 (document 01, "Refusals by number"): the policy of a text is one of the policies, whatever its bytes are. It is
-- so of each line that `line_says` reads, and so of the case that `case_in` makes of them.
use Rattle.std.specs.Prelude.{Option, Some, None}
use Rattle.std.specs.Prelude.{ℕ, zero, suc, ◌≤◌, ◌≡◌, Bool, true, false, List, [], ◌∷◌, eqb, length}
use Rattle.std.proofs.Common.{arith}
use Rattle.rules.specs.Words.{pick}
use Rattle.rules.specs.Case.{Case}
use Rattle.rules.specs.Refusals.{no_fault, policy_fault}
use Rattle.rules.specs.Text.{newline_byte, has, line_of, after_line, lines_by, field_of, after_field, number_in}
use Rattle.rules.specs.Policies.{edf, max_policy}
use Rattle.rules.specs.Reader.{with_number, one_number, two_numbers, three_numbers, policy_in, word_kind, fields_say, line_says, lines_of}
use Rattle.rules.specs.Reader.{policy_when_absent, no_case, with_line, with_lines, case_with_default, case_in}
use Rattle.legal.specs.Passing.{policy_none}
use Rattle.texts.specs.PolicyNames.{name_read}
use Rattle.rules.specs.declared.Line.{Line}
use Rattle.rules.specs.declared.Line.TheVariants.{Bad, Procs, Policy, Row, End, Release}

-- the policy that a line names, EDF where it names none
abbrev policy_is : Line → ℕ
policy_is Bad = edf
policy_is (Procs m) = edf
policy_is (Policy p) = p
policy_is (Row T C D) = edf
policy_is (End e) = edf
policy_is (Release t n) = edf

-- ---- one line
either_known : (b : Bool) (x y : Line) → policy_is x ≤ max_policy → policy_is y ≤ max_policy → policy_is (pick b x y) ≤ max_policy
either_known true x y p q = p
either_known false x y p q = q

number_known : (n : Option ℕ) (say : ℕ → Line) → ((a : ℕ) → policy_is (say a) ≤ max_policy)
    → policy_is (with_number n say) ≤ max_policy
number_known (Some v) say h = h v
number_known None say h = omega arith

one_known : (s : List ℕ) (say : ℕ → Line) → ((a : ℕ) → policy_is (say a) ≤ max_policy)
    → policy_is (one_number s say) ≤ max_policy
unfolding one_number
one_known s say h = number_known (number_in s) say h

two_known : (s : List ℕ) (say : ℕ → ℕ → Line) → ((a b : ℕ) → policy_is (say a b) ≤ max_policy)
    → policy_is (two_numbers s say) ≤ max_policy
unfolding two_numbers
two_known s say h = number_known (number_in (field_of s)) (λ a. one_number (after_field s) (say a))
    (λ a. one_known (after_field s) (say a) (h a))

three_known : (s : List ℕ) (say : ℕ → ℕ → ℕ → Line) → ((a b d : ℕ) → policy_is (say a b d) ≤ max_policy)
    → policy_is (three_numbers s say) ≤ max_policy
unfolding three_numbers
three_known s say h = number_known (number_in (field_of s)) (λ a. two_numbers (after_field s) (say a))
    (λ a. two_known (after_field s) (say a) (h a))

name_known : (s : List ℕ) → policy_is (policy_in s) ≤ max_policy
unfolding policy_in
name_known s = name_read (λ n. policy_is (with_number n Policy) ≤ max_policy) s (omega arith) (λ p h e. h)

fields_known : (k : ℕ) (s : List ℕ) → policy_is (fields_say k s) ≤ max_policy
unfolding fields_say
fields_known k s =
    either_known (eqb k 1) _ _ (one_known s Procs (λ a. omega arith))
    (either_known (eqb k 2) _ _ (name_known s)
    (either_known (eqb k 3) _ _ (three_known s Row (λ a b d. omega arith))
    (either_known (eqb k 4) _ _ (one_known s End (λ a. omega arith))
    (either_known (eqb k 5) _ _ (two_known s Release (λ a b. omega arith)) (omega arith)))))

line_known : (s : List ℕ) → policy_is (line_says s) ≤ max_policy
unfolding line_says
line_known s = fields_known (word_kind (field_of s)) (after_field s)

-- ---- all lines of a text
more_known : (c : Case) (l : Line) → c.policy ≤ max_policy → policy_is l ≤ max_policy → (with_line c l).policy ≤ max_policy
unfolding with_line
more_known c Bad h k = h
more_known c (Procs m) h k = h
more_known c (Policy p) h k = k
more_known c (Row T C D) h k = h
more_known c (End e) h k = h
more_known c (Release t n) h k = h

lines_known : (k : ℕ) (s : List ℕ) (c : Case) → c.policy ≤ max_policy
    → (with_lines c (lines_by line_says Bad k s)).policy ≤ max_policy
unfolding with_lines lines_by
lines_known zero s c h = h
lines_known (suc k) [] c h = h
lines_known (suc k) (b ∷ s) c h =
    lines_known k (after_line (b ∷ s)) _
    (more_known c _ h (either_known (has newline_byte (b ∷ s)) _ Bad (line_known (line_of (b ∷ s))) (omega arith)))

-- the policy of a text is one of the policies, if the default is
pub policy_under : (p : ℕ) → p ≤ max_policy → (s : List ℕ) → (case_with_default p s).policy ≤ max_policy
unfolding case_with_default lines_of
policy_under p h s = lines_known (length s) s (no_case p) h

pub policy_known : (s : List ℕ) → (case_in s).policy ≤ max_policy
unfolding case_in
policy_known s = policy_under policy_when_absent (omega arith) s

-- so the test that gives 14 passes
pub never_14 : (s : List ℕ) → policy_fault (case_in s).policy ≡ no_fault
never_14 s = policy_none (case_in s).policy (policy_known s)
