-- One line (`line_says` of rules, Reader, and the lines of rules, Writer): what the writer writes of what a line says reads as that again,
-- and a line that is not badly formed is just the bytes that the writer writes of what it says. Lines takes this to whole texts.
use Rattle.std.specs.Prelude.{◌≡◌, refl, true, false, ◌⊎◌, List, [], ◌∷◌, ◌++◌, ℕ, ◌^◌, ◌≤◌, ◌<◌, length}
use Rattle.std.proofs.Common.{sym, ap, ◌∙◌, true≢false, inl, inr, arith}
use Rattle.rules.specs.declared.Line.{Line}
use Rattle.rules.specs.declared.Line.TheVariants.{Bad, Procs, Policy, Row, End, Release}
use Rattle.rules.specs.Text.{newline_byte, return_byte, tab_byte, same, has, field_of, after_field, digits_of, procs_word, policy_word}
use Rattle.rules.specs.Text.{task_word}
use Rattle.rules.specs.Text.{end_word, release_word}
use Rattle.rules.specs.Policies.{max_policy, policy_name}
use Rattle.rules.specs.Reader.{with_number, one_number, two_numbers, three_numbers, policy_in, word_kind, fields_say, line_says, kind_of}
use Rattle.rules.specs.Writer.{line_text}
use Rattle.lists.specs.Lists.{picked}
use Rattle.texts.specs.Digits.{digits_some, written_reads, reads_written}
use Rattle.texts.specs.PolicyNames.{name_plain, name_some, name_found, name_read}
use Rattle.texts.specs.Fields.{same_true, up_to_seam, up_to_none, past_seam, Plain, digits_plain, parted, All, line_parted, parted-cons}
use Rattle.texts.specs.Fields.{without_append, without_parts, parted_no_return}

-- ---- what is written of what a line says
-- its word
unfoldable pub word_in : Line → List ℕ
word_in Bad = []
word_in (Procs m) = procs_word
word_in (Policy p) = policy_word
word_in (Row T C D) = task_word
word_in (End e) = end_word
word_in (Release t n) = release_word

-- its fields
unfoldable pub fields_in : Line → List (List ℕ)
fields_in Bad = []
fields_in (Procs m) = digits_of m ∷ []
fields_in (Policy p) = policy_name p ∷ []
fields_in (Row T C D) = digits_of T ∷ digits_of C ∷ digits_of D ∷ []
fields_in (End e) = digits_of e ∷ []
fields_in (Release t n) = digits_of t ∷ digits_of n ∷ []

-- the line without its newline, and with it
unfoldable pub line_body : Line → List ℕ
line_body l = parted (word_in l) (fields_in l)

unfoldable pub line_bytes : Line → List ℕ
line_bytes l = line_text tab_byte (word_in l) (fields_in l)

pub bytes_body : (l : Line) → line_bytes l ≡ line_body l ++ (newline_byte ∷ [])
unfolding line_bytes line_body
bytes_body l = line_parted (word_in l) (fields_in l)

-- a line that says something
unfoldable pub Said : Line → Type 0
Said l = kind_of l ≡ 0 → ⊥

said_or_bad : (l : Line) → Said l ⊎ (l ≡ Bad)
unfolding Said
said_or_bad Bad = inr refl
said_or_bad (Procs m) = inl (λ e. omega arith)
said_or_bad (Policy p) = inl (λ e. omega arith)
said_or_bad (Row T C D) = inl (λ e. omega arith)
said_or_bad (End e) = inl (λ e. omega arith)
said_or_bad (Release t n) = inl (λ e. omega arith)

-- ---- no tab, no newline and no return stands in a word or a field
pub word_plain : (l : Line) → Plain (word_in l)
unfolding word_in has
word_plain Bad = record { no_tab = refl; no_newline = refl; no_return = refl }
word_plain (Procs m) = record { no_tab = refl; no_newline = refl; no_return = refl }
word_plain (Policy p) = record { no_tab = refl; no_newline = refl; no_return = refl }
word_plain (Row T C D) = record { no_tab = refl; no_newline = refl; no_return = refl }
word_plain (End e) = record { no_tab = refl; no_newline = refl; no_return = refl }
word_plain (Release t n) = record { no_tab = refl; no_newline = refl; no_return = refl }

pub fields_plain : (l : Line) → All Plain (fields_in l)
unfolding fields_in All
fields_plain Bad = tt
fields_plain (Procs m) = (digits_plain m, tt)
fields_plain (Policy p) = (name_plain p, tt)
fields_plain (Row T C D) = (digits_plain T, (digits_plain C, (digits_plain D, tt)))
fields_plain (End e) = (digits_plain e, tt)
fields_plain (Release t n) = (digits_plain t, (digits_plain n, tt))

-- ---- written, then read
-- every number of the line is below b, and its policy is one
unfoldable pub Below : ℕ → Line → Type 0
Below b Bad = ⊥
Below b (Procs m) = m < b
Below b (Policy p) = p ≤ max_policy
Below b (Row T C D) = (T < b) × (C < b) × (D < b)
Below b (End e) = e < b
Below b (Release t n) = (t < b) × (n < b)

-- the first field of parted fields, and the others
field_first : (f : List ℕ) (fs : List (List ℕ)) → Plain f → field_of (parted f fs) ≡ f
unfolding field_of parted
field_first f [] p = up_to_none tab_byte f p.no_tab
field_first f (g ∷ gs) p = up_to_seam tab_byte f (parted g gs) p.no_tab

field_others : (f g : List ℕ) (gs : List (List ℕ)) → Plain f → after_field (parted f (g ∷ gs)) ≡ parted g gs
unfolding after_field parted
field_others f g gs p = past_seam tab_byte f (parted g gs) p.no_tab

-- a number of at most nine digits that is written in a field is handed on, with what stands after the field where there is more
one_written : (a : ℕ) (say : ℕ → Line) → a < 10 ^ 9 → one_number (digits_of a) say ≡ say a
unfolding one_number
one_written a say h = rw (written_reads a h)

more-written : (a : ℕ) (g : List ℕ) (gs : List (List ℕ)) (next : List ℕ → ℕ → Line) → a < 10 ^ 9
    → let s = parted (digits_of a) (g ∷ gs) in one_number (field_of s) (next (after_field s)) ≡ next (parted g gs) a
more-written a g gs next h =
    rw (field_first (digits_of a) (g ∷ gs) (digits_plain a), field_others (digits_of a) g gs (digits_plain a))
    (one_written a (next (parted g gs)) h)

two-written : (a b : ℕ) (say : ℕ → ℕ → Line) → a < 10 ^ 9 → b < 10 ^ 9
    → two_numbers (parted (digits_of a) (digits_of b ∷ [])) say ≡ say a b
unfolding one_number two_numbers parted
two-written a b say h k = more-written a (digits_of b) [] (λ s v. one_number s (say v)) h ∙ one_written b (say a) k

three_written : (a b d : ℕ) (say : ℕ → ℕ → ℕ → Line) → a < 10 ^ 9 → b < 10 ^ 9 → d < 10 ^ 9
    → three_numbers (parted (digits_of a) (digits_of b ∷ digits_of d ∷ [])) say ≡ say a b d
unfolding one_number three_numbers
three_written a b d say h k l = more-written a (digits_of b) (digits_of d ∷ []) (λ s v. two_numbers s (say v)) h
    ∙ two-written b d (say a) k l

policy_written : (p : ℕ) → p ≤ max_policy → policy_in (policy_name p) ≡ Policy p
unfolding policy_in
policy_written p h = rw (name_found p h)

word_kind_lem : (l : Line) → word_kind (word_in l) ≡ kind_of l
unfolding word_kind word_in same
word_kind_lem Bad = refl
word_kind_lem (Procs m) = refl
word_kind_lem (Policy p) = refl
word_kind_lem (Row T C D) = refl
word_kind_lem (End e) = refl
word_kind_lem (Release t n) = refl

-- the first field of a line that is written is its word
pub body_kind : (l : Line) → word_kind (field_of (line_body l)) ≡ kind_of l
unfolding line_body
body_kind l = ap word_kind (field_first (word_in l) (fields_in l) (word_plain l)) ∙ word_kind_lem l

-- a word and fields: the word's kind says what the fields say
parted_says : (l : Line) (f : List ℕ) (fs : List (List ℕ)) → line_says (parted (word_in l) (f ∷ fs))
    ≡ fields_say (kind_of l) (parted f fs)
unfolding line_says
parted_says l f fs = rw (field_first (word_in l) (f ∷ fs) (word_plain l), field_others (word_in l) f fs (word_plain l), word_kind_lem l)

-- what is written of what a line says, its newline apart, says that
pub written_says : (b : ℕ) (l : Line) → b ≤ 10 ^ 9 → Below b l → line_says (line_body l) ≡ l
unfolding line_body fields_in Below fields_say parted
written_says b Bad h k = absurd k
written_says b (Procs m) h k = parted_says (Procs m) (digits_of m) [] ∙ one_written m Procs (omega arith)
written_says b (Policy p) h k = parted_says (Policy p) (policy_name p) [] ∙ policy_written p k
written_says b (Row T C D) h k = parted_says (Row T C D) (digits_of T) (digits_of C ∷ digits_of D ∷ [])
    ∙ three_written T C D Row (omega (arith, k.0)) (omega (arith, k.1)) (omega (arith, k.2))
written_says b (End e) h k = parted_says (End e) (digits_of e) [] ∙ one_written e End (omega arith)
written_says b (Release t n) h k = parted_says (Release t n) (digits_of t) (digits_of n ∷ [])
    ∙ two-written t n Release (omega (arith, k.0)) (omega (arith, k.1))

-- ---- read, then written
-- what is true of a badly formed line and of each line that the numbers written in s say is true of what s says
one_read : (P : Line → Type 0) (s : List ℕ) (say : ℕ → Line) → P Bad → ((a : ℕ) → s ≡ digits_of a → P (say a))
    → P (one_number s say)
unfolding one_number
one_read P s say bad good = reads_written (λ n. P (with_number n say)) s bad good

two_read : (P : Line → Type 0) (s : List ℕ) (say : ℕ → ℕ → Line)
    → P Bad → ((a b : ℕ) → s ≡ parted (digits_of a) (digits_of b ∷ []) → P (say a b)) → P (two_numbers s say)
unfolding two_numbers field_of after_field parted one_number
two_read P s say bad good =
    one_read P (field_of s) (λ a. one_number (after_field s) (say a)) bad
    (λ a p. one_read P (after_field s) (say a) bad (λ b q. good a b (parted-cons s (digits_of a) (digits_of b) [] p q (digits_some b))))

three_read : (P : Line → Type 0) (s : List ℕ) (say : ℕ → ℕ → ℕ → Line)
    → P Bad → ((a b d : ℕ) → s ≡ parted (digits_of a) (digits_of b ∷ digits_of d ∷ []) → P (say a b d))
    → P (three_numbers s say)
unfolding three_numbers field_of after_field one_number
three_read P s say bad good =
    one_read P (field_of s) (λ a. two_numbers (after_field s) (say a)) bad
    (λ a p. two_read P (after_field s) (say a) bad
    (λ b d q. good a b d (parted-cons s (digits_of a) (digits_of b) (digits_of d ∷ []) p q (digits_some b))))

policy_read : (P : Line → Type 0) (s : List ℕ) → P Bad → ((p : ℕ) → p ≤ max_policy → s ≡ policy_name p → P (Policy p))
    → P (policy_in s)
unfolding policy_in
policy_read P s bad good = name_read (λ n. P (with_number n Policy)) s bad good

-- the line s is what is written of l, if l says anything
abbrev pub Returns : List ℕ → Line → Type 0
Returns s l = Said l → line_bytes l ≡ s ++ (newline_byte ∷ [])

returns_bad : (s : List ℕ) → Returns s Bad
unfolding Said
returns_bad s h = absurd (h refl)

returns_fields : (s : List ℕ) (l : Line) (g : List ℕ) (gs : List (List ℕ))
    → same (field_of s) (word_in l) ≡ true → after_field s ≡ parted g gs → 1 ≤ length g → fields_in l ≡ g ∷ gs → Returns s l
unfolding field_of after_field line_body
returns_fields s l g gs p q n e h =
    bytes_body l ∙ ap (λ (t : List ℕ). t ++ (newline_byte ∷ []))
    (ap (parted (word_in l)) e ∙ sym (parted-cons s (word_in l) g gs (same_true (field_of s) (word_in l) p) q n))

-- a line that is not badly formed is what is written of what it says
pub says_written : (s : List ℕ) → Returns s (line_says s)
unfolding line_says word_kind fields_say word_in fields_in parted
says_written s =
    let w = field_of s in
    let f = after_field s in
    let bad = returns_bad s in
    let Kind : ℕ → Type 0 = λ k. Returns s (fields_say k f) in
    picked Kind (same w procs_word) _ _ (λ e. one_read (Returns s) f Procs bad (λ a q. returns_fields s (Procs a)
    (digits_of a) [] e q (digits_some a) refl))
    (λ _. picked Kind (same w policy_word) _ _
    (λ e. policy_read (Returns s) f bad (λ p k q. returns_fields s (Policy p) (policy_name p) [] e q (name_some p k) refl))
    (λ _. picked Kind (same w task_word) _ _
    (λ e. three_read (Returns s) f Row bad (λ a b d q. returns_fields s (Row a b d) (digits_of a)
    (digits_of b ∷ digits_of d ∷ []) e q (digits_some a) refl))
    (λ _. picked Kind (same w end_word) _ _
    (λ e. one_read (Returns s) f End bad (λ a q. returns_fields s (End a) (digits_of a) [] e q (digits_some a) refl))
    (λ _. picked Kind (same w release_word) _ _
    (λ e. two_read (Returns s) f Release bad (λ a b q. returns_fields s (Release a b) (digits_of a)
    (digits_of b ∷ []) e q (digits_some a) refl)) (λ _. bad)))))

-- ---- returns
-- no return stands in what is written of what a line says
pub body_no_return : (l : Line) → has return_byte (line_body l) ≡ false
unfolding line_body
body_no_return l = parted_no_return (word_in l) (fields_in l) (word_plain l) (fields_plain l)

pub bytes_no_return : (l : Line) → has return_byte (line_bytes l) ≡ false
unfolding has
bytes_no_return l = rw (bytes_body l) (without_append return_byte (line_body l) (newline_byte ∷ []) (body_no_return l) refl)

-- nor in a line that says something: a return that is handed back with the line makes it badly formed
pub return_bad : (s : List ℕ) → has return_byte s ≡ true → line_says s ≡ Bad
return_bad s h = go (said_or_bad (line_says s))
  where
    go : Said (line_says s) ⊎ (line_says s ≡ Bad) → line_says s ≡ Bad
    go (inr e) = e
    go (inl said) =
        let none = rw (says_written s said) at (bytes_no_return (line_says s)) in
        absurd (true≢false (sym h ∙ (without_parts return_byte s (newline_byte ∷ []) none).0))
