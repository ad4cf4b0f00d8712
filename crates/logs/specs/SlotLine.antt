-- One line of a log (`slot_says`, `slot_line_text` of rules, Log): what is written of a time and tasks says these, and a line that is not
-- badly formed is just the bytes that are written of what it says. For LogLines.
use Rattle.std.specs.Prelude.{◌≡◌, refl, true, false, List, [], ◌∷◌, ◌++◌, map, ℕ, zero, suc, ◌^◌, ◌≤◌, ◌<◌, length}
use Rattle.std.proofs.Common.{sym, ap, ◌∙◌, true≢false, arith, length-append}
use Rattle.rules.specs.Text.{newline_byte, return_byte, tab_byte, same, has, field_of, after_field, digits_of}
use Rattle.rules.specs.Log.{LogLine, bad_line, slot_line, slot_word, fields_in, fields_of, with_value, with_numbers, time_and_tasks}
use Rattle.rules.specs.Log.{slot_fields}
use Rattle.rules.specs.Log.{slot_says, slot_line_text}
use Rattle.lists.specs.Lists.{picked}
use Rattle.texts.specs.Digits.{written_reads, reads_written}
use Rattle.texts.specs.Fields.{All, Plain, same_true, up_to_seam, past_seam, has_seam, cut_at, digits_plain, parted, line_parted}
use Rattle.texts.specs.Fields.{without_append, parted_no_newline, parted_no_return}

-- ---- the bytes of a line without its newline
abbrev pub slot_body : ℕ → List ℕ → List ℕ
slot_body t ns = parted slot_word (map digits_of (t ∷ ns))

pub slot_body_lem : (t : ℕ) (ns : List ℕ) → slot_line_text t ns ≡ slot_body t ns ++ (newline_byte ∷ [])
unfolding slot_line_text
slot_body_lem t ns = line_parted slot_word (map digits_of (t ∷ ns))

word_plain : Plain slot_word
unfolding has
word_plain = record { no_tab = refl; no_newline = refl; no_return = refl }

all_plain : (ns : List ℕ) → All Plain (map digits_of ns)
unfolding All
all_plain [] = tt
all_plain (n ∷ ns) = (digits_plain n, all_plain ns)

-- it has no newline
pub body_no_newline : (t : ℕ) (ns : List ℕ) → has newline_byte (slot_body t ns) ≡ false
body_no_newline t ns = parted_no_newline slot_word (map digits_of (t ∷ ns)) word_plain (all_plain (t ∷ ns))

-- and no return, nor with its newline
pub body_no_return : (t : ℕ) (ns : List ℕ) → has return_byte (slot_body t ns) ≡ false
body_no_return t ns = parted_no_return slot_word (map digits_of (t ∷ ns)) word_plain (all_plain (t ∷ ns))

pub line_no_return : (t : ℕ) (ns : List ℕ) → has return_byte (slot_line_text t ns) ≡ false
unfolding has
line_no_return t ns = rw (slot_body_lem t ns) (without_append return_byte (slot_body t ns) (newline_byte ∷ []) (body_no_return t ns) refl)

-- ---- written, then read
fields_written : (k : ℕ) (f : List ℕ) (fs : List (List ℕ)) → length fs ≤ k → Plain f → All Plain fs
    → fields_in k (parted f fs) ≡ f ∷ fs
unfolding fields_in parted All field_of after_field
fields_written zero f [] h p ps = refl
fields_written zero f (g ∷ gs) h p ps = absurd (omega arith)
fields_written (suc k) f [] h p ps = rw p.no_tab
fields_written (suc k) f (g ∷ gs) h p ps =
    rw (has_seam tab_byte f (parted g gs), up_to_seam tab_byte f (parted g gs) p.no_tab, past_seam tab_byte f (parted g gs) p.no_tab)
    (ap (λ (l : List (List ℕ)). f ∷ l) (fields_written k g gs (omega arith) ps.0 ps.1))

fields_few : (f : List ℕ) (fs : List (List ℕ)) → length fs ≤ length (parted f fs)
unfolding parted
fields_few f [] = omega arith
fields_few f (g ∷ gs) = omega (arith, length-append f (tab_byte ∷ parted g gs), fields_few g gs)

-- numbers of at most nine digits
abbrev pub Small : List ℕ → Type 0
Small ns = All (λ n. n < 10 ^ 9) ns

numbers-written : (ns : List ℕ) (say : List ℕ → LogLine) → Small ns → with_numbers (map digits_of ns) say ≡ say ns
unfolding with_numbers All
numbers-written [] say h = refl
numbers-written (n ∷ ns) say h = rw (written_reads n h.0) (numbers-written ns (λ vs. say (n ∷ vs)) h.1)

-- what is written of a time and tasks says these
pub slot_written : (t : ℕ) (ns : List ℕ) → t < 10 ^ 9 → Small ns → slot_says (slot_body t ns) ≡ slot_line t ns
unfolding slot_says fields_of same
slot_written t ns h w =
    ap slot_fields (fields_written (length (slot_body t ns)) slot_word (map digits_of (t ∷ ns))
    (fields_few slot_word (map digits_of (t ∷ ns))) word_plain (all_plain (t ∷ ns)))
    ∙ numbers-written (t ∷ ns) time_and_tasks (unfold All in (h, w))

-- ---- read, then written
fields_read : (k : ℕ) (s : List ℕ) (P : List (List ℕ) → Type 0)
    → ((f : List ℕ) (fs : List (List ℕ)) → s ≡ parted f fs → P (f ∷ fs)) → P (fields_in k s)
unfolding fields_in parted field_of after_field
fields_read zero s P h = h s [] refl
fields_read (suc k) s P h =
    picked P (has tab_byte s) _ _
    (λ e. fields_read k (after_field s) (λ l. P (field_of s ∷ l))
    (λ g gs q. h (field_of s) (g ∷ gs) (sym (cut_at tab_byte s e) ∙ ap (λ (r : List ℕ). field_of s ++ (tab_byte ∷ r)) q)))
    (λ e. h s [] refl)

numbers_read : (P : LogLine → Type 0) (fs : List (List ℕ)) (say : List ℕ → LogLine) → P bad_line
    → ((vs : List ℕ) → fs ≡ map digits_of vs → P (say vs)) → P (with_numbers fs say)
unfolding with_numbers
numbers_read P [] say bad good = good [] refl
numbers_read P (f ∷ fs) say bad good =
    reads_written (λ n. P (with_value n (λ v. with_numbers fs (λ vs. say (v ∷ vs))))) f bad
    (λ v e. numbers_read P fs (λ vs. say (v ∷ vs)) bad (λ vs q. good (v ∷ vs) (rw (e, q))))

-- what is true of a badly formed line and of each time and tasks that are written in s is true of what s says
pub slot_read : (P : LogLine → Type 0) (s : List ℕ) → P bad_line
    → ((t : ℕ) (ns : List ℕ) → s ≡ slot_body t ns → P (slot_line t ns)) → P (slot_says s)
unfolding slot_says fields_of
slot_read P s bad good = fields_read (length s) s (λ l. P (slot_fields l)) (λ w fs e.
    picked P (same w slot_word) _ _ (λ q. numbers_read P fs time_and_tasks bad (λ vs z. told w fs vs e (same_true w slot_word q) z))
    (λ q. bad))
  where
    told : (w : List ℕ) (fs : List (List ℕ)) (vs : List ℕ) → s ≡ parted w fs → w ≡ slot_word → fs ≡ map digits_of vs
        → P (time_and_tasks vs)
    told w fs [] e q z = bad
    told w fs (t ∷ ns) e q z = good t ns (e ∙ rw (q, z))

-- a return that is handed back with the line makes it badly formed
pub slot_return_bad : (s : List ℕ) → has return_byte s ≡ true → slot_says s ≡ bad_line
slot_return_bad s h = slot_read (λ l. l ≡ bad_line) s refl
    (λ t ns e. absurd (true≢false (sym h ∙ ap (has return_byte) e ∙ body_no_return t ns)))
