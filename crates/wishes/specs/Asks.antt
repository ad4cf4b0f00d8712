-- Which words of the command line ask for what, and what is at fault in what is asked. The words are the project's own: document 01 fixes
-- only what the program prints with no word after its name.
use Rattle.std.specs.Prelude.{Option, Some, None}
use Rattle.std.specs.Prelude.{ℕ, zero, suc, Bool, true, false, List}
use Rattle.rules.specs.Words.{pick}
use Rattle.rules.specs.Text.{same, number_in}
use Rattle.rules.specs.Refusals.{no_fault, slot_fault}
use Rattle.rules.specs.declared.Fault.{Fault}
use Rattle.reasons.specs.Reasons.{words}
use Rattle.wishes.specs.declared.Asked.{Asked}
use Rattle.wishes.specs.declared.Wish.{Wish}
use Rattle.wishes.specs.declared.Wish.TheVariants.{Unknown, Help, Replay, Counts, Slot, Write, Slots, Log}

abbrev pub asked_of : Wish → Bool → Asked
asked_of w q = record { wish = w; quiet = q }

-- ---- a command
-- a word alone
unfoldable pub word_asks : List ℕ → Wish
word_asks w =
    pick (same w (words "counts")) Counts
    (pick (same w (words "write")) Write
    (pick (same w (words "slots")) Slots
    (pick (same w (words "help")) Help (pick (same w (words "-h")) Help (pick (same w (words "--help")) Help Unknown)))))

-- `slot` and its number
unfoldable pub slot_named : List ℕ → Option ℕ → Wish
slot_named w (Some s) = pick (same w (words "slot")) (Slot s) Unknown
slot_named w None = Unknown

abbrev pub slot_asks : List ℕ → List ℕ → Wish
slot_asks w n = slot_named w (number_in n)

-- `log` and its file, which is word k of the program and may be any word at all; else what `slot` and its number ask
unfoldable pub log_asks : List ℕ → List ℕ → ℕ → Wish
log_asks w n k = pick (same w (words "log")) (Log k) (slot_asks w n)

-- ---- the words after the program's name: a command, with `-q` before it or after it where the words of a refusal are to be left out
abbrev pub is_quiet : List ℕ → Bool
is_quiet w = same w (words "-q")

unfoldable pub one_asks : List ℕ → Asked
one_asks a = pick (is_quiet a) (asked_of Replay true) (asked_of (word_asks a) false)

unfoldable pub two_ask : List ℕ → List ℕ → Asked
two_ask a b =
    pick (is_quiet a) (asked_of (word_asks b) true) (pick (is_quiet b) (asked_of (word_asks a) true) (asked_of (log_asks a b 2) false))

unfoldable pub three_ask : List ℕ → List ℕ → List ℕ → Asked
three_ask a b c =
    pick (is_quiet a) (asked_of (log_asks b c 3) true) (pick (is_quiet c) (asked_of (log_asks a b 2) true) (asked_of Unknown false))

-- so many words, the program's name being one of them; the name alone asks for the replay, and no command has more than three others
unfoldable pub words_ask : ℕ → List ℕ → List ℕ → List ℕ → Asked
words_ask zero a b c = asked_of Unknown false
words_ask (suc zero) a b c = asked_of Replay false
words_ask (suc (suc zero)) a b c = one_asks a
words_ask (suc (suc (suc zero))) a b c = two_ask a b
words_ask (suc (suc (suc (suc zero)))) a b c = three_ask a b c
words_ask (suc (suc (suc (suc (suc n))))) a b c = asked_of Unknown false

-- ---- a word that stands in some command
unfoldable pub is_number : Option ℕ → Bool
is_number (Some s) = true
is_number None = false

unfoldable pub is_asked : Wish → Bool
is_asked Unknown = false
is_asked Help = true
is_asked Replay = true
is_asked Counts = true
is_asked (Slot s) = true
is_asked Write = true
is_asked Slots = true
is_asked (Log k) = true

unfoldable pub is_known : List ℕ → Bool
is_known w =
    pick (is_quiet w) true
    (pick (same w (words "slot")) true
    (pick (same w (words "log")) true (pick (is_number (number_in w)) true (is_asked (word_asks w)))))

-- ---- what is at fault in what is asked of an accepted case that ends at e
unfoldable pub asked_fault : Wish → ℕ → Fault
asked_fault Unknown e = no_fault
asked_fault Help e = no_fault
asked_fault Replay e = no_fault
asked_fault Counts e = no_fault
asked_fault (Slot s) e = slot_fault e s
asked_fault Write e = no_fault
asked_fault Slots e = no_fault
asked_fault (Log k) e = no_fault
