-- The words of a refusal, for a person to read: what is wrong and where, by the refusal's number and place (document 01, "Refusals by
-- number", request P1, which adds 16, and request P2, which adds 17 to 19). A new number is one line of `reasons`, and one arm of
-- `put_late_reason`.
use Rattle.std.specs.Prelude.{ℕ, ◌+◌, ◌/◌, ◌%◌, ◌≤◌, List, [], ◌∷◌, ◌++◌, ltb, get_or}
use Prim.Native.Char.{code}
use Prim.Native.String.{String}
use Prim.Native.String as Text
use Rattle.rules.specs.Words.{pick}
use Rattle.rules.specs.Text.{digits_of}
use Rattle.puts.specs.Laid.{Laid}

-- ---- bytes of a quoted text
-- a sign's bytes in UTF-8, by its number; no sign here has a number over 65,535
unfoldable pub sign_bytes : ℕ → List ℕ
sign_bytes c =
    pick (ltb c 128) (c ∷ [])
    (pick (ltb c 2048) ((192 + c / 64) ∷ (128 + c % 64) ∷ []) ((224 + c / 4096) ∷ (128 + c / 64 % 64) ∷ (128 + c % 64) ∷ []))

unfoldable pub words : String → List ℕ
words Text.[] = []
words (Text.◌∷◌ c s) = sign_bytes (code c) ++ words s

-- words with the place between them
abbrev pub placed : String → ℕ → String → List ℕ
placed before p after = words before ++ (digits_of p ++ words after)

-- ---- the words of each number
-- of a number that has none of its own
abbrev pub plain_reason : ℕ → ℕ → List ℕ
plain_reason n p = (words "refusal " ++ (digits_of n ++ words " at ")) ++ digits_of p

-- of the numbers from 1 on, in their order
abbrev pub reasons : ℕ → List (List ℕ)
reasons p =
    words "text: over 60,000 bytes" ∷
    placed "line " p ": badly formed" ∷
    placed "line " p ": out of order or missing" ∷
    words "processors: not 1 to 32" ∷
    words "tasks: not 1 to 32, or not three numbers each" ∷
    placed "task " p ": needs 1 ≤ C ≤ D ≤ T ≤ 10,000" ∷
    words "end: over 100,000" ∷
    placed "release " p ": names no task of the table" ∷
    placed "release " p ": not later by (time, task) than the one before" ∷
    placed "release " p ": comes less than T after the last release of its task" ∷
    placed "release " p ": its time is not before the end" ∷
    words "releases: over 2,000, or not two numbers each" ∷
    words "room: too short" ∷
    words "policy: not 0 or 1" ∷
    words "slot: not before the end" ∷
    placed "task " p ": is never released, so no verdict covers it" ∷
    placed "log line " p ": badly formed, tasks that do not rise, or a wrong time" ∷
    placed "log line " p ": its slot breaks the rule" ∷
    words "log: its number of lines is not the end" ∷ []

unfoldable pub reason_of : ℕ → ℕ → List ℕ
reason_of n p = get_or (plain_reason n p ∷ reasons p) n (plain_reason n p)

-- none of the numbers 1 to 12, which a case's text and numbers have
abbrev pub NotEarly : ℕ → Type 0
NotEarly n = 1 ≤ n → 13 ≤ n

-- no words of a refusal are longer than this
abbrev pub reason_room : ℕ
reason_room = 100

-- the words stand at the start of the lent bytes, and all else is as it was; their length is returned
pub record Said (text old new : List ℕ) (n : ℕ) : Type 0 where
  pub laid : Laid 0 text old new n
  pub short : n ≤ reason_room
