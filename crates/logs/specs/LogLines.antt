-- All lines of a log: lines that are written and read are the same lines; lines that are read, none of them badly formed, and written are
-- the same bytes without the returns. For Exact.
use Rattle.std.specs.Prelude.{◌≡◌, refl, false, List, [], ◌∷◌, ◌++◌, map, ℕ, zero, suc, ◌+◌, ◌^◌, ◌<◌, length, get_or}
use Rattle.std.proofs.Common.{sym, ap, ap₂, ◌∙◌, append_assoc, arith}
use Rattle.rules.specs.Words.{tab}
use Rattle.rules.specs.Text.{newline_byte, return_byte, has, without_returns}
use Rattle.rules.specs.Writer.{joined_text}
use Rattle.rules.specs.Log.{LogLine, bad_line, slot_line, slot_says, log_lines, slot_line_text}
use Rattle.lists.specs.Lists.{map-tab}
use Rattle.texts.specs.Fields.{All, without_joined}
use Rattle.texts.specs.LinesOf.{by_nil, by_cons, by_back, by_without}
use Rattle.logs.specs.SlotLine.{slot_body, slot_body_lem, body_no_newline, body_no_return, line_no_return, Small, slot_written}
use Rattle.logs.specs.SlotLine.{slot_read}

-- ---- written, then read
pub log_written : (f : ℕ → List ℕ) (n k : ℕ) → k + n < 10 ^ 9 → ((t : ℕ) → Small (f t))
    → log_lines (joined_text (tab (λ t. slot_line_text t (f t)) k n)) ≡ tab (λ t. slot_line t (f t)) k n
unfolding log_lines joined_text tab
log_written f zero k h w = by_nil slot_says bad_line 0
log_written f (suc n) k h w =
    let more = joined_text (tab (λ t. slot_line_text t (f t)) (suc k) n) in
    ap (λ (l : List ℕ). log_lines (l ++ more)) (slot_body_lem k (f k))
    ∙ ap log_lines (append_assoc (slot_body k (f k)) (newline_byte ∷ []) more)
    ∙ by_cons slot_says bad_line (slot_body k (f k)) more (body_no_newline k (f k)) (body_no_return k (f k))
    ∙ ap₂ ◌∷◌ (slot_written k (f k) (omega arith) (w k)) (log_written f n (suc k) (omega arith) w)

-- ---- read, then written
unfoldable pub bytes_of : LogLine → List ℕ
bytes_of bad_line = []
bytes_of (slot_line t ns) = slot_line_text t ns

unfoldable pub bytes_of_all : List LogLine → List ℕ
bytes_of_all ls = joined_text (map bytes_of ls)

-- a line that says something
abbrev pub Says : LogLine → Type 0
Says bad_line = ⊥
Says (slot_line t ns) = Unit {0}

line_back : (s : List ℕ) → Says (slot_says s) → bytes_of (slot_says s) ≡ s ++ (newline_byte ∷ [])
unfolding bytes_of
line_back s = slot_read (λ l. Says l → bytes_of l ≡ s ++ (newline_byte ∷ [])) s (λ h. absurd h)
    (λ t ns e h. slot_body_lem t ns ∙ ap (λ (b : List ℕ). b ++ (newline_byte ∷ [])) (sym e))

pub log_back : (s : List ℕ) → All Says (log_lines s) → bytes_of_all (log_lines s) ≡ without_returns s
unfolding log_lines bytes_of_all
log_back s a = by_back slot_says bad_line bytes_of Says (λ said. said) line_back (length s) s (omega arith) a

-- ---- returns
-- none stands in lines that are written
each_no_return : (f : ℕ → List ℕ) (k n : ℕ) → All (λ s. has return_byte s ≡ false) (tab (λ t. slot_line_text t (f t)) k n)
unfolding All tab
each_no_return f k zero = tt
each_no_return f k (suc n) = (line_no_return k (f k), each_no_return f (suc k) n)

pub log_no_return : (f : ℕ → List ℕ) (k n : ℕ) → has return_byte (joined_text (tab (λ t. slot_line_text t (f t)) k n)) ≡ false
log_no_return f k n = without_joined return_byte (tab (λ t. slot_line_text t (f t)) k n) (each_no_return f k n)

-- a log of which none is left without its returns has the lines of the log without them
pub log_without : (s : List ℕ) → has return_byte (without_returns s) ≡ false → log_lines s ≡ log_lines (without_returns s)
unfolding log_lines
log_without s r = by_without slot_says bad_line (length s) s (omega arith) r

-- ---- lists by index
pub all_at : (P : LogLine → Type 0) (ls : List LogLine) → ((i : ℕ) → i < length ls → P (get_or ls i bad_line)) → All P ls
unfolding All
all_at P [] h = tt
all_at P (l ∷ ls) h = (h 0 (omega arith), all_at P ls (λ i x. h (suc i) (omega arith)))

list_from : (ls : List LogLine) (f : ℕ → LogLine) (k : ℕ) → ((i : ℕ) → i < length ls → get_or ls i bad_line ≡ f (k + i))
    → ls ≡ tab f k (length ls)
unfolding tab
list_from [] f k h = refl
list_from (l ∷ ls) f k h =
    ap₂ ◌∷◌ (h 0 (omega arith) ∙ ap f (omega arith))
    (list_from ls f (suc k) (λ i x. h (suc i) (omega arith) ∙ ap f (omega arith)))

pub list_tab : (ls : List LogLine) (f : ℕ → LogLine) → ((i : ℕ) → i < length ls → get_or ls i bad_line ≡ f i) → ls
    ≡ tab f 0 (length ls)
list_tab ls f h = list_from ls f 0 (λ i x. h i x ∙ ap f (omega arith))

pub bytes_tab : (f : ℕ → List ℕ) (k n : ℕ) → bytes_of_all (tab (λ t. slot_line t (f t)) k n)
    ≡ joined_text (tab (λ t. slot_line_text t (f t)) k n)
unfolding bytes_of_all bytes_of
bytes_tab f k n = ap joined_text (map-tab bytes_of (λ t. slot_line t (f t)) k n)
