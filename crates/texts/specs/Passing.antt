-- What it means to pass the tests of the reader (rules, Reader: 1 to 3, `text_fault`, `read_fault`), as legal's Passing says it of the
-- tests on numbers. The reader's proof, the round trip and what is answered to a text cite these laws.
use Rattle.std.specs.Prelude.{◌≡◌, refl, Bool, true, false, not, List, [], ◌∷◌, ◌++◌, ℕ, suc, ◌*◌, ◌≤◌, ◌<◌, eqb, leb, length}
use Rattle.std.proofs.Common.{sym, ap, ◌∙◌, arith, eqb-true, leb-true, le-leb}
use Rattle.std.proofs.lemmas.Bool.{eqb-false, lt-leb, not-true}
use Rattle.rules.specs.Words.{pick}
use Rattle.rules.specs.declared.Fault.{Fault}
use Rattle.rules.specs.declared.Line.{Line}
use Rattle.rules.specs.Limits.{max_tasks, max_releases, max_text, task_width, release_width}
use Rattle.rules.specs.Refusals.{no_fault, fault_of, unless, or_next, first, room_fault, case_fault, Accepted}
use Rattle.rules.specs.Text.{without_returns}
use Rattle.rules.specs.Reader.{lines_of, kind_of, Order, case_order, lines_fault, case_in, length_fault, text_fault, read_fault}
use Rattle.legal.specs.Firsts.{unless_clear, unless_none, AllClear, row_clear, row_none, row_join, next_none}
use Rattle.legal.specs.Passing.{room_clear, room_none}

-- a row of tests, and the room's, that find nothing
pub row_passes : (fs : List Fault) → AllClear fs → (first fs).number ≡ 0
row_passes fs w = ap (λ (f : Fault). f.number) (row_none fs w)

pub room_passes : (need room : ℕ) → need ≤ room → (room_fault need room).number ≡ 0
room_passes need room h = ap (λ (f : Fault). f.number) (room_none need room h)

-- a test that is asked last
pub next_last : (f : Fault) → (f.number ≡ 0 → f ≡ no_fault) → or_next f no_fault ≡ f
unfolding or_next
next_last f h = go (eqb f.number 0) refl
  where
    go : (b : Bool) → eqb f.number 0 ≡ b → pick b no_fault f ≡ f
    go true e = sym (h (eqb-true _ _ e))
    go false e = refl

-- ---- 1: the length of a text, both ways
pub length_clear : (s : List ℕ) → (length_fault s).number ≡ 0 → length s ≤ max_text
unfolding length_fault
length_clear s e = leb-true (length s) max_text (unless_clear _ 1 0 (omega arith) e)

pub length_passes : (s : List ℕ) → length s ≤ max_text → (length_fault s).number ≡ 0
unfolding length_fault
length_passes s h = rw (le-leb (length s) max_text h)

pub length_none : (s : List ℕ) → (length_fault s).number ≡ 0 → length_fault s ≡ no_fault
unfolding length_fault
length_none s e = unless_none (leb (length s) max_text) 1 0 (omega arith) e

-- returns count among the bytes: what is left without them does not matter
pub returns_counted : (s : List ℕ) → length (without_returns s) ≤ max_text → max_text < length s
    → text_fault s ≡ fault_of 1 0
unfolding text_fault length_fault or_next
returns_counted s fits long = rw (lt-leb (length s) max_text long)

-- ---- 2 and 3: a line of kind k is well formed and may follow, and so those after it
abbrev pub line_tests : Order → ℕ → ℕ → ℕ → List Fault
line_tests o before k n = unless (not (eqb k 0)) 2 n ∷ unless (o.follows before k) 3 n ∷ []

pub record LineClear (o : Order) (before k : ℕ) : Type 0 where
  pub said : k ≡ 0 → ⊥
  pub follows : o.follows before k ≡ true

pub line_clear : (o : Order) (before k n : ℕ) → AllClear (line_tests o before k n) → LineClear o before k
line_clear o before k n w =
    record {
      said = eqb-false k 0 (not-true _ (unless_clear _ 2 n (omega arith) w.0));
      follows = unless_clear _ 3 n (omega arith) w.1.0;
    }

pub record LinesClear (o : Order) (before n : ℕ) (l : Line) (ls : List Line) : Type 0 where
  pub line : LineClear o before (kind_of l)
  pub rest : (lines_fault o (kind_of l) (suc n) ls).number ≡ 0

pub lines_clear : (o : Order) (before n : ℕ) (l : Line) (ls : List Line) → (lines_fault o before n (l ∷ ls)).number ≡ 0
    → LinesClear o before n l ls
unfolding lines_fault
lines_clear o before n l ls e =
    let w = row_clear (line_tests o before (kind_of l) n ++ (lines_fault o (kind_of l) (suc n) ls ∷ [])) e in
    record { line = line_clear o before (kind_of l) n (w.0, (w.1.0, tt)); rest = w.1.1.0 }

-- ---- a text: 1, its lines, its case; both ways
abbrev text_tests : List ℕ → List Fault
text_tests s = length_fault s ∷ lines_fault case_order 0 1 (lines_of s) ∷ case_fault (case_in s) ∷ []

pub record TextClear (s : List ℕ) : Type 0 where
  pub short : length s ≤ max_text
  pub lines : (lines_fault case_order 0 1 (lines_of s)).number ≡ 0
  pub accepted : Accepted (case_in s)

pub text_clear : (s : List ℕ) → (text_fault s).number ≡ 0 → TextClear s
unfolding text_fault Accepted
text_clear s e =
    let w = row_clear (text_tests s) e in
    record { short = length_clear s w.0; lines = w.1.0; accepted = w.1.1.0 }

pub text_none : (s : List ℕ) → TextClear s → text_fault s ≡ no_fault
unfolding text_fault Accepted
text_none s w =
    row_none (text_tests s) (length_passes s w.short, (w.lines, (w.accepted, tt)))

-- a row that is asked last
whole : (s : List ℕ) → or_next (text_fault s) no_fault ≡ text_fault s
unfolding text_fault
whole s = row_join (text_tests s) []

-- ---- the reader: its two rooms, then the text; both ways
pub record ReadClear (s : List ℕ) (tasks releases : ℕ) : Type 0 where
  pub tasks_room : max_tasks * task_width ≤ tasks
  pub releases_room : max_releases * release_width ≤ releases
  pub text : (text_fault s).number ≡ 0

pub read_clear : (s : List ℕ) (t r : ℕ) → (read_fault s t r).number ≡ 0 → ReadClear s t r
unfolding read_fault
read_clear s t r e =
    let w = row_clear (room_fault (max_tasks * task_width) t ∷ room_fault (max_releases * release_width) r ∷ text_fault s ∷ []) e in
    record {
      tasks_room = room_clear (max_tasks * task_width) t w.0;
      releases_room = room_clear (max_releases * release_width) r w.1.0;
      text = w.1.1.0;
    }

-- with room enough only the text is asked
pub read_roomy : (s : List ℕ) (t r : ℕ) → max_tasks * task_width ≤ t → max_releases * release_width ≤ r
    → read_fault s t r ≡ text_fault s
unfolding read_fault
read_roomy s t r p q =
    next_none (room_fault (max_tasks * task_width) t) _ (room_passes _ t p) ∙
    next_none (room_fault (max_releases * release_width) r) _ (room_passes _ r q) ∙ whole s
