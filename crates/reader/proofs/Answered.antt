-- What is at fault with a text, and what the reader answers and its rooms hold then, by where it is found: in the rooms, in the length, in
-- the lines, in the case, nowhere.
use Rattle.std.specs.Prelude.{Result, Ok, Err, Bool, true, false}
use mathlib.Core.Path.{◌≡◌, refl, sym, ap, ◌∙◌}
use lib.Dec.{eqb}
use Rattle.std.proofs.lemmas.Bool.{eqb-false}
use Rattle.rules.specs.Words.{pick}
use mathlib.Core.List.{List, [], ◌∷◌}
use Prim.Native.Nat.{ℕ, ◌*◌, ◌≤◌}
use lib.ListN.{length}
use Rattle.rules.specs.Limits.{max_tasks, max_releases, task_width, release_width}
use Rattle.rules.specs.Case.{Case}
use Rattle.rules.specs.Refusals.{checked, case_fault}
use Rattle.rules.specs.Answers.{result}
use Rattle.rules.specs.Reader.{lines_of, case_order, lines_fault, case_in, length_fault, text_fault, read_fault, read_answer, read_tasks}
use Rattle.rules.specs.Reader.{read_releases}
use Rattle.rules.specs.Calls.{ReadPromise}
use Rattle.rules.specs.declared.Fault.{Fault}
use Rattle.rules.specs.declared.Taken.{Taken}
use Rattle.legal.specs.Firsts.{checked_clear, clear_checked, checked_next, checked_stop, checked_one, row_clear, row_join}
use Rattle.legal.specs.Passing.{room_clear}
use Rattle.legal.specs.Settled.{leaves, settles, puts}
use Rattle.legal.specs.Settled as Settled
use Rattle.texts.specs.Passing.{read_roomy}
use Rattle.reader.specs.Reads.{rooms_tests, rooms_fault, PutsCase}

-- ---- the text
module _ (s : List ℕ) where
  pub text_long : (f : Fault) → checked (length_fault s) ≡ Err f → checked (text_fault s) ≡ Err f
  unfolding text_fault
  text_long f e = checked_stop _ _ f e

  module _ (short : checked (length_fault s) ≡ Ok tt) where
    pub text_line : (f : Fault) → checked (lines_fault case_order 0 1 (lines_of s)) ≡ Err f → checked (text_fault s) ≡ Err f
    unfolding text_fault
    text_line f e = checked_next _ _ short ∙ checked_stop _ _ f e

    pub text_case : (lines_fault case_order 0 1 (lines_of s)).number ≡ 0 → checked (text_fault s) ≡ checked (case_fault (case_in s))
    unfolding text_fault
    text_case lines = checked_next _ _ short ∙ checked_next _ _ (checked_clear _ lines) ∙ checked_one _

-- ---- the rooms
module _ (t r : ℕ) where
  pub enough_room : checked (rooms_fault t r) ≡ Ok tt → (max_tasks * task_width ≤ t) × (max_releases * release_width ≤ r)
  unfolding rooms_fault
  enough_room e = let w = row_clear (rooms_tests t r) (clear_checked _ e) in (room_clear _ t w.0, room_clear _ r w.1.0)

-- ---- the reader
module _ (s : List ℕ) (t r : ℕ) where
  pub at_rooms : (f : Fault) → checked (rooms_fault t r) ≡ Err f → checked (read_fault s t r) ≡ Err f
  unfolding rooms_fault read_fault
  at_rooms f e = ap checked (sym (row_join (rooms_tests t r) (text_fault s ∷ []))) ∙ checked_stop _ _ f e

  pub at_text : checked (rooms_fault t r) ≡ Ok tt → read_fault s t r ≡ text_fault s
  at_text room = let w = enough_room t r room in read_roomy s t r w.0 w.1

-- a check that tells a fault tells its own, which is one
pub told : (f g : Fault) → checked f ≡ Err g → (g ≡ f) × (g.number ≡ 0 → ⊥)
told f g = go (eqb f.number 0) refl
  where
    go : (b : Bool) → eqb f.number 0 ≡ b → ◌≡◌ {A = Result (Unit {0}) Fault} (pick b (Ok tt) (Err f)) (Err g)
        → (g ≡ f) × (g.number ≡ 0 → ⊥)
    go true q e = absurd cc
    go false q e = let same : g ≡ f = cc in (same, rw same (eqb-false _ _ q))

module _ (s tasks releases : List ℕ) where
  -- a refusal: its number and place, and the rooms as they were
  pub refuses : (f : Fault) → checked (read_fault s (length tasks) (length releases)) ≡ Err f
      → ReadPromise s tasks releases (Err f) tasks releases
  unfolding read_answer read_tasks read_releases
  refuses f e =
      let w = told _ f e in
      record {
        answer = Settled.refuses f _ w.0 _ w.1;
        left_tasks = leaves f _ w.0 _ _ w.1;
        left_releases = leaves f _ w.0 _ _ w.1;
      }

  -- an accepted text: its case is put into the rooms
  pub reads : (c : Case) (r : Taken) (tasks' releases' : List ℕ) → (read_fault s (length tasks) (length releases)).number ≡ 0
      → case_in s ≡ c → PutsCase c tasks releases r tasks' releases' → ReadPromise s tasks releases (Ok r) tasks' releases'
  unfolding read_answer read_tasks read_releases
  reads c r tasks' releases' h p w =
      record {
        answer = ap result (rw p w.answer) ∙ settles _ _ refl _ h;
        left_tasks = rw p w.left_tasks ∙ puts _ _ refl _ _ h;
        left_releases = rw p w.left_releases ∙ puts _ _ refl _ _ h;
      }
