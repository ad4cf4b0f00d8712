-- The writer's answer by cases: a case at fault, no room, the text.
use Rattle.std.specs.Prelude.{Ok, Err}
use mathlib.Core.Path.{◌≡◌, ap, ◌∙◌}
use mathlib.Core.List.{List, [], ◌∷◌}
use Prim.Native.Nat.{ℕ, ◌≤◌}
use native.Mathlib.Omega.{arith}
use lib.ListN.{length}
use Rattle.rules.specs.declared.Fault.{Fault}
use Rattle.rules.specs.Case.{Case}
use Rattle.rules.specs.Refusals.{checked, first, room_fault, case_fault, Accepted}
use Rattle.rules.specs.Answers.{result}
use Rattle.rules.specs.Calls.{WritePromise}
use Rattle.rules.specs.Writer.{case_text, write_fault, write_answer, write_bytes}
use Rattle.legal.specs.Firsts.{checked_next, checked_stop, checked_one}
use Rattle.legal.specs.Legal.{legal}
use Rattle.legal.specs.Settled.{refuses_with, leaves_with, settles_with, puts_with}
use Rattle.puts.specs.Laid.{Laid}
use Rattle.puts.proofs.Puts.{laid_front}
use Rattle.writer.specs.Rows.{WholeRows}

-- a case with no fault has whole rows
pub whole : (c : Case) → (case_fault c).number ≡ 0 → WholeRows c.table c.trace
unfolding Accepted
whole c e =
    let g = legal c e in
    record { tasks = g.threes; releases = g.twos; few = g.tasks_few; few' = g.releases_few }

-- the row of tests ends at the case's fault, or at the room's
module _ (c : Case) (n : ℕ) where
  pub case_at_fault : (g : Fault) → checked (case_fault c) ≡ Err g → checked (write_fault c n) ≡ Err g
  unfolding write_fault
  case_at_fault g e = checked_stop (case_fault c) _ g e

  pub then_room : checked (case_fault c) ≡ Ok tt → checked (write_fault c n) ≡ checked (room_fault (length (case_text c)) n)
  unfolding write_fault
  then_room e =
      let room = room_fault (length (case_text c)) n in
      checked_next (case_fault c) (first (room ∷ [])) e ∙ checked_one room

-- what is answered, and what the bytes are then
pub refused : (c : Case) (room : List ℕ) (g : Fault) → checked (write_fault c (length room)) ≡ Err g → WritePromise c room (Err g) room
unfolding write_answer write_bytes
refused c room g e = record { answer = refuses_with _ _ _ e; left = leaves_with _ _ _ _ e }

pub written : (c : Case) (room new : List ℕ) (n : ℕ) → checked (write_fault c (length room)) ≡ Ok tt
    → length (case_text c) ≤ length room
    → Laid 0 (case_text c) room new n
    → WritePromise c room (Ok n) new
unfolding write_answer write_bytes
written c room new n e h p =
    let l : n ≡ length (case_text c) = omega (arith, p.behind) in
    record { answer = ap (λ (k : ℕ). result (k ∷ [])) l ∙ settles_with _ _ e; left = laid_front p h ∙ puts_with _ _ _ e }
