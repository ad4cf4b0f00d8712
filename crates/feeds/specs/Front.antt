-- More lines behind a log change nothing in front: its lines, sets, states and faults stay. For Feed.
use Rattle.std.specs.Prelude.{◌≡◌, refl, List, [], ◌∷◌, ◌++◌, ℕ, zero, suc, ◌≤◌, ◌<◌, length}
use Rattle.std.proofs.Common.{ap₂, arith}
use Rattle.std.proofs.Math.Path.{ap}
use Rattle.std.proofs.Math.ListN.{get_or-append}
use Rattle.rules.specs.declared.Run.{Run}
use Rattle.rules.specs.Case.{Case}
use Rattle.rules.specs.Slot.{Setup, TaskSet, opened, worked}
use Rattle.rules.specs.Replay.{setup_in, released_at}
use Rattle.rules.specs.Refusals.{first_of}
use Rattle.legal.specs.Firsts.{first-same}
use Rattle.rules.specs.Log.{LogLine, bad_line, tasks_of, set_named, followed, line_at, sets_of, line_fault}

-- the same sets before t, the same state at t
followed_cong : (g : Setup) (released : ℕ → TaskSet) (a b : ℕ → TaskSet) (t : ℕ) → ((u : ℕ) → u < t → a u ≡ b u)
    → followed g released a t ≡ followed g released b t
unfolding followed
followed_cong g released a b zero h = refl
followed_cong g released a b (suc t) h =
    ap₂ (λ (s : TaskSet) (r : Run). worked s (opened g t (released t) r)) (h t (omega arith))
    (followed_cong g released a b t (λ u x. h u (omega arith)))

-- the line behind ls
pub line_next : (ls : List LogLine) (x : LogLine) (ms : List LogLine) → line_at (ls ++ (x ∷ ms)) (length ls) ≡ x
line_next [] x ms = refl
line_next (l ∷ ls) x ms = line_next ls x ms

pub long_next : (ls : List LogLine) (x : LogLine) → length (ls ++ (x ∷ [])) ≡ suc (length ls)
long_next [] x = refl
long_next (l ∷ ls) x = ap suc (long_next ls x)

module _ (c : Case) (ls ms : List LogLine) where
  set_front : (i : ℕ) → i < length ls → sets_of (ls ++ ms) i ≡ sets_of ls i
  unfolding sets_of
  set_front i h = ap (λ (l : LogLine). set_named (tasks_of l)) (get_or-append ls ms bad_line i h)

  pub state_front : (i : ℕ) → i ≤ length ls → followed (setup_in c) (released_at c) (sets_of (ls ++ ms)) i
      ≡ followed (setup_in c) (released_at c) (sets_of ls) i
  state_front i h = followed_cong (setup_in c) (released_at c) (sets_of (ls ++ ms)) (sets_of ls) i (λ u x. set_front u (omega arith))

  pub fault_front : (i : ℕ) → i < length ls → line_fault c (ls ++ ms) i ≡ line_fault c ls i
  unfolding line_fault
  fault_front i h = rw (get_or-append ls ms bad_line i h, state_front i (omega arith))

  pub first_front : first_of (line_fault c (ls ++ ms)) (length ls) ≡ first_of (line_fault c ls) (length ls)
  first_front = first-same (line_fault c (ls ++ ms)) (line_fault c ls) (length ls) fault_front
