-- What is heard of the fields of a line, read byte by byte (LineScan), is what `slot_says` of rules, Log, says of them. For Returned.
use Rattle.std.specs.Prelude.{Option, Some, None}
use Rattle.std.specs.Prelude.{Bool, ◌&&◌, ℕ, suc}
use Rattle.std.proofs.Math.Bool.{true}
use mathlib.Core.List.{List, [], ◌∷◌}
use Rattle.std.proofs.Math.Dec.{leb}
use Rattle.rules.specs.Slot.{TaskSet}
use Rattle.rules.specs.Text.{number_in}
use Rattle.rules.specs.Log.{set_named}
use Rattle.feeds.specs.LineScan.{is_name, with_name}
use Rattle.feeds.specs.LineScan.{Heard, heard_bad, heard}

-- ---- what numbers in fields are heard as
abbrev pub with_heard : Option ℕ → (ℕ → Heard) → Heard
with_heard None say = heard_bad
with_heard (Some v) say = say v

unfoldable pub hear_numbers : List (List ℕ) → (List ℕ → Heard) → Heard
hear_numbers [] say = say []
hear_numbers (f ∷ fs) say = with_heard (number_in f) (λ v. hear_numbers fs (λ vs. say (v ∷ vs)))

-- tasks, one after the other
unfoldable pub heard_tasks : ℕ → ℕ → Bool → Bool → TaskSet → List ℕ → Heard
heard_tasks t low rises names set [] = heard t rises names set
heard_tasks t low rises names set (v ∷ vs) = heard_tasks t (suc v) (rises && leb low v) (names && is_name v) (with_name set v) vs

unfoldable pub heard_all : List ℕ → Heard
heard_all [] = heard_bad
heard_all (t ∷ vs) = heard_tasks t 0 true true (set_named []) vs

-- ---- all tasks at once
unfoldable pub rises_from : ℕ → List ℕ → Bool
rises_from low [] = true
rises_from low (v ∷ vs) = leb low v && rises_from (suc v) vs
