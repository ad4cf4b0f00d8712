-- The loop that copies numbers to the front of a room: it writes the room in order towards those numbers and what stood after them.
use mathlib.Core.Path.{◌≡◌, refl, sym, ◌∙◌}
use mathlib.Core.List.{List, ◌++◌}
use Prim.Native.Nat.{ℕ, ◌+◌, ◌≤◌, ◌<◌}
use native.Mathlib.Omega.{arith}
use lib.ListN.{length, drop, get_or, set, length-append, length-drop, length-set, get_or-append}
use lib.Seq.{take-append_seam}
use Rattle.lists.specs.Fill.{Filling, filling_none, filling_store}

-- the numbers, and after them what the room held
abbrev put : List ℕ → List ℕ → List ℕ
put numbers old = numbers ++ drop (length numbers) old

pub record Copying (old numbers room : List ℕ) (i : ℕ) : Type 0 where
  pub within : i ≤ length numbers
  pub long : length room ≡ length old
  pub filling : Filling (length old) (put numbers old) old room i

module _ (old numbers : List ℕ) (fits : length numbers ≤ length old) where
  pub copying_none : Copying old numbers old 0
  copying_none =
      record {
        within = omega arith;
        long = refl;
        filling =
            filling_none (length old) (put numbers old) old refl
            (omega (arith, length-append numbers (drop (length numbers) old), length-drop (length numbers) old));
      }

  pub copying_on : (room : List ℕ) (i : ℕ) → i < length numbers → Copying old numbers room i
      → Copying old numbers (set room i (get_or numbers i 0)) (i + 1)
  copying_on room i h w =
      record {
        within = omega arith;
        long = length-set room i (get_or numbers i 0) ∙ w.long;
        filling =
            filling_store (length old) (put numbers old) old room i 0 (get_or numbers i 0) (omega arith) w.filling
            (sym (get_or-append numbers (drop (length numbers) old) 0 i h));
      }

  pub copying_all : (room : List ℕ) (i : ℕ) → length numbers ≤ i → Copying old numbers room i → room ≡ put numbers old
  copying_all room i h w =
      let e : i ≡ length numbers = omega (arith, w.within) in
      w.filling.so_far ∙ rw (e, take-append_seam)
