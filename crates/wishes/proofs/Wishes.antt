-- Wishes by cases: those that name no slot, those that are asked at all, and those of too many words.
use mathlib.Core.Path.{◌≡◌, refl}
use mathlib.Core.Bool.{true, false}
use mathlib.Core.List.{List}
use Prim.Native.Nat.{ℕ, zero, suc}
use Rattle.rules.specs.Refusals.{no_fault}
use Rattle.wishes.specs.Asks.{asked_of, words_ask, is_asked, asked_fault}
use Rattle.wishes.specs.declared.Wish.{Wish}
use Rattle.wishes.specs.declared.Wish.TheVariants.{Unknown, Help, Replay, Counts, Slot, Write, Slots, Log}

-- a wish that names no slot has no fault of its own
pub no_slot : (w : Wish) (e : ℕ) → ((s : ℕ) → w ≡ Slot s → ⊥) → no_fault ≡ asked_fault w e
unfolding asked_fault
no_slot Unknown e h = refl
no_slot Help e h = refl
no_slot Replay e h = refl
no_slot Counts e h = refl
no_slot (Slot s) e h = absurd (h s refl)
no_slot Write e h = refl
no_slot Slots e h = refl
no_slot (Log k) e h = refl

-- one that is not unknown is asked
pub some_asked : (w : Wish) → (w ≡ Unknown → ⊥) → is_asked w ≡ true
unfolding is_asked
some_asked Unknown h = absurd (h refl)
some_asked Help h = refl
some_asked Replay h = refl
some_asked Counts h = refl
some_asked (Slot s) h = refl
some_asked Write h = refl
some_asked Slots h = refl
some_asked (Log k) h = refl

-- ---- too many words, or none
pub many : (n : ℕ) (a b c : List ℕ) → ((((Unit {0} × (n ≡ 1 → ⊥)) × (n ≡ 2 → ⊥)) × (n ≡ 3 → ⊥))
    × (n ≡ 4 → ⊥))
    → asked_of Unknown false ≡ words_ask n a b c
unfolding words_ask
many zero a b c h = refl
many (suc zero) a b c h = absurd (h.0.0.0.1 refl)
many (suc (suc zero)) a b c h = absurd (h.0.0.1 refl)
many (suc (suc (suc zero))) a b c h = absurd (h.0.1 refl)
many (suc (suc (suc (suc zero)))) a b c h = absurd (h.1 refl)
many (suc (suc (suc (suc (suc n))))) a b c h = refl
