-- The words that a number chooses, as they are laid, and how long they can be.
use mathlib.Core.Path.{◌≡◌, refl}
use mathlib.Core.List.{List, [], ◌∷◌}
use Prim.Native.Nat.{ℕ, zero, suc, ◌≤◌}
use native.Mathlib.Omega.{arith}
use lib.ListN.{length, get_or, length-append}
use Rattle.texts.specs.Digits.{at_most_ten}
use Rattle.puts.specs.Laid.{Laid}
use Rattle.reasons.specs.Reasons.{sign_bytes, words, reasons, plain_reason, reason_of, reason_room, Said}

-- ---- how long
abbrev Short : List (List ℕ) → Type 0
Short [] = Unit {0}
Short (s ∷ ss) = (length s ≤ reason_room) × Short ss

short_at : (ss : List (List ℕ)) (d : List ℕ) (n : ℕ) → Short ss → length d ≤ reason_room → length (get_or ss n d) ≤ reason_room
short_at [] d n h g = g
short_at (s ∷ ss) d zero h g = h.0
short_at (s ∷ ss) d (suc n) h g = short_at ss d n h.1 g

plain_short : (n p : ℕ) → length (plain_reason n p) ≤ reason_room
unfolding words sign_bytes
plain_short n p = simp length-append (omega (arith, at_most_ten n, at_most_ten p))

pub reason_short : (n p : ℕ) → length (reason_of n p) ≤ reason_room
unfolding reason_of words sign_bytes
reason_short n p =
    short_at (plain_reason n p ∷ reasons p) (plain_reason n p) n (
      plain_short n p,
      (
        omega arith,
        (
          simp length-append (omega (arith, at_most_ten p)),
          (
            simp length-append (omega (arith, at_most_ten p)),
            (
              omega arith,
              (
                omega arith,
                (
                  simp length-append (omega (arith, at_most_ten p)),
                  (
                    omega arith,
                    (
                      simp length-append (omega (arith, at_most_ten p)),
                      (
                        simp length-append (omega (arith, at_most_ten p)),
                        (
                          simp length-append (omega (arith, at_most_ten p)),
                          (
                            simp length-append (omega (arith, at_most_ten p)),
                            (
                              omega arith,
                              (
                                omega arith,
                                (
                                  omega arith,
                                  (
                                    omega arith,
                                    (
                                      simp length-append (omega (arith, at_most_ten p)),
                                      (
                                        simp length-append (omega (arith, at_most_ten p)),
                                        (simp length-append (omega (arith, at_most_ten p)), (omega arith, tt)),
                                      ),
                                    ),
                                  ),
                                ),
                              ),
                            ),
                          ),
                        ),
                      ),
                    ),
                  ),
                ),
              ),
            ),
          ),
        ),
      ),
    )
    (plain_short n p)

-- ---- by the number
said : {text old new : List ℕ} {end : ℕ} (n p : ℕ) → text ≡ reason_of n p → Laid 0 text old new end
    → Said (reason_of n p) old new end
said n p f l = let m = rw f at l in record { laid = m; short = omega (arith, m.behind, reason_short n p) }

-- what is laid are the words of the number k, and the refusal's number is k
pub chosen : {n : ℕ} {old new : List ℕ} {end : ℕ} (p k : ℕ) → n ≡ k
    → Laid 0 (get_or (plain_reason k p ∷ reasons p) k (plain_reason k p)) old new end
    → Said (reason_of n p) old new end
unfolding reason_of
chosen p k e l = rw e (said k p refl l)
