-- Going on in a line (`Goes` of Lines): by a byte, by a digit, by one way and then another; and where the line ends.
use mathlib.Core.Path.{◌≡◌, refl, ap, ◌∙◌}
use mathlib.Core.Bool.{Bool, true, false}
use mathlib.Core.List.{List, []}
use Prim.Native.Nat.{ℕ, ◌+◌, ◌*◌, ◌-◌, ◌≤◌, ◌<◌}
use native.Mathlib.Numerals.{add-one}
use native.Mathlib.Omega.{arith}
use lib.ListN.{length, get_or, drop, drop_of_length-le}
use lib.Seq.{drop-cons}
use borrow.Author.Tests.{ne_eqb}
use Rattle.rules.specs.Limits.{max_tasks}
use Rattle.rules.specs.Slot.{TaskSet}
use Rattle.rules.specs.Text.{newline_byte, up_to}
use Rattle.feeds.specs.NumScan.{num_so_far, fits}
use Rattle.feeds.specs.LineScan.{LineScan, in_time, scan_byte, scan_all}
use Rattle.feeds.specs.Bounds.{NumSmall}
use Rattle.feeds.proofs.Bounds.{small_field, small_scan}
use Rattle.std.proofs.Common.{inl}
use Rattle.heard.specs.declared.Phase.{Phase}
use Rattle.heard.specs.declared.Phase.TheVariants as Phase·
use Rattle.heard.specs.Scans.{OfNumber, phase_as}
use Rattle.heard.specs.Lines.{Goes, HeardLine}
use Rattle.heard.proofs.Scanning.{fits_digit, digit_more, scan_other}

-- ---- where no byte of the line is left: behind the piece, and at a newline
pub past_piece : (bytes : List ℕ) (i : ℕ) → length bytes ≤ i → up_to newline_byte (drop i bytes) ≡ []
unfolding up_to
past_piece bytes i l = rw (drop_of_length-le bytes {i = i} l)

pub at_newline : (bytes : List ℕ) (i : ℕ) → i < length bytes → get_or bytes i 0 ≡ newline_byte → up_to newline_byte (drop i bytes) ≡ []
unfolding up_to
at_newline bytes i l e = rw (drop-cons bytes i 0 l, e)

-- ---- going on
pub goes_both : {bytes : List ℕ} {i j k : ℕ} {x y z : LineScan} → Goes bytes i x j y → Goes bytes j y k z → Goes bytes i x k z
goes_both a b = record {
  on = omega (arith, a.on, b.on);
  within = b.within;
  small = λ h. b.small (a.small h);
  state = b.state ∙ a.state;
  place = b.place ∙ a.place;
}

-- one byte more, which is no newline
pub goes_byte : (bytes : List ℕ) (i : ℕ) (x : LineScan) → i < length bytes → (get_or bytes i 0 ≡ newline_byte → ⊥)
    → Goes bytes i x (i + 1) (scan_byte x (get_or bytes i 0))
unfolding up_to scan_all
goes_byte bytes i x l h = record {
  on = omega arith;
  within = omega arith;
  small = small_scan x (get_or bytes i 0);
  state = rw (add-one i, drop-cons bytes i 0 l, ne_eqb (get_or bytes i 0) newline_byte h);
  place = rw (add-one i, drop-cons bytes i 0 l, ne_eqb (get_or bytes i 0) newline_byte h) (omega arith);
}

-- one digit more of a number
pub goes_digit : (bytes : List ℕ) (i : ℕ) (p : Phase) (k v t low : ℕ) (rises names : Bool) (s : TaskSet) → OfNumber p → i < length bytes
    → fits k v (get_or bytes i 0) ≡ true
    → Goes bytes i (phase_as p k v t low rises names s) (i + 1)
    (phase_as p (k + 1) (v * 10 + (get_or bytes i 0 - 48)) t low rises names s)
goes_digit bytes i p k v t low rises names s o l e =
    rw (
      digit_more p k v t low rises names s (get_or bytes i 0) o e,
      scan_other (phase_as p k v t low rises names s) (get_or bytes i 0) (λ z. omega (arith, fits_digit k v (get_or bytes i 0) e)),
    ) (goes_byte bytes i _ l (λ z. omega (arith, fits_digit k v (get_or bytes i 0) e)))

-- and it stays small
pub small_digit : (k v b : ℕ) → fits k v b ≡ true → NumSmall (num_so_far k v)
    → NumSmall (num_so_far (k + 1) (v * 10 + (b - 48)))
small_digit k v b e h =
    rw (← digit_more Phase·.Time k v 0 0 true true (λ i. false) b (inl refl) e) at (small_field (in_time k v) b h)

-- at the end of the line
pub goes_all : {bytes : List ℕ} {i j : ℕ} {x y : LineScan} (xs : List Bool) → length xs ≡ max_tasks → Goes bytes i x j y
    → up_to newline_byte (drop j bytes) ≡ []
    → HeardLine bytes i j x y xs
unfolding scan_all
goes_all {bytes} {i} {j} {x} {y} xs n g e = record {
  long = n;
  state = rw e at g.state;
  place = omega (arith, g.place, ap length e);
}
