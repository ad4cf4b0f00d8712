-- `scan::number` meets its contract.
use Prim.Native.Nat.{ℕ, ◌+◌, ◌*◌}
use mathlib.Core.Path.{◌≡◌, refl, ap, sym, ◌∙◌}
use mathlib.Core.Bool.{true}
use native.Mathlib.Omega.{arith}
use lib.ListN.{length, drop}
use Rattle.rules.specs.Text.{no_leading_zero, worth}
use Rattle.scan.proofs.Numbers.{bad_empty, bad_long, bad_front, bad_digit, good, front_short, front_good, front_zero, digits_low}
use Rattle.scan.proofs.Numbers.{digits_high, digits_on, worth_on, digits_done, worth_done, below_on, below_small}
use Rattle.scan.proofs.number.Goals as goal
use Rattle.scan.proofs.number.Goals.{then-n-eq0-via-then-n-eq0, then-n-eq0-via-else-n-eq0+then-n-gt9}
use Rattle.scan.proofs.number.Goals.{else-n-gt1-via-then-n-gt1+else-s-eq48, else-n-gt1-via-else-n-gt1}
use Rattle.scan.proofs.number.Goals.{then-b-lt48-via-then-b-lt48, then-b-lt48-via-else-b-lt48+then-b-gt57}

pub returns-then-n-eq0 : goal.returns-then-n-eq0
returns-then-n-eq0 c =
    elim c.then-n-eq0.branch [
      | then-n-eq0-via-then-n-eq0 w ↦ bad_empty _ w.if-n-eq0.true
      | then-n-eq0-via-else-n-eq0+then-n-gt9 w ↦ bad_long _ w.if-n-gt9.true
    ]

pub returns-then-s-eq48 : goal.returns-then-s-eq48
returns-then-s-eq48 c = bad_front _ (front_zero _ c.if-n-gt1.true c.if-s-eq48.true)

pub loop-b-init : goal.loop-b-init
loop-b-init c =
    let front : no_leading_zero c.args.s.now ≡ true =
    elim c.else-n-gt1.branch [
      | else-n-gt1-via-then-n-gt1+else-s-eq48 w ↦ front_good _ w.if-s-eq48.false
      | else-n-gt1-via-else-n-gt1 w ↦ front_short _ w.if-n-gt1.false
    ] in
    (omega arith, front, refl, refl)

pub returns-then-b-lt48 : goal.returns-then-b-lt48
returns-then-b-lt48 c =
    elim c.then-b-lt48.branch [
      | then-b-lt48-via-then-b-lt48 w ↦
          bad_digit _ (c.loop-b.invariant.2 ∙ digits_low _ _ c.loop-b-test.true w.if-b-lt48.true)
      | then-b-lt48-via-else-b-lt48+then-b-gt57 w ↦
          bad_digit _ (c.loop-b.invariant.2 ∙ digits_high _ _ c.loop-b-test.true w.if-b-gt57.true)
    ]

pub overflow_mul-v : goal.overflow_mul-v
overflow_mul-v c =
    omega (arith, below_small c.loop-b.b-index c.loop-b.v (omega arith) (omega arith))

pub overflow_add-v : goal.overflow_add-v
overflow_add-v c =
    omega (arith, below_small c.loop-b.b-index c.loop-b.v (omega arith) (omega arith), c.from.ensures)

pub loop-b-preserved : goal.loop-b-preserved
loop-b-preserved c =
    let s = c.args.s.now in
    let i = c.loop-b.b-index in
    let inside = c.loop-b-test.true in (
      below_on i c.loop-b.v _ c.loop-b.invariant.0 (omega arith),
      c.loop-b.invariant.1,
      c.loop-b.invariant.2 ∙ digits_on s i inside (omega arith) (omega arith),
      c.loop-b.invariant.3 ∙ worth_on s i c.loop-b.v inside ∙ ap (λ (k : ℕ). worth (c.loop-b.v * 10 + k) (drop (i + 1) s))
          (sym c.from.ensures),
    )

pub returns : goal.returns
returns c =
    let s = c.args.s.now in
    let end : c.loop-b.b-index ≡ length s = omega arith in
    good s c.loop-b.v (omega arith) (omega arith) c.loop-b.invariant.1 (c.loop-b.invariant.2 ∙ digits_done s _ end)
    (c.loop-b.invariant.3 ∙ worth_done s _ _ end)
