-- `puts::put_number` meets its contract: storing the digits that are left gives the digits of v stored.
use mathlib.Core.Path.{◌≡◌, ap, ◌∙◌}
use native.Mathlib.Omega.{arith}
use Prim.Native.Nat.{ℕ, suc, ◌+◌, ◌-◌}
use lib.Seq.{sets}
use Rattle.puts.proofs.Digits.{last_digits, last_digits-all}
use Rattle.puts.proofs.Puts.{store_digit}
use Rattle.puts.proofs.put_number.Goals as goal

pub loop-i-init : goal.loop-i-init
loop-i-init c =
    (omega arith, ap (sets c.args.out.now c.args.at) (last_digits-all _ c.args.v c.ranges.v.fits (omega arith)))

pub loop-i-preserved : goal.loop-i-preserved
loop-i-preserved c =
    let l = c.loop-i in
    let at = c.args.at in
    let one_less : suc (l.i - 1 - at) ≡ l.i - at = omega arith in
    (omega arith, store_digit l.out at _ l.w _ _ (omega arith) c.digit.ensures ∙ rw one_less l.invariant.1)

pub returns : goal.returns
unfolding last_digits
returns c =
    let l = c.loop-i in
    let none : l.i - c.args.at ≡ 0 = omega arith in
    record { behind = ap (λ (k : ℕ). c.args.at + k) c.width.ensures; bytes = rw none at l.invariant.1 }
