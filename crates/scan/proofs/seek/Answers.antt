-- `scan::seek` meets its contract: what is still to be searched is what stands from i on.
use Prim.Native.Nat.{ℕ, ◌+◌}
use mathlib.Core.Path.{◌≡◌, ap}
use native.Mathlib.Omega.{arith}
use lib.ListN.{length, drop}
use Rattle.rules.specs.Text.{up_to}
use Rattle.scan.proofs.Parts.{here, not_here, nothing_left}
use Rattle.scan.proofs.seek.Goals as goal
use Rattle.scan.proofs.seek.Goals.{else-i-s-via-then-i-s+else-s-i-3, else-i-s-via-else-i-s}

pub returns-then-s-i : goal.returns-then-s-i
returns-then-s-i c =
    let s = c.args.s.now in
    let b = c.args.b in
    let i = c.loop-i.i in
    omega (arith, here s i b (omega arith) c.if-s-i.true)

pub returns-then-s-i-2 : goal.returns-then-s-i-2
returns-then-s-i-2 c =
    let s = c.args.s.now in
    let b = c.args.b in
    let i = c.loop-i.i in
    omega (arith, not_here s i b (omega arith) c.if-s-i.false, here s (i + 1) b (omega arith) c.if-s-i-2.true)

pub loop-i-preserved : goal.loop-i-preserved
loop-i-preserved c =
    let s = c.args.s.now in
    let b = c.args.b in
    let i = c.loop-i.i in
    let e : i + 1 + 1 ≡ i + 2 = omega arith in
    let n = ap (λ (k : ℕ). length (up_to b (drop k s))) e in (
      omega arith,
      omega (
        arith,
        not_here s i b (omega arith) c.if-s-i.false,
        not_here s (i + 1) b (omega arith) c.if-s-i-2.false,
        n,
      ),
    )

pub returns-then-s-i-3 : goal.returns-then-s-i-3
returns-then-s-i-3 c =
    let s = c.args.s.now in
    let b = c.args.b in
    let i = c.loop-i.i in
    omega (arith, not_here s i b (omega arith) c.if-s-i-3.true, nothing_left s (i + 1) b (omega arith))

pub returns : goal.returns
returns c =
    let s = c.args.s.now in
    let b = c.args.b in
    let i = c.loop-i.i in
    elim c.else-i-s.branch [
      | else-i-s-via-then-i-s+else-s-i-3 w ↦ omega (arith, here s i b (omega arith) w.if-s-i-3.false)
      | else-i-s-via-else-i-s w ↦ omega (arith, nothing_left s i b (omega arith))
    ]
