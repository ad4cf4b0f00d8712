-- Lines one after the other: none, one more in the part from the present end on; and one line alone.
use mathlib.Core.Path.{◌≡◌}
use mathlib.Core.List.{List, ◌++◌}
use Prim.Native.Nat.{ℕ, ◌+◌, ◌-◌, ◌*◌, ◌≤◌}
use native.Mathlib.Nat.{suc-mul}
use native.Mathlib.Numerals.{add-one}
use native.Mathlib.Omega.{arith}
use lib.ListN.{length, take, drop}
use borrow.Rule.Slice.PartMut.{put_mid}
use Rattle.rules.specs.Words.{tab}
use Rattle.rules.specs.Writer.{joined_text}
use Rattle.lists.specs.Lists.{joined-more}
use Rattle.puts.proofs.Puts.{laid_none, laid_then, laid_part}
use Rattle.prints.specs.Lines.{line_room, Printed}
use Rattle.report.specs.Cases.{lines_text, print_room, Listed}

lines-suc : (f : ℕ → List ℕ) (n : ℕ) → lines_text f (n + 1) ≡ lines_text f n ++ f n
unfolding lines_text
lines-suc f n = rw (add-one n) (joined-more f n)

pub listed_none : (f : ℕ → List ℕ) (w at : ℕ) (old : List ℕ) → Listed f w at 0 old old at
unfolding lines_text joined_text tab
listed_none f w at old = record { laid = laid_none at old; short = omega arith }

pub listed_more : (f : ℕ → List ℕ) (w at n : ℕ) (old mid ys : List ℕ) (end k : ℕ) → Listed f w at n old mid end
    → end ≤ length mid
    → Printed w (f n) (take (length mid - end) (drop end mid)) ys k
    → Listed f w at (n + 1) old (put_mid end (length mid - end) mid ys) (end + k)
listed_more f w at n old mid ys end k p h q =
    let m : (n + 1) * w ≡ n * w + w = rw (add-one n) (suc-mul n w) in
    record {
      laid = rw (lines-suc f n) (laid_then p.laid (laid_part end (f n) mid ys k h q.laid));
      short = omega (arith, p.short, q.short, m);
    }

-- one line alone
pub line_fits : {text old new : List ℕ} {n : ℕ} → Printed line_room text old new n → Printed print_room text old new n
line_fits p = record { laid = p.laid; short = omega (arith, p.short) }
