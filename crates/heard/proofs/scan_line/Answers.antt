-- `heard::scan_line` meets its contract.
use mathlib.Core.Path.{◌≡◌}
use Prim.Native.Nat.{ℕ, ◌+◌, ◌<◌}
use mathlib.Core.List.{List}
use lib.ListN.{length, get_or}
use Rattle.rules.specs.Text.{newline_byte}
use Rattle.feeds.specs.LineScan.{LineScan, scan_byte}
use Rattle.heard.specs.Lines.{Goes}
use Rattle.heard.proofs.Scanning.{small_number}
use Rattle.heard.proofs.Going.{goes_both, goes_byte, goes_all, past_piece, at_newline}
use Rattle.heard.proofs.scan_line.Goals as goal

-- a byte more, which is no newline
further : {bytes : List ℕ} {from i : ℕ} {x y z : LineScan} → Goes bytes from x i y → i < length bytes
    → (get_or bytes i 0 ≡ newline_byte → ⊥) → z ≡ scan_byte y (get_or bytes i 0) → Goes bytes from x (i + 1) z
further {bytes} {from} {i} {x} {y} g l h e = rw e (goes_both g (goes_byte bytes i y l h))

pub scan_number-requires-clause-number_small : goal.scan_number-requires-clause-number_small
scan_number-requires-clause-number_small c =
    let r = c.scan_byte-scan.result in
    let g = further c.loop-i.invariant.1 c.loop-i-test.true c.if-piece-i-ne-NEWLINE.true c.scan_byte-scan.ensures.1 in
    λ of. small_number r.phase r.digits r.value r.time r.low r.rises r.names _ of (g.small c.requires.line_small)

pub loop-i-preserved : goal.loop-i-preserved
loop-i-preserved c = (
  c.scan_byte-scan.ensures.0,
  goes_both (further c.loop-i.invariant.1 c.loop-i-test.true c.if-piece-i-ne-NEWLINE.true c.scan_byte-scan.ensures.1)
      (c.scan_number.ensures c.scan_byte-scan.new.named),
)

pub returns-else-piece-i-ne-NEWLINE : goal.returns-else-piece-i-ne-NEWLINE
returns-else-piece-i-ne-NEWLINE c =
    let l = c.loop-i in
    goes_all l.named l.invariant.0 l.invariant.1 (at_newline _ l.i c.loop-i-test.true c.if-piece-i-ne-NEWLINE.false)

pub returns-after-loop-i : goal.returns-after-loop-i
returns-after-loop-i c =
    let l = c.loop-i in
    goes_all l.named l.invariant.0 l.invariant.1 (past_piece _ l.i c.loop-i-test.false)
