-- `heard::scan_digits` meets its contract.
use mathlib.Core.Path.{sym, ◌∙◌}
use Rattle.lists.specs.Lists.{members}
use Rattle.heard.proofs.Scanning.{fits_digit, small_worth}
use Rattle.heard.proofs.Going.{goes_both, goes_digit, small_digit}
use Rattle.heard.proofs.scan_digits.Goals as goal

pub with_digit-value-requires : goal.with_digit-value-requires
with_digit-value-requires c =
    let l = c.loop-i in
    let d = fits_digit l.digits l.value _ (sym c.fits.ensures ∙ c.if-fits.true) in
    record { value_bound = small_worth l.digits l.value l.invariant.0 d.1; le_b = d.0 }

pub loop-i-preserved : goal.loop-i-preserved
loop-i-preserved c =
    let s = c.args.s in
    let l = c.loop-i in
    let fit = sym c.fits.ensures ∙ c.if-fits.true in
    rw c.with_digit-value.ensures (
      small_digit l.digits l.value _ fit l.invariant.0,
      λ xs. goes_both (l.invariant.1 xs) (goes_digit c.args.piece.now l.i s.phase l.digits l.value s.time
          s.low s.rises s.names (members xs) c.requires.in_number.of c.loop-i-test.true fit),
    )
