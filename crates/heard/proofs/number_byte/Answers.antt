-- `heard::number_byte` meets its contract.
use mathlib.Core.Path.{sym, ◌∙◌}
use Rattle.heard.proofs.Scanning.{fits_digit, small_worth, digit_more, number_wrong}
use Rattle.heard.proofs.number_byte.Goals as goal

pub with_digit-requires : goal.with_digit-requires
with_digit-requires c =
    let s = c.args.s in
    let d = fits_digit s.digits s.value c.args.b (sym c.fits.ensures ∙ c.if-fits.true) in
    record { value_bound = small_worth s.digits s.value c.requires.in_number.small d.1; le_b = d.0 }

pub returns-then-fits : goal.returns-then-fits
returns-then-fits c =
    let s = c.args.s in (
      c.requires.named_len,
      rw c.with_digit.ensures (digit_more s.phase s.digits s.value s.time s.low s.rises s.names _ c.args.b
          c.requires.in_number.of (sym c.fits.ensures ∙ c.if-fits.true)),
    )

pub returns : goal.returns
returns c =
    let s = c.args.s in (
      c.requires.named_len,
      c.lost.ensures _ ∙ number_wrong s.phase s.digits s.value s.time s.low s.rises s.names _ c.args.b
          c.requires.in_number.of (sym c.fits.ensures ∙ c.if-fits.false) c.if-b-eq9.false,
    )
