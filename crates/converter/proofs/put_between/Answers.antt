-- `converter::put_between` meets its contract: the first bytes, behind them the line, behind that the others.
use mathlib.Core.Path.{subst}
use native.Mathlib.Omega.{arith}
use lib.Seq.{length-take-le}
use Rattle.puts.specs.Laid.{Laid}
use Rattle.puts.proofs.Puts.{laid_then, part_length}
use Rattle.conversion.specs.Conversion.{line_long}
use Rattle.converter.proofs.Converting.{between}
use Rattle.converter.proofs.put_between.Goals as goal

pub put_bytes-third-requires : goal.put_bytes-third-requires
put_bytes-third-requires c =
    let first = c.put_bytes-second in
    omega (
      arith,
      first.auto.out,
      first.ensures.behind,
      length-take-le c.args.at c.args.text.now c.requires.at_in_bounds,
      c.requires.at_in_bounds,
      c.requires.edf_in_bounds,
      line_long,
    )

pub put_bytes-requires : goal.put_bytes-requires
put_bytes-requires c =
    omega (
      arith,
      c.put_bytes-second.auto.out,
      c.put_bytes-second.ensures.behind,
      length-take-le c.args.at c.args.text.now c.requires.at_in_bounds,
      c.put_bytes-third.auto.out,
      c.put_bytes-third.ensures.behind,
      part_length c.args.at c.args.text.now,
      c.requires.at_in_bounds,
      c.requires.edf_in_bounds,
      line_long,
    )

pub returns : goal.returns
returns c =
    subst (λ t. Laid 0 t c.args.out.now c.put_bytes.new.out c.put_bytes.result)
    (between c.args.text.now c.args.at c.requires.at_in_bounds)
    (laid_then c.put_bytes-second.ensures (laid_then c.put_bytes-third.ensures c.put_bytes.ensures))
