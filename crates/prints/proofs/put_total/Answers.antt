-- `prints::put_total` meets its contract: it is a line of numbers.
use mathlib.Core.List.{[], ◌∷◌}
use native.Mathlib.Omega.{arith}
use borrow.Author.Rules.{rules}
use Rattle.rules.specs.Report.{space_byte}
use Rattle.puts.specs.Fields.{word_of}
use Rattle.prints.specs.Lines.{total_text}
use Rattle.prints.proofs.Lines.{line_within, line_printed}
use Rattle.prints.proofs.put_total.Goals as goal

pub put_line-requires : goal.put_line-requires
put_line-requires c = search (rules, line_within)

pub returns : goal.returns
unfolding total_text word_of
returns c =
    let t = c.args.totals in
    line_printed space_byte 7 (c.args.releases ∷ t.met ∷ t.missed ∷ t.«open» ∷ []) (omega arith) c.put_line.ensures
