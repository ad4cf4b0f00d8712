-- `prints::put_refused` meets its contract: it is a line of numbers.
use mathlib.Core.List.{[], ◌∷◌}
use native.Mathlib.Omega.{arith}
use borrow.Author.Rules.{rules}
use Rattle.rules.specs.Report.{space_byte, refused_line}
use Rattle.puts.specs.Fields.{word_of}
use Rattle.prints.proofs.Lines.{line_within, line_printed}
use Rattle.prints.proofs.put_refused.Goals as goal

pub put_line-requires : goal.put_line-requires
put_line-requires c = search (rules, line_within)

pub returns : goal.returns
unfolding refused_line word_of
returns c =
    let f = c.args.fault in
    line_printed space_byte 8 (f.number ∷ f.place ∷ []) (omega arith) c.put_line.ensures
