-- `puts::put_line` meets its contract: the word, behind it the numbers, behind them the newline.
use mathlib.Core.List.{map}
use native.Mathlib.Omega.{arith}
use Rattle.rules.specs.Text.{digits_of}
use Rattle.puts.specs.Fields.{word_of}
use Rattle.puts.proofs.Puts.{laid_byte, laid_then}
use Rattle.puts.proofs.Lines.{line_end_lem, line_length}
use Rattle.puts.proofs.put_line.Goals as goal

-- the word, the fields and the newline have room
pub put_word-at-requires : goal.put_word-at-requires
put_word-at-requires c = omega (arith, line_length)

pub put_numbers-end-requires : goal.put_numbers-end-requires
put_numbers-end-requires c = omega (arith, line_length)

pub bounds-out-end : goal.bounds-out-end
bounds-out-end c = omega (arith, line_length)

pub overflow_add-result : goal.overflow_add-result
overflow_add-result c = omega (arith, line_length)

pub returns : goal.returns
returns c =
    let a = c.args in
    rw (← line_end_lem a.between (word_of a.word) (map digits_of a.vs.now))
    (laid_then c.put_word-at.ensures (laid_then c.put_numbers-end.ensures (laid_byte _ 10 _)))
