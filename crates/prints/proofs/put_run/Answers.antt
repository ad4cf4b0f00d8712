-- `prints::put_run` meets its contract: the word, the policy, the numbers and the newline, one behind the other.
use mathlib.Core.List.{[], ◌∷◌, map}
use native.Mathlib.Omega.{arith}
use Rattle.rules.specs.Text.{newline_byte, digits_of}
use Rattle.rules.specs.Writer.{line_text, more_fields}
use Rattle.rules.specs.Report.{space_byte}
use Rattle.puts.specs.Fields.{word_of}
use Rattle.puts.proofs.Puts.{laid_byte, laid_then}
use Rattle.puts.proofs.Chosen.{word_short}
use Rattle.puts.proofs.Lines.{fields_then, numbers_room}
use Rattle.texts.specs.PolicyNames.{name_short}
use Rattle.prints.specs.Lines.{run_text}
use Rattle.prints.proofs.put_run.Goals as goal

pub put_word-at-requires : goal.put_word-at-requires
put_word-at-requires c = omega (arith, word_short)

pub put_policy-numbers_at-requires : goal.put_policy-numbers_at-requires
put_policy-numbers_at-requires c = omega (arith, word_short, name_short)

pub put_numbers-last-requires : goal.put_numbers-last-requires
put_numbers-last-requires c = omega (arith, word_short, name_short, numbers_room)

pub bounds-out-last : goal.bounds-out-last
bounds-out-last c = omega (arith, word_short, name_short, numbers_room)

pub overflow_add-result : goal.overflow_add-result
overflow_add-result c = omega (arith, word_short, name_short, numbers_room)

pub returns : goal.returns
unfolding line_text more_fields run_text word_of
returns c =
    let a = c.args in
    let policy = c.put_policy-numbers_at.ensures in
    let numbers = map digits_of (a.procs ∷ a.tasks ∷ a.end ∷ []) in
    record {
      laid = rw (← fields_then space_byte numbers [])
          (laid_then c.put_word-at.ensures
          (laid_then policy (laid_then c.put_numbers-last.ensures (laid_byte _ newline_byte _))));
      short = omega (arith, name_short, numbers_room);
    }
