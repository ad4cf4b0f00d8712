-- `prints::put_job` meets its contract: the word, the numbers, what the record says and the newline, one behind the other.
use native.Mathlib.Omega.{arith}
use Rattle.rules.specs.Replay.{record_of}
use Rattle.rules.specs.Text.{newline_byte}
use Rattle.puts.specs.Fields.{word_of}
use Rattle.puts.proofs.Puts.{laid_byte, laid_then}
use Rattle.puts.proofs.Lines.{numbers_room}
use Rattle.prints.proofs.Lines.{outcome_room_lem, job_is}
use Rattle.prints.proofs.put_job.Goals as goal

pub put_word-at-requires : goal.put_word-at-requires
unfolding word_of
put_word-at-requires c = omega arith

pub put_numbers-verdict_at-requires : goal.put_numbers-verdict_at-requires
unfolding word_of
put_numbers-verdict_at-requires c = omega (arith, numbers_room)

pub put_outcome-line_end-requires : goal.put_outcome-line_end-requires
unfolding word_of
put_outcome-line_end-requires c = omega (arith, numbers_room)

pub bounds-out-line_end : goal.bounds-out-line_end
unfolding word_of
bounds-out-line_end c = omega (arith, numbers_room, outcome_room_lem)

pub overflow_add-result : goal.overflow_add-result
unfolding word_of
overflow_add-result c = omega (arith, numbers_room, outcome_room_lem)

pub returns : goal.returns
unfolding word_of
returns c =
    let a = c.args in
    let r = record_of a.verdict a.finish a.demotion in
    let outcome = c.put_outcome-line_end.ensures in
    record {
      laid = rw (job_is a.time a.task a.due r)
          (laid_then c.put_word-at.ensures
          (laid_then c.put_numbers-verdict_at.ensures (laid_then outcome (laid_byte _ newline_byte _))));
      short = omega (arith, numbers_room, outcome_room_lem);
    }
