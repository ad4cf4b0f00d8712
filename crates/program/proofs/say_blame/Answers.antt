-- What is said of a slot fits its room, whatever the table.
use Rattle.std.proofs.Common.{◌≤◌, length, [], arith, sym}
use lib.Seq.{length-take-le}
use Rattle.puts.proofs.Puts.{laid_length}
use Rattle.program.proofs.say_blame.Goals as goal

pub slice_bounds-words-end : goal.slice_bounds-words-end
slice_bounds-words-end g c = omega (arith, (c.put_blame-n.ensures []).short, laid_length (c.put_blame-n.ensures []).laid)

pub slice_bounds-say-end : goal.slice_bounds-say-end
slice_bounds-say-end g c =
    let fits : c.put_blame-n.result ≤ length c.put_blame-n.new.out =
    omega (arith, (c.put_blame-n.ensures []).short, laid_length (c.put_blame-n.ensures []).laid) in
    sym (length-take-le _ _ fits)
