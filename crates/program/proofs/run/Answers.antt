-- What is answered and written are those of the text that came, which is the front of the input.
use Rattle.std.proofs.Common.{ℕ, rules, subst}
use Rattle.std.proofs.lemmas.Result.{IfOk-at_ok}
use lib.ListN.{length-replicate}
use Rattle.std.specs.Io.KnownBytes.{Appends}
use Rattle.program.proofs.Fronts.{laid_text, ok_before, said_of_front}
use Rattle.program.proofs.run.Goals as goal

pub returns : goal.returns
returns g c =
    let came = IfOk-at_ok _ (ok_before _ _ _ _ c.in_ok-n.ensures.variant c.in_ok-n.ensures.cases) c.read_text.ensures.whole in
    let wrote = IfOk-at_ok _
    (ok_before _ _ _ _ c.in_ok-map_err.ensures.variant c.in_ok-map_err.ensures.cases) c.write_out.ensures in
    said_of_front _ _ _ 60001 _ _ (g.O.Write.contents c.args.to.now.out) (g.O.Write.contents c.write_out.new.out)
    came
    (length-replicate {A = ℕ} 60001 0)
    (c.finish.ensures _ c.fault_of-found.ensures)
    (subst (Appends _ _) (laid_text _ _ _ _ c.answer-length.ensures.laid (search rules)) wrote)
