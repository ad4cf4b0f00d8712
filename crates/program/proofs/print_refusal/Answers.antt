-- What is written is the line that was laid.
use Rattle.std.proofs.Common.{rules, List, ℕ, OnOk, subst}
use Rattle.std.specs.Io.KnownBytes.{Appends}
use Rattle.program.proofs.Fronts.{laid_text}
use Rattle.program.proofs.print_refusal.Goals as goal

pub returns : goal.returns
returns g c =
    subst (λ (x : List ℕ). OnOk c.write_out.result (Appends (g.O.Write.contents c.args.out.now) (g.O.Write.contents c.write_out.new.out) x))
    (laid_text _ _ _ _ c.put_refused-n.ensures.laid (search rules)) c.write_out.ensures
