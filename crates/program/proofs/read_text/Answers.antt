-- A read takes from the input what it puts behind what came before.
use Rattle.std.proofs.Common.{rules, sym, subst}
use Rattle.std.proofs.KnownBytes.{Consumes-trans}
use Rattle.std.specs.Io.KnownBytes.{Consumes}
use Rattle.program.proofs.Fronts.{read_front}
use Rattle.program.proofs.read_text.Goals as goal

pub loop-n-preserved : goal.loop-n-preserved
loop-n-preserved g c =
    let v = c.loop-n.invariant in
    record {
      long = search rules;
      within = search rules;
      came = subst (Consumes _ _) (sym (read_front _ _ _ _ _ v.within c.in_ok-more.ensures.bound.0))
          (Consumes-trans _ _ _ _ _ v.came c.in_ok-more.ensures.bytes.0);
    }
