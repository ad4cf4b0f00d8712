-- `words::same_bytes` meets its contract: `==` compares as `same` does, head by head.
use Rattle.std.proofs.Common.{rules}
use Rattle.std.proofs.lemmas.Bool.Decides.{Decides-eqb, same_from_decides}
use Rattle.std.proofs.lemmas.Slice.Eq.{slice_eq-Decides, compares_Decides}
use Rattle.rules.specs.Text.{same}
use Rattle.words.proofs.same_bytes.Goals as goal

pub returns : goal.returns
unfolding same
returns c =
    let a = c.args.a.now in
    let b = c.args.b.now in
    same_from_decides _ (same a b) (slice_eq-Decides Decides-eqb _ _ _ c.eq.ensures) (compares_Decides same (search rules) a b)
