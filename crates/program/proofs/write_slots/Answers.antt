-- The case is accepted, so it has free counts; a piece more is written of its log, and at the end the log is whole.
use Rattle.std.proofs.Common.{◌≡◌, [], ◌++◌, take, rules, refl, ap, ◌∙◌, arith, subst}
use Rattle.std.proofs.KnownBytes.{Appends-nil, Appends-trans, Appends-kept}
use Rattle.std.specs.Io.KnownBytes.{Appends}
use Rattle.rules.specs.Case.{Case}
use Rattle.legal.specs.Legal.{accepted_procs, accepted_table}
use Rattle.ownlog.specs.Whole.{told_none, told_more, told_all}
use Rattle.program.proofs.Fronts.{on_ok}
use Rattle.program.proofs.write_slots.Goals as goal

pub free_counts-free-requires : goal.free_counts-free-requires
free_counts-free-requires g c =
    let ok = rw (← c.case.view_is) at c.accepted.invariant in
    (accepted_table _ ok, accepted_procs _ ok)

pub loop-play-init : goal.loop-play-init
loop-play-init g c = record {
  long = refl;
  plays = c.start-play.ensures.0 _;
  text = [];
  told = rw c.start-play.ensures.1 (told_none _);
  wrote = Appends-nil _;
}

pub loop-play-preserved : goal.loop-play-preserved
loop-play-preserved g c =
    let v = c.loop-play.invariant in
    let w = c.put_slots-n.ensures in
    record {
      long = search rules;
      plays = w.plays;
      text = v.text ++ take c.put_slots-n.result c.put_slots-n.new.out;
      told = told_more c.args.accepted.now _ _ _ _ _ w v.text v.told;
      wrote = Appends-trans _ _ _ _ _ v.wrote c.in_ok-write_all.ensures.bytes;
    }

pub returns : goal.returns
returns g c =
    let v = c.loop-play.invariant in
    let ends : c.case.inside.end ≡ c.args.accepted.now.end = ap (λ (d : Case). d.end) (c.case.view_is ∙ c.accepted.view_is) in
    let over : c.loop-play.play.clock ≡ c.args.accepted.now.end = omega (arith, c.loop-play-test.false, v.plays.within, ends) in
    on_ok _ _ (subst (Appends _ _) (told_all c.args.accepted.now _ _ v.told
    over) (Appends-kept _ _ _ _ v.wrote c.flush.ensures.bytes))
