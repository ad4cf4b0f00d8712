-- `lowest::release_fault` meets its contract.
use Rattle.std.proofs.Common.{arith, sym, ◌∙◌, ◌-◌}
use Rattle.rules.specs.Case.{name_of}
use Rattle.lowest.proofs.Walk.{holds_ok, named_task, last_test}
use Rattle.lowest.proofs.release_fault.Goals as goal

pub is_apart-requires : goal.is_apart-requires
is_apart-requires c =
    let passed = sym c.refuse_unless.ensures ∙ c.in_ok-refuse_unless.was in
    let n = named_task _ _ _ _ _ _ _ c.name_of-name.ensures c.is_named.ensures passed c.requires.3 c.requires.0.few in
    let small = (c.requires.0.good (name_of c.args.trace.now c.args.j - 1) (omega (arith, n.some, n.within))).small in
    (rw n.kept (c.requires.4 _), rw (c.period_of-period.ensures, c.name_of-name.ensures) small)

pub returns : goal.returns
returns c =
    let passed = sym c.refuse_unless.ensures ∙ c.in_ok-refuse_unless.was in
    let n = named_task _ _ _ _ _ _ _ c.name_of-name.ensures c.is_named.ensures passed c.requires.3 c.requires.0.few in
    let soon = rw c.time_of-time.ensures at (holds_ok _ _ (sym c.refuse_unless-2.ensures ∙ c.in_ok-refuse_unless-2.was)) in
    let ordered = sym c.in_order.ensures ∙ holds_ok _ _ (sym c.refuse_unless-3.ensures ∙ c.in_ok-refuse_unless-3.was) in
    let far = rw (n.kept, c.period_of-period.ensures, c.name_of-name.ensures, c.time_of-time.ensures) at c.is_apart.ensures in
    c.refuse_unless-4.ensures ∙ last_test _ _ _ _ _ n.known soon ordered far
