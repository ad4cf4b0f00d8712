-- `faults::in_order_lem` meets its contract.
use mathlib.Core.Path.{◌∙◌}
use Rattle.faults.proofs.Orders.{order_first, order_next}
use Rattle.faults.proofs.in_order.Goals as goal

pub returns-then-j-eq0 : goal.returns-then-j-eq0
returns-then-j-eq0 c = order_first _ _ c.if-j-eq0.true

pub returns : goal.returns
returns c =
    let time-of = c.time_of-t0 in
    let name_of = c.name_of-n0 in
    let if1 = c.if-j-eq0 in
    rw (
      time-of.ensures,
      name_of.ensures,
      c.time_of-t.ensures,
      c.name_of-n.ensures,
    ) at c.later_than.ensures ∙
    order_next _ _ if1.false
