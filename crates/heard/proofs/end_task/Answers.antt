-- `heard::end_task` meets its contract.
use Rattle.std.proofs.Common.{◌≡◌, ◌&&◌, rules, sym, ap, leb}
use Rattle.lists.specs.Lists.{members}
use Rattle.feeds.specs.LineScan.{heard_task}
use Rattle.heard.proofs.Scanning.{num_none, task_heard}
use Rattle.heard.proofs.end_task.Goals as goal
use Rattle.heard.proofs.end_task.Goals.{then-s, else-s}

pub returns-then-s-eq0 : goal.returns-then-s-eq0
returns-then-s-eq0 c =
    let s = c.args.s in (
      c.requires,
      ap (heard_task s.time s.low s.rises s.names (members c.args.named.now))
          (sym (num_none s.digits s.value c.if-s-eq0.true)),
    )

pub returns-then-s-2 : goal.returns-then-s-2
returns-then-s-2 c =
    let s = c.args.s in
    let rises : c.if-s.result ≡ (s.rises && leb s.low s.value) = elim c.if-s.branch [ then-s w ↦ search rules | else-s w ↦ search rules ] in
    (c.name_task.ensures.0, task_heard _ _ _ _ _ _ _ c.if-s-eq0.false rises (search rules) c.name_task.ensures.1)

pub returns-else-s-2 : goal.returns-else-s-2
returns-else-s-2 c =
    let s = c.args.s in
    let rises : c.if-s.result ≡ (s.rises && leb s.low s.value) = elim c.if-s.branch [ then-s w ↦ search rules | else-s w ↦ search rules ] in
    (c.name_task.ensures.0, task_heard _ _ _ _ _ _ _ c.if-s-eq0.false rises (search rules) c.name_task.ensures.1)
