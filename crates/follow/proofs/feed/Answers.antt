-- `follow::feed` meets its contract: a turn feeds one line more.
use mathlib.Core.Path.{◌≡◌, sym, ◌∙◌}
use mathlib.Core.Bool.{true, false, ◌&&◌, ◌||◌, not}
use mathlib.Core.List.{List}
use Prim.Native.Nat.{ℕ, ◌+◌, ◌≤◌, ◌<◌}
use native.Mathlib.Omega.{arith}
use lib.Dec.{eqb, ltb}
use lib.ListN.{length, get_or}
use borrow.Author.Tests.{ltb-true}
use Rattle.rules.specs.Text.{newline_byte}
use Rattle.rules.specs.Case.{Case}
use Rattle.rules.specs.Replay.{setup_in}
use Rattle.rules.specs.Refusals.{Accepted}
use Rattle.lists.specs.Lists.{members}
use Rattle.lists.specs.Tests.{and_right}
use Rattle.traces.specs.Traces.{due}
use Rattle.heard.specs.Scans.{scan_as}
use Rattle.follow.specs.Follows.{log_of, Closed}
use Rattle.follow.proofs.Following.{Opened, opens_calm, worked_none, opened_whole, closed_none, closed_slot, none_left, asks, step_line}
use Rattle.follow.proofs.Following.{Feeding, feeding_none, feeding_line, feeding_more, feeding_all, feeding_stopped, feeding_some}
use Rattle.follow.proofs.Following.{newline_there}
use Rattle.follow.proofs.feed.Goals as goal
use Rattle.follow.proofs.feed.Goals.{then-has_slot+then-is_worked, then-has_slot+else-is_worked, else-has_slot}
use Rattle.follow.proofs.feed.Goals.{then-must_open, else-must_open}
use Rattle.follow.proofs.feed.Goals.{then-loop-i-test+else-number-eq0, else-loop-i-test}
use Rattle.follow.proofs.feed.Goals.{then-loop-i-test+then-number-eq0+then-i-piece}

pub loop-i-init : goal.loop-i-init
loop-i-init c = record { fed = feeding_none _ c.args.piece.now _; some = c.requires.followed }

pub overflow_add-i : goal.overflow_add-i
overflow_add-i c =
    let h = c.scan_line-scan in
    let there : h.new.at ≤ length c.args.piece.now = (newline_there _ _ _ _ _ _ (omega arith) h.ensures).0 in
    omega arith

pub loop-i-preserved : goal.loop-i-preserved
loop-i-preserved c =
    let k : Case = c.args.accepted.now in
    let p : List ℕ = c.args.piece.now in
    let l = c.loop-i in
    let h = c.scan_line-scan in
    let none = c.if-number-eq0.true in
    -- how far the piece is fed: up to a newline, since it goes on there
    let fed : Feeding k p c.args.log h.new.at (log_of l.s.run h.new.named h.result l.lines l.next l.jobs l.calm l.number) =
    feeding_line k p _ l.i _ _ _ _ _ _ _ _ _ _ _ none l.invariant.fed h.ensures in
    let there : (h.new.at ≤ length p) × (h.new.at < length p → get_or p h.new.at 0 ≡ newline_byte) =
    newline_there p _ _ _ _ _ (omega arith) h.ensures in
    let on : h.new.at < length p = omega (arith, there.0, c.if-i-piece.false) in
    let e = c.line_end-ended in
    let known = asks _ _ _ _ _ _ _ _ _ none l.invariant.some in
    -- the slot of a line stands before the end, and one that need not be opened is open as it stands
    let early = λ (slot : (eqb c.has_slot.new.number 0 && ltb l.lines k.end) ≡ true).
    ltb-true l.lines k.end (and_right (eqb c.has_slot.new.number 0) _ slot) in
    let as_it_stands = λ (m : l.lines < k.end) (ok : Accepted k) (asked : (not l.calm || due k.trace l.next l.lines) ≡ false).
    opens_calm k ok _ _ _ _ l.calm (known.2 m).0 (known.2 m).1 (known.2 m).2 asked in
    let z = c.if-has_slot in
    -- the end of the line, with a slot that works, with one that does not, and with none
    let closed : Closed k l.lines (scan_as h.result h.new.named) l.s.run z.s.run z.s.named z.next z.jobs z.calm z.number =
    elim z.branch [
      | then-has_slot+then-is_worked w ↦
          let slot = sym c.has_slot.ensures.1 ∙ w.if-has_slot.true in
          let j = w.if-must_open in
          let o : Opened k l.lines (scan_as h.result h.new.named) e.result l.s.run j.s.run j.s.named j.next j.jobs =
          elim j.branch [
            | then-must_open x ↦ rw (x.s-is, x.next-is, x.jobs-is) (x.open_at.ensures, e.ensures)
            | else-must_open x ↦
                let asked = sym w.must_open.ensures.asked ∙ x.if-must_open.false in
                rw (x.s-is, x.next-is, x.jobs-is) (as_it_stands (early slot) w.must_open.ensures.accepted asked, e.ensures)
          ] in
          rw (w.s-is, w.next-is, w.jobs-is, w.calm-is, w.number-is)
          (closed_slot k l.lines _ e.result j.s.named l.s.run o.1.0 o.1.1 _ (c.has_slot.ensures.0 _) slot _ _ _ _ _ _ _
          (known.2 (early slot)).0 o.0 (w.slot_number-number.ensures _) (λ n. w.work_at.ensures))
      | then-has_slot+else-is_worked w ↦
          let slot = sym c.has_slot.ensures.1 ∙ w.if-has_slot.true in
          let j = w.if-must_open in
          let o : Opened k l.lines (scan_as h.result h.new.named) e.result l.s.run j.s.run j.s.named j.next j.jobs =
          elim j.branch [
            | then-must_open x ↦ rw (x.s-is, x.next-is, x.jobs-is) (x.open_at.ensures, e.ensures)
            | else-must_open x ↦
                let asked = sym w.must_open.ensures.asked ∙ x.if-must_open.false in
                rw (x.s-is, x.next-is, x.jobs-is) (as_it_stands (early slot) w.must_open.ensures.accepted asked, e.ensures)
          ] in
          let whole = (known.2 (early slot)).0 in
          rw (w.s-is, w.next-is, w.jobs-is, w.calm-is, w.number-is)
          (closed_slot k l.lines _ e.result j.s.named l.s.run o.1.0 o.1.1 _ (c.has_slot.ensures.0 _) slot _ _ _ _ _ _ _
          whole o.0 (w.slot_number-number.ensures _)
          (λ n. worked_none (setup_in k) l.lines j.s.run j.jobs l.calm (members j.s.named)
          (opened_whole k l.lines l.s.run j.s.run j.next j.jobs whole o.0) o.0.counted
          (none_left w.slot_number-number.result j.jobs n (sym w.is_worked.ensures ∙ w.if-is_worked.false))))
      | else-has_slot w ↦
          rw (w.s-is, w.next-is, w.jobs-is, w.calm-is, w.number-is)
          (closed_none k l.lines _ e.result e.new.named l.s.run e.ensures.0 e.ensures.1 _ _ _ _ _
          (c.has_slot.ensures.0 _) (sym c.has_slot.ensures.1 ∙ w.if-has_slot.false))
    ] in
    let more : Feeding k p c.args.log (h.new.at + 1)
    (log_of z.s.run z.s.named c.next_scan-scan.result c.next_line-lines.result z.next z.jobs z.calm z.number) =
    feeding_more k p _ _ _ _ on fed
    (step_line k _ _ _ _ _ _ _ _ none _ _ _ _ _ _ _ (there.1 on) closed _ _ c.next_scan-scan.ensures c.next_line-lines.ensures) in
    record { fed = more; some = feeding_some k p _ _ _ more c.requires.followed }

pub returns : goal.returns
returns c =
    let k : Case = c.args.accepted.now in
    let p : List ℕ = c.args.piece.now in
    let l = c.loop-i in
    let fed = l.invariant.fed in
    λ f v. elim c.loop-i-test.branch [
      | then-loop-i-test+else-number-eq0 w ↦ rw (w.s-is, w.scan-is) (feeding_stopped k p _ _ l.i w.if-number-eq0.false fed f v)
      | else-loop-i-test w ↦ rw (w.s-is, w.scan-is) (feeding_all k p _ _ l.i w.loop-i-test.false fed f v)
      | then-loop-i-test+then-number-eq0+then-i-piece w ↦
          let h = w.scan_line-scan in
          rw (w.s-is, w.scan-is)
          (feeding_all k p _ (log_of l.s.run h.new.named h.result l.lines l.next l.jobs l.calm l.number) h.new.at
          (omega (arith, w.if-i-piece.true))
          (feeding_line k p _ l.i _ _ _ _ _ _ _ _ _ _ _ w.if-number-eq0.true fed h.ensures) f v)
    ]
