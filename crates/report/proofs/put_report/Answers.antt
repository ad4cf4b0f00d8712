-- `report::put_report` meets its contract: the run line, the job lines behind it, and the total line in the part from their end on.
use Rattle.std.proofs.Common.{◌+◌, ◌*◌, ◌≤◌, ◌≡◌, ℕ, ◌∙◌, arith, length}
use Rattle.rules.specs.Limits.{max_releases}
use Rattle.rules.specs.Case.{release_count}
use Rattle.legal.specs.Legal.{legal}
use Rattle.puts.proofs.Puts.{laid_part, part_length}
use Rattle.prints.specs.Lines.{line_room, job_room}
use Rattle.report.specs.Cases.{lines_text, job_text, print_room}
use Rattle.report.proofs.Reports.{stands, fits, jobs_are, report_laid}
use Rattle.report.proofs.put_report.Goals as goal

-- the total line has room behind the job lines of n releases, which end at `last` and begin at `from`
room_behind : (n from last k m : ℕ) → n ≤ max_releases → last ≤ from + n * job_room → from ≤ line_room → k ≡ m → print_room ≤ m
    → (last + line_room ≤ k) × (last ≤ line_room + max_releases * job_room)
room_behind n from last k m few jobs run long room = omega arith

pub replay_run-totals-requires : goal.replay_run-totals-requires
replay_run-totals-requires c = rw (← c.accepted.view_is) (omega (arith, (legal _ c.accepted.invariant).releases_few))

pub overflow_cast-tasks : goal.overflow_cast-tasks
overflow_cast-tasks c =
    let few = (legal _ (rw (← c.case.view_is) at c.accepted.invariant)).tasks_few in
    omega (arith, few, c.task_count-tasks.ensures)

pub overflow_cast-releases : goal.overflow_cast-releases
overflow_cast-releases c =
    let few = (legal _ (rw (← c.case.view_is) at c.accepted.invariant)).releases_few in
    omega (arith, few, c.release_count-releases.ensures)

pub put_jobs-last-requires : goal.put_jobs-last-requires
put_jobs-last-requires c =
    let ok = rw (← c.case.view_is) at c.accepted.invariant in
    let noted = rw (← c.accepted.view_is, ← c.case.view_is) at c.replay_run-totals.ensures.records in
    let run = c.put_run-at in
    record {
      job_room_in_bounds = omega (arith, run.ensures.short, run.auto.out, (legal _ ok).releases_few, c.requires);
      by_index = stands _ ok _ (fits _ ok _ _ noted);
    }

pub slice_bounds-put_total-count : goal.slice_bounds-put_total-count
slice_bounds-put_total-count c =
    let ok = rw (← c.case.view_is) at c.accepted.invariant in
    let run = c.put_run-at in
    let jobs = c.put_jobs-last in
    let few = (legal _ ok).releases_few in
    let room = room_behind _ _ _ _ _ few jobs.ensures.short run.ensures.short (jobs.auto.out ∙ run.auto.out) c.requires in
    omega (arith, room)

pub slice_bounds-put_total-start : goal.slice_bounds-put_total-start
slice_bounds-put_total-start c =
    let ok = rw (← c.case.view_is) at c.accepted.invariant in
    let run = c.put_run-at in
    let jobs = c.put_jobs-last in
    let few = (legal _ ok).releases_few in
    let room = room_behind _ _ _ _ _ few jobs.ensures.short run.ensures.short (jobs.auto.out ∙ run.auto.out) c.requires in
    omega (arith, room)

pub put_total-length-requires : goal.put_total-length-requires
put_total-length-requires c =
    let ok = rw (← c.case.view_is) at c.accepted.invariant in
    let run = c.put_run-at in
    let jobs = c.put_jobs-last in
    let few = (legal _ ok).releases_few in
    let room = room_behind _ _ _ _ _ few jobs.ensures.short run.ensures.short (jobs.auto.out ∙ run.auto.out) c.requires in
    omega (arith, room, part_length jobs.result jobs.new.out)

pub overflow_add-result : goal.overflow_add-result
overflow_add-result c =
    let ok = rw (← c.case.view_is) at c.accepted.invariant in
    let run = c.put_run-at in
    let jobs = c.put_jobs-last in
    let few = (legal _ ok).releases_few in
    let room = room_behind _ _ _ _ _ few jobs.ensures.short run.ensures.short (jobs.auto.out ∙ run.auto.out) c.requires in
    omega (arith, room, c.put_total-length.ensures.short)

pub returns : goal.returns
returns c =
    let ok = rw (← c.case.view_is) at c.accepted.invariant in
    let noted = rw (← c.accepted.view_is, ← c.case.view_is) at c.replay_run-totals.ensures.records in
    let totals = rw (← c.accepted.view_is, ← c.case.view_is) at c.replay_run-totals.ensures.totals in
    let run = c.put_run-at in
    let jobs = c.put_jobs-last in
    let total = c.put_total-length in
    let few = (legal _ ok).releases_few in
    let room = room_behind _ _ _ _ _ few jobs.ensures.short run.ensures.short (jobs.auto.out ∙ run.auto.out) c.requires in
    let h : jobs.result ≤ length jobs.new.out = omega (arith, room) in
    let table = c.case.inside.table.now in
    let trace = c.case.inside.trace.now in
    rw (← c.accepted.view_is, ← c.case.view_is)
    (record {
      laid = report_laid _ _ _ _ _ (lines_text (job_text table trace c.replay_run-totals.new.out) (release_count trace)) _ _ _ _ _ _
          (rw c.task_count-tasks.ensures at run.ensures.laid)
          jobs.ensures.laid
          (jobs_are _ ok _ _ noted)
          (laid_part _ _ _ _ _ h (rw c.release_count-releases.ensures at total.ensures.laid))
          totals;
      short = omega (arith, room, total.ensures.short);
    })
