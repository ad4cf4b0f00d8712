-- The report of an accepted case: its releases stand, the records in the room are those of the rules, and the lines are the report's.
use mathlib.Core.Path.{◌≡◌, sym, ap, ◌∙◌}
use mathlib.Core.List.{List, [], ◌∷◌, ◌++◌}
use Prim.Native.Nat.{ℕ, ◌+◌, ◌*◌, ◌-◌, ◌≤◌, ◌<◌}
use native.Mathlib.Omega.{arith}
use lib.ListN.{length, get_or, drop, length-append}
use Rattle.rules.specs.Words.{tab}
use Rattle.rules.specs.Limits.{record_width}
use Rattle.rules.specs.Case.{Case, task_count, release_count, time_of, name_of, deadline}
use Rattle.rules.specs.Refusals.{Accepted}
use Rattle.rules.specs.Replay.{record_by, records, numbers, met_jobs, missed_jobs, open_jobs}
use Rattle.rules.specs.Calls.{room_after}
use Rattle.rules.specs.Writer.{joined_text}
use Rattle.rules.specs.Report.{job_line, total_line, release_line, report}
use Rattle.lists.specs.Lists.{tab_long, tab_cong}
use Rattle.bridge.specs.Notes.{numbers_long, held}
use Rattle.legal.specs.Legal.{legal}
use Rattle.puts.specs.Laid.{Laid}
use Rattle.puts.proofs.Puts.{laid_then}
use Rattle.prints.specs.Lines.{run_text, total_text}
use Rattle.prints.proofs.Lines.{run_is, total_is}
use Rattle.report.specs.Cases.{lines_text, job_text, Stands}

module _ (c : Case) (ok : Accepted c) where
  -- each release of an accepted case stands
  pub stands : (vs : List ℕ) → release_count c.trace * record_width ≤ length vs → (j : ℕ) → j < release_count c.trace
      → Stands c.table c.trace vs j
  stands vs r j h =
      let g = legal c ok in
      let n = g.named j h in
      let i : name_of c.trace j - 1 < task_count c.table = omega (arith, n.0, n.1) in
      let t = g.good (name_of c.trace j - 1) i in
      record {
        listed = omega arith;
        named = n.0;
        tabled = omega (arith, i);
        small = omega (arith, t.within, t.small, g.before_end j h, g.end_small);
        judged = omega (arith, r, h);
      }

  module _ (room out : List ℕ) (o : out ≡ room_after c room) where
    noted : out ≡ numbers (records c) ++ drop (release_count c.trace * record_width) room
    unfolding room_after
    noted = o

    pub fits : release_count c.trace * record_width ≤ length out
    fits =
        omega (
          arith,
          ap length noted ∙ length-append (numbers (records c)) (drop (release_count c.trace * record_width) room),
          numbers_long (records c),
          tab_long (record_by c c.end) 0 (release_count c.trace),
        )

    job_is : (j : ℕ) → j < release_count c.trace → job_text c.table c.trace out j ≡ release_line c j
    unfolding release_line
    job_is j h =
        let n = release_count c.trace in
        rw noted
        (ap (job_line (time_of c.trace j) (name_of c.trace j) (time_of c.trace j + deadline c.table (name_of c.trace j - 1)))
        (held (record_by c c.end) n (drop (n * record_width) room) j h))

    pub jobs_are : lines_text (job_text c.table c.trace out) (release_count c.trace)
        ≡ joined_text (tab (release_line c) 0 (release_count c.trace))
    unfolding lines_text
    jobs_are = ap joined_text (tab_cong (job_text c.table c.trace out) (release_line c) 0 (release_count c.trace)
        (λ j p q. job_is j (omega arith)))

-- the run line, the job lines and the total line
pub report_laid : (c : Case) (old a b new jobs : List ℕ) (i k end met missed open· : ℕ)
    → Laid 0 (run_text c.policy c.procs (task_count c.table) c.end) old a i
    → Laid i jobs a b k
    → jobs ≡ joined_text (tab (release_line c) 0 (release_count c.trace))
    → Laid k (total_text (release_count c.trace) met missed open·) b new end
    → ◌≡◌ {A = List ℕ} (met ∷ missed ∷ open· ∷ []) (met_jobs c ∷ missed_jobs c ∷ open_jobs c ∷ [])
    → Laid 0 (report c) old new end
unfolding report
report_laid c old a b new jobs i k end met missed open· p q l r e =
    let t : total_text (release_count c.trace) met missed open· ≡ total_line c =
    ap (λ l. total_text (release_count c.trace) (get_or l 0 0) (get_or l 1 0) (get_or l 2 0)) e ∙ sym (total_is c) in
    rw (run_is c) (laid_then p (laid_then (rw l at q) (rw t at r)))
