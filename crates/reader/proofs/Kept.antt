-- What was gathered of a text with no line at fault: its case, as far as it matters, and with no fault in the case all of it, for which the
-- lent rooms have room.
use Rattle.std.specs.Prelude.{Ok, Err}
use mathlib.Core.Path.{◌≡◌, sym, ap, ◌∙◌}
use mathlib.Core.List.{List}
use Prim.Native.Nat.{ℕ, ◌*◌, ◌≤◌}
use native.Mathlib.Omega.{arith}
use lib.ListN.{length, take}
use lib.Seq.{length-take-le}
use Rattle.rules.specs.Limits.{max_tasks, max_releases, task_width, release_width}
use Rattle.rules.specs.Case.{Case}
use Rattle.rules.specs.Refusals.{checked, case_fault}
use Rattle.rules.specs.Reader.{case_in, length_fault, text_fault}
use Rattle.rules.specs.Calls.{ReadPromise}
use Rattle.rules.specs.declared.Fault.{Fault}
use Rattle.rules.specs.declared.Taken.{Taken}
use Rattle.lines.specs.declared.Gathered.{Gathered}
use Rattle.lines.specs.Held.{Whole, kept_case}
use Rattle.lines.specs.Gathers.{AllRead}
use Rattle.legal.specs.Legal.{legal}
use Rattle.legal.specs.Firsts.{clear_checked}
use Rattle.texts.specs.Passing.{text_clear}
use Rattle.reader.specs.Reads.{rooms_fault, CaseRead, PutsCase}
use Rattle.reader.proofs.Answered.{text_case, enough_room, at_text, refuses, reads}
use Rattle.reader.proofs.Clipped.{clip_fault, clip_none}

-- what is kept in a room is as long as it says
kept_long : (room width n : ℕ) (xs : List ℕ) → Whole room width n xs → length (take n xs) ≡ n
kept_long room width n xs w = length-take-le n xs (omega (arith, w.long, w.within))

-- the case that a head and the fronts of two rooms make
abbrev kept : Gathered → List ℕ → List ℕ → Case
kept g table trace = kept_case g.head g.tasks table g.releases trace

-- ---- the case of a text is read: no line is at fault
module _ (s : List ℕ) (g : Gathered) (table trace : List ℕ) (short : checked (length_fault s) ≡ Ok tt) (w : AllRead s g table trace) where
  -- the check of what is kept is that of the case
  same_fault : case_fault (kept g table trace) ≡ case_fault (case_in s)
  same_fault = ap case_fault (sym w.kept) ∙ clip_fault (case_in s)

  text_checked : checked (text_fault s) ≡ checked (case_fault (kept g table trace))
  text_checked = text_case s short w.clear ∙ ap checked (sym same_fault)

  pub reads_fault : (f : Fault) → checked (case_fault (kept g table trace)) ≡ Err f → checked (text_fault s) ≡ Err f
  reads_fault f e = text_checked ∙ e

  pub reads_case : checked (case_fault (kept g table trace)) ≡ Ok tt → CaseRead s g table trace
  reads_case e =
      record {
        clear = clear_checked _ (text_checked ∙ e);
        case = sym (clip_none (case_in s) (clear_checked _ (ap checked (sym same_fault) ∙ e))) ∙ w.kept;
        tasks = w.tasks;
        releases = w.releases;
      }

-- ---- and put into the lent rooms
module _ (s ts rs : List ℕ) (g : Gathered) (table trace : List ℕ) (room : checked (rooms_fault (length ts) (length rs)) ≡ Ok tt)
    (w : CaseRead s g table trace) where
  -- its numbers are no more than a case may have
  few_numbers : (g.tasks ≤ max_tasks * task_width) × (g.releases ≤ max_releases * release_width)
  few_numbers =
      let l = legal (case_in s) (text_clear s w.clear).accepted in
      let t : length (case_in s).table ≡ g.tasks = ap (λ (c : Case). length c.table) w.case ∙
      kept_long _ _ g.tasks table w.tasks in
      let r : length (case_in s).trace ≡ g.releases = ap (λ (c : Case). length c.trace) w.case ∙
      kept_long _ _ g.releases trace w.releases in
      (omega (arith, l.tasks_few, w.tasks.even), omega (arith, l.releases_few, w.releases.even))

  -- so there is room for them
  pub both_fit : (length (take g.tasks table) ≤ length ts) × (length (take g.releases trace) ≤ length rs)
  both_fit =
      let e = enough_room _ _ room in (
        omega (arith, kept_long _ _ g.tasks table w.tasks, few_numbers.0, e.0),
        omega (arith, kept_long _ _ g.releases trace w.releases, few_numbers.1, e.1),
      )

  -- and with them in the rooms the answer is that of the text
  pub all_read : (r : Taken) (ts' rs' : List ℕ) → PutsCase (kept g table trace) ts rs r ts' rs' → ReadPromise s ts rs (Ok r) ts' rs'
  all_read r ts' rs' p =
      reads s ts rs (kept g table trace) r ts' rs' (ap (λ (f : Fault). f.number) (at_text s _ _ room) ∙ w.clear) w.case p

-- a text at fault leaves them
pub not_read : (s ts rs : List ℕ) (f : Fault) → checked (rooms_fault (length ts) (length rs)) ≡ Ok tt → checked (text_fault s) ≡ Err f
    → ReadPromise s ts rs (Err f) ts rs
not_read s ts rs f room e = refuses s ts rs f (ap checked (at_text s _ _ room) ∙ e)
