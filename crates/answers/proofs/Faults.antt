-- The fault of what is asked of a text, by the reader's answer: a refusal is the text's, and an accepted text leaves what is asked.
use Rattle.std.specs.Prelude.{Result, Ok, Err}
use Rattle.rules.specs.declared.Fault.{Fault}
use mathlib.Core.Path.{◌≡◌, refl, sym, ap, ◌∙◌}
use mathlib.Core.Bool.{Bool, true, false}
use mathlib.Core.List.{List, [], ◌∷◌}
use Prim.Native.Nat.{ℕ, ◌*◌, ◌≤◌}
use native.Mathlib.Omega.{arith}
use lib.Dec.{eqb, ltb}
use lib.ListN.{length, take}
use Rattle.rules.specs.Words.{pick}
use Rattle.rules.specs.Limits.{max_tasks, max_releases, task_width, release_width}
use Rattle.rules.specs.Case.{Case, case_of}
use Rattle.rules.specs.Refusals.{checked, unless, or_next, slot_fault, Accepted}
use Rattle.rules.specs.Answers.{result, taken_as}
use Rattle.rules.specs.Reader.{case_in, text_fault, read_answer, read_tasks, read_releases}
use Rattle.rules.specs.Replay.{running_set}
use Rattle.rules.specs.Report.{refused_line}
use Rattle.rules.specs.declared.Taken.{Taken}
use Rattle.legal.specs.Firsts.{checked_clear, clear_checked, checked_some, checked_next, checked_stop}
use Rattle.roundtrip.specs.RoundTrip.{case_accepted}
use Rattle.sets.specs.Sets.{running_line}
use Rattle.answers.specs.Prints.{case_says, text_says}
use Rattle.wishes.specs.Asks.{asked_fault}
use Rattle.answers.specs.Prints.{wish_fault}
use Rattle.wishes.specs.declared.Wish.{Wish}
use Rattle.wishes.specs.declared.Wish.TheVariants.{Unknown, Help, Replay, Counts, Slot, Write, Slots, Log}
use Rattle.answers.proofs.Taken.{refused_fault, text_clear, tasks_few, releases_few, tasks_long, releases_long, case_read}

-- what the reader answers with these rooms, x, is told by its case
module _ (s ts rs : List ℕ) (x : Result Taken Fault) (h : taken_as x ≡ read_answer s ts rs) where
  pub text_refused : (g : Fault) → x ≡ Err g → max_tasks * task_width ≡ length ts → max_releases * release_width ≡ length rs
      → checked (text_fault s) ≡ Err g
  text_refused g e a b =
      let r = refused_fault s ts rs g.number g.place (omega arith) (omega arith) (sym (ap taken_as e) ∙ h) in
      checked_some (text_fault s) r.0 ∙ ap Err (sym r.1)

  module _ (t : Taken) (q : x ≡ Ok t) where
    values_read : result (t.procs ∷ t.policy ∷ t.end ∷ t.tasks ∷ t.releases ∷ []) ≡ read_answer s ts rs
    values_read = sym (ap taken_as q) ∙ h

    pub text_stands : checked (text_fault s) ≡ Ok tt
    text_stands = checked_clear (text_fault s) (text_clear s ts rs t.procs t.policy t.end t.tasks t.releases values_read)

    pub few_tasks : t.tasks ≤ max_tasks
    few_tasks = tasks_few s ts rs t.procs t.policy t.end t.tasks t.releases values_read

    pub few_releases : t.releases ≤ max_releases
    few_releases = releases_few s ts rs t.procs t.policy t.end t.tasks t.releases values_read

    -- the rooms as the reader left them
    module _ (rows times : List ℕ) (a : rows ≡ read_tasks s ts rs) (b : times ≡ read_releases s ts rs) where
      pub rows_long : t.tasks * task_width ≤ length rows
      rows_long = rw a (tasks_long s ts rs t.procs t.policy t.end t.tasks t.releases values_read)

      pub times_long : t.releases * release_width ≤ length times
      times_long = rw b (releases_long s ts rs t.procs t.policy t.end t.tasks t.releases values_read)

      pub case_taken : case_of t.procs t.policy (take (t.tasks * task_width) rows) t.end (take (t.releases * release_width) times)
          ≡ case_in s
      case_taken = rw (a, b) (case_read s ts rs t.procs t.policy t.end t.tasks t.releases values_read)

      pub case_stands_lem : Accepted (case_of t.procs t.policy (take (t.tasks * task_width) rows) t.end
          (take (t.releases * release_width) times))
      case_stands_lem = rw case_taken (case_accepted s (clear_checked _ text_stands))

-- what is at fault in what is asked of a text: the text's fault comes first
pub wish_refused : (w : Wish) (s : List ℕ) (g : Fault) → checked (text_fault s) ≡ Err g → checked (wish_fault w s) ≡ Err g
unfolding wish_fault
wish_refused w s g e = checked_stop (text_fault s) (asked_fault w (case_in s).end) g e

pub wish_asked : (w : Wish) (s : List ℕ) (e : ℕ) → checked (text_fault s) ≡ Ok tt → e ≡ (case_in s).end
    → checked (asked_fault w e) ≡ checked (wish_fault w s)
unfolding wish_fault
wish_asked w s e ok d = rw d (sym (checked_next (text_fault s) (asked_fault w (case_in s).end) ok))

-- where there is a fault, what is printed is the line of that refusal
slot_printed : (c : Case) (b : Bool) (t : ℕ) → ((unless b 15 0).number ≡ 0 → ⊥)
    → pick b (running_line t (running_set c t)) (refused_line 15 0) ≡ refused_line (unless b 15 0).number (unless b 15 0).place
slot_printed c true t h = absurd (h refl)
slot_printed c false t h = refl

asked_printed : (w : Wish) (c : Case) → ((asked_fault w c.end).number ≡ 0 → ⊥)
    → case_says w c ≡ refused_line (asked_fault w c.end).number (asked_fault w c.end).place
unfolding case_says asked_fault slot_fault
asked_printed Unknown c h = absurd (h refl)
asked_printed Help c h = absurd (h refl)
asked_printed Replay c h = absurd (h refl)
asked_printed Counts c h = absurd (h refl)
asked_printed (Slot t) c h = slot_printed c (ltb t c.end) t h
asked_printed Write c h = absurd (h refl)
asked_printed Slots c h = absurd (h refl)
asked_printed (Log k) c h = absurd (h refl)

pub fault_printed : (w : Wish) (s : List ℕ) → ((wish_fault w s).number ≡ 0 → ⊥)
    → text_says w s ≡ refused_line (wish_fault w s).number (wish_fault w s).place
unfolding text_says wish_fault or_next
fault_printed w s h = go (eqb (text_fault s).number 0) h
  where
    go : (b : Bool) → ((pick b (asked_fault w (case_in s).end) (text_fault s)).number ≡ 0 → ⊥)
        → pick b (case_says w (case_in s)) (refused_line (text_fault s).number (text_fault s).place) ≡
        refused_line (pick b (asked_fault w (case_in s).end) (text_fault s)).number
        (pick b (asked_fault w (case_in s).end) (text_fault s)).place
    go true h = asked_printed w (case_in s) h
    go false h = refl
