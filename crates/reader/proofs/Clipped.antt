-- What is kept of a case decides what is at fault with it, and of a case with no fault all is kept.
use mathlib.Core.Path.{◌≡◌, ap, ap₂, ◌∙◌}
use mathlib.Core.Bool.{and-false}
use mathlib.Core.List.{List}
use Prim.Native.Nat.{ℕ, ◌≤◌, ◌<◌}
use native.Mathlib.Decide.{dec_le}
use native.Mathlib.Omega.{arith}
use lib.ListN.{length, take}
use lib.Seq.{take_all, length-take-le}
use borrow.Author.Tests.{lt-leb}
use Rattle.rules.specs.Limits.{max_tasks, max_releases}
use Rattle.rules.specs.Case.{Case, case_of, task_count, release_count}
use Rattle.rules.specs.Refusals.{fault_of, or_next, table_fault, trace_fault, case_fault, Accepted}
use Rattle.rules.specs.declared.Fault.{Fault}
use Rattle.legal.specs.Legal.{legal}
use Rattle.lines.specs.Held.{table_room, trace_room, clip}

-- with more tasks, or releases, than may stand nothing after that is asked
full_table : (ts : List ℕ) (f : Fault) → table_room ≤ length ts → or_next (table_fault ts) f ≡ fault_of 5 0
unfolding or_next table_fault
full_table ts f h = let g : max_tasks < task_count ts = omega arith in rw (lt-leb (task_count ts) max_tasks g, and-false)

full_trace : (rs : List ℕ) (f : Fault) → trace_room ≤ length rs → or_next (trace_fault rs) f ≡ fault_of 12 0
unfolding or_next trace_fault
full_trace rs f h = let g : max_releases < release_count rs = omega arith in rw (lt-leb (release_count rs) max_releases g, and-false)

abbrev with_table : Case → List ℕ → List ℕ → Case
with_table c ts rs = case_of c.procs c.policy ts c.end rs

-- two cases with too many tasks, or two with the same table and too many releases, have the same fault
many_tasks : (c : Case) (ts rs ts' rs' : List ℕ) → table_room ≤ length ts → table_room ≤ length ts'
    → case_fault (with_table c ts rs) ≡ case_fault (with_table c ts' rs')
unfolding case_fault
many_tasks c ts rs ts' rs' p q = rw (full_table ts _ p, full_table ts' _ q)

many_releases : (c : Case) (ts rs rs' : List ℕ) → trace_room ≤ length rs → trace_room ≤ length rs'
    → case_fault (with_table c ts rs) ≡ case_fault (with_table c ts rs')
unfolding case_fault
many_releases c ts rs rs' p q = rw (full_trace rs _ p, full_trace rs' _ q)

room_full : (n : ℕ) (xs : List ℕ) → n ≤ length xs → n ≤ length (take n xs)
room_full n xs h = omega (arith, length-take-le n xs h)

pub clip_fault : (c : Case) → case_fault (clip c) ≡ case_fault c
unfolding clip
clip_fault c =
    elim (dec_le table_room (length c.table)) [
      | yes h ↦ many_tasks c _ _ _ _ (room_full table_room c.table h) h
      | no h ↦
          ap (λ (ts : List ℕ). case_fault (with_table c ts (take trace_room c.trace))) (take_all table_room c.table (omega arith)) ∙
          elim (dec_le trace_room (length c.trace)) [
            | yes k ↦ many_releases c _ _ _ (room_full trace_room c.trace k) k
            | no k ↦ ap (λ (rs : List ℕ). case_fault (with_table c c.table rs)) (take_all trace_room c.trace (omega arith))
          ]
    ]

pub clip_none : (c : Case) → (case_fault c).number ≡ 0 → clip c ≡ c
unfolding clip Accepted
clip_none c e =
    let l = legal c e in
    ap₂ (with_table c) (take_all table_room c.table (omega (arith, l.tasks_few)))
    (take_all trace_room c.trace (omega (arith, l.releases_few)))
