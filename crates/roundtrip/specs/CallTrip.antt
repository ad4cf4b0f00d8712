-- The round trip (document 01, "The case text", and request P4) in the words of the public calls: what the reader answers to what the
-- writer wrote, and what the writer writes of what the reader read, for any answers that keep the promises of the calls (rules, Calls).
-- Asked is only that the first call gave a result and that the second has room.
use Rattle.std.specs.Prelude.{◌≡◌, List, [], ◌∷◌, ◌++◌, ℕ, ◌*◌, ◌≤◌, length, get_or, take, drop}
use Rattle.std.proofs.Common.{sym, ap, ap₂, ◌∙◌, subst, arith}
use Rattle.rules.specs.declared.Taken.{Taken}
use Rattle.rules.specs.Limits.{max_tasks, max_releases, task_width, release_width}
use Rattle.rules.specs.Case.{Case, case_of, task_count, release_count}
use Rattle.rules.specs.Refusals.{room_fault, case_fault, Accepted}
use Rattle.rules.specs.Answers.{result, taken_as, written_as}
use Rattle.rules.specs.Calls.{ReadPromise, WritePromise}
use Rattle.rules.specs.Reader.{case_in, read_fault, case_values, read_answer, read_tasks, read_releases}
use Rattle.rules.specs.Writer.{case_text, write_fault, write_answer, write_bytes}
use Rattle.lists.specs.Lists.{take-first}
use Rattle.legal.specs.Legal.{next_clear, Legal, legal}
use Rattle.legal.specs.Settled.{settled_clear, kept_new, settled_result}
use Rattle.texts.specs.Passing.{row_passes, room_passes, read_roomy}
use Rattle.roundtrip.specs.RoundTrip.{case_written, no_fault-written}
use Rattle.std.specs.Prelude.{Result}
use Rattle.rules.specs.declared.Fault.{Fault}

-- ---- the case that a caller has in hand after reading: the values of the answer, and as many numbers of the two rooms
unfoldable pub in_hand : List ℕ → List ℕ → List ℕ → Case
in_hand vs tasks releases =
    case_of (get_or vs 0 0) (get_or vs 1 0) (take (get_or vs 3 0 * task_width) tasks) (get_or vs 2 0) (take (get_or vs 4 0 * release_width)
    releases)

-- what it means that the reader reads a case in a text, by its definitions
pub record ReadAs (s tasks releases : List ℕ) (c : Case) : Type 0 where
  pub answer : read_answer s tasks releases ≡ result (case_values c)
  pub tasks_after : read_tasks s tasks releases ≡ c.table ++ drop (length c.table) tasks
  pub releases-after : read_releases s tasks releases ≡ c.trace ++ drop (length c.trace) releases
  pub in_hand_lem : in_hand (case_values c) (read_tasks s tasks releases) (read_releases s tasks releases) ≡ c

-- and that the writer writes a text of a case, by its
pub record WrittenAs (c : Case) (room s : List ℕ) : Type 0 where
  pub answer : write_answer c room ≡ result (length s ∷ [])
  pub bytes : write_bytes c room ≡ s ++ drop (length s) room

-- ---- one call
-- what it leaves in its rooms is the case of the text
pub read_as : (s tasks releases : List ℕ) → (read_fault s (length tasks) (length releases)).number ≡ 0 → Legal (case_in s)
    → ReadAs s tasks releases (case_in s)
unfolding read_answer read_tasks read_releases in_hand case_values
read_as s tasks releases h w =
    let c = case_in s in
    let f = read_fault s (length tasks) (length releases) in
    let a : read_tasks s tasks releases ≡ c.table ++ drop (length c.table) tasks = kept_new f _ _ h in
    let b : read_releases s tasks releases ≡ c.trace ++ drop (length c.trace) releases = kept_new f _ _ h in
    record {
      answer = settled_clear f _ h;
      tasks_after = a;
      releases-after = b;
      in_hand_lem = ap₂ (λ ts rs. case_of c.procs c.policy ts c.end rs)
          (ap (take (task_count c.table * task_width)) a ∙
          take-first (task_count c.table * task_width) c.table _ (omega (arith, w.threes)))
          (ap (take (release_count c.trace * release_width)) b ∙
          take-first (release_count c.trace * release_width) c.trace _ (omega (arith, w.twos)));
    }

pub written_as_lem : (c : Case) (room : List ℕ) → (write_fault c (length room)).number ≡ 0 → WrittenAs c room (case_text c)
unfolding write_answer write_bytes
written_as_lem c room h = record {
  answer = settled_clear (write_fault c (length room)) _ h;
  bytes =
      kept_new (write_fault c (length room)) _ _ h;
}

pub write_clear : (c : Case) (room : ℕ) → Accepted c → length (case_text c) ≤ room → (write_fault c room).number ≡ 0
unfolding write_fault Accepted
write_clear c room h p = row_passes (case_fault c ∷ room_fault _ room ∷ []) (h, (room_passes _ room p, tt))

-- ---- both, by their definitions
read_written : (c : Case) (room : List ℕ) (n : ℕ) (tasks releases : List ℕ)
    → write_answer c room ≡ result (n ∷ [])
    → max_tasks * task_width ≤ length tasks
    → max_releases * release_width ≤ length releases
    → ReadAs (take n (write_bytes c room)) tasks releases c
unfolding write_answer write_fault Accepted
read_written c room n tasks releases h p q =
    let a = settled_result (write_fault c (length room)) (length (case_text c) ∷ []) (n ∷ []) h in
    let e : Accepted c = (next_clear (case_fault c) _ a.0).0 in
    let text : take n (write_bytes c room) ≡ case_text c = ap (take n) (written_as_lem c room a.0).bytes
    ∙ take-first n (case_text c) _ (sym (ap (λ l. get_or l 0 0) a.1)) in
    let same = case_written c e in
    rw text (subst (ReadAs (case_text c) tasks releases) same
    (read_as (case_text c) tasks releases (rw (read_roomy (case_text c) _ _ p q, no_fault-written c e)) (rw same (legal c e))))

-- ---- both calls: any answers that keep their promises
-- the reader said that it read the case c, and its rooms hold it
pub record Read (c : Case) (tasks releases : List ℕ) (r : Result Taken Fault) (tasks-later releases-later : List ℕ) : Type 0 where
  pub answer : taken_as r ≡ result (case_values c)
  pub tasks_after : tasks-later ≡ c.table ++ drop (length c.table) tasks
  pub releases-after : releases-later ≡ c.trace ++ drop (length c.trace) releases
  pub in_hand_lem : in_hand (case_values c) tasks-later releases-later ≡ c

-- the writer said how long the text s is, and its bytes begin with it
pub record Wrote (s bytes : List ℕ) (w : Result ℕ Fault) (later : List ℕ) : Type 0 where
  pub answer : written_as w ≡ result (length s ∷ [])
  pub bytes_after : later ≡ s ++ drop (length s) bytes

-- reading what the writer wrote gives the same case
pub read_what_was_written : (c : Case) (bytes : List ℕ) (w : Result ℕ Fault) (later : List ℕ) (n : ℕ)
    (tasks releases : List ℕ) (r : Result Taken Fault)
    (ts rs : List ℕ)
    → WritePromise c bytes w later
    → written_as w ≡ result (n ∷ [])
    → max_tasks * task_width ≤ length tasks
    → max_releases * release_width ≤ length releases
    → ReadPromise (take n later) tasks releases r ts rs
    → Read c tasks releases r ts rs
read_what_was_written c bytes w later n tasks releases r ts rs wrote said p q promise =
    let a = read_written c bytes n tasks releases (sym wrote.answer ∙ said) p q in
    let kept : ReadPromise (take n (write_bytes c bytes)) tasks releases r ts rs =
    subst (λ l. ReadPromise (take n l) tasks releases r ts rs) wrote.left promise in
    record {
      answer = kept.answer ∙ a.answer;
      tasks_after = kept.left_tasks ∙ a.tasks_after;
      releases-after = kept.left_releases ∙ a.releases-after;
      in_hand_lem = ap₂ (in_hand (case_values c)) kept.left_tasks kept.left_releases ∙ a.in_hand_lem;
    }
