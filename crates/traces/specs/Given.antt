-- What a legal case gives to the slots of its trace: the trace can be gone through, the releases of a time as a list are its set, and a
-- slot that is handed them has what it needs. Cited by whoever goes through the slots of a case.
use Rattle.std.specs.Prelude.{◌≡◌, Bool, true, false, List, ℕ, ◌≤◌, ◌<◌, length, get_or}
use Rattle.std.proofs.Common.{ap, sym, ◌∙◌, arith}
use Rattle.std.proofs.lemmas.Bool.{false≢true}
use Rattle.std.proofs.Math.Decide.{dec_lt}
use Rattle.std.proofs.Math.ListN.{get_or-eq_default}
use Rattle.rules.specs.declared.Run.{Run}
use Rattle.rules.specs.Limits.{max_tasks}
use Rattle.rules.specs.Case.{Case, task_count, deadline, release_count}
use Rattle.rules.specs.Counts.{count, free_count}
use Rattle.rules.specs.Slot.{TaskSet, Setup, run_of, judged, joined_task, joined, readied}
use Rattle.rules.specs.Replay.{setup_in, released_in, released_at}
use Rattle.lists.specs.Lists.{map_from_cong, tab_long, tab_at}
use Rattle.legal.specs.Legal.{Legal}
use Rattle.bridge.specs.Steps.{Full, judged_full}
use Rattle.bridge.specs.Records.{released_named}
use Rattle.counts.specs.Needs.{Counts}
use Rattle.slot.specs.Needed.{Needed}
use Rattle.traces.specs.Traces.{Orderly, releases}

pub orderly : (c : Case) → Legal c → Orderly c.trace
orderly c g = record { named = λ j h. ((g.named j h).0, omega (arith, (g.named j h).1, g.tasks_few)); sorted = g.in_order_lem }

-- a free count is at most the deadline
free_few : (m : ℕ) (ts : List ℕ) (i : ℕ) → free_count m ts i ≤ deadline ts i
unfolding free_count count
free_few m ts i = omega arith

-- steps 1 and 2 go by the members below 32 of the set that is released
pub readied-same : (g : Setup) (now : ℕ) (s u : TaskSet) (r : Run) → Full r → ((i : ℕ) → i < max_tasks → s i ≡ u i)
    → readied g now s r ≡ readied g now u r
unfolding joined
readied-same g now s u r f h =
    ap run_of (map_from_cong (joined_task g now s) (joined_task g now u) 0 (judged now r).tasks
    (λ i t p q. rw (h i (omega (arith, judged_full now r f)))))

-- the list is the set released at the time
pub rel_at : (c : Case) (clock : ℕ) (rel : List Bool) → rel ≡ releases c.trace (release_count c.trace) clock
    → (i : ℕ) → i < max_tasks → get_or rel i false ≡ released_at c clock i
rel_at c clock rel re i h = rw re (tab_at (released_in c.trace (release_count c.trace) clock) max_tasks i false h)

module _ (c : Case) (g : Legal c) (clock : ℕ) (more : clock < c.end) (rel : List Bool)
    (re : rel ≡ releases c.trace (release_count c.trace) clock) where
  -- a task that is released stands in the table
  in_table : (i : ℕ) → get_or rel i false ≡ true → i < task_count c.table
  in_table i e = go (dec_lt i max_tasks)
    where
      go : Dec (i < max_tasks) → i < task_count c.table
      go (yes h) = released_named c g clock i (sym (rel_at c clock rel re i h) ∙ e)
      go (no h) =
          let long : length rel ≡ max_tasks = rw re (tab_long (released_in c.trace (release_count c.trace) clock) 0 max_tasks) in
          absurd (false≢true (sym (get_or-eq_default rel false {n = i} (omega arith)) ∙ e))

  -- what a slot is asked for is there
  pub needed : (counts : List ℕ) → Counts c.procs c.table counts → Needed (setup_in c) clock counts rel
  needed counts q = record {
    some = g.procs_some;
    early = omega (arith, g.end_small);
    startable = λ i e. (let m = g.good i (in_table i e) in
        record {
          inside = omega (arith, in_table i e);
          short = omega (arith, m.within, m.small);
          brief = omega (arith, m.fits, m.within, m.small);
          few = omega (arith, q i (in_table i e), free_few c.procs c.table i, m.within, m.small);
        });
    counted = λ i e. q i (in_table i e);
  }
