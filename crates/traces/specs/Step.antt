-- A slot that is handed the releases of a time as a list, from the state at that time, is the slot of the case: what it answers is what
-- the case has, and the run that it leaves is the state at the next time. Cited by whoever goes through the slots of a case.
use Rattle.std.specs.Prelude.{◌≡◌, Bool, ◌&&◌, List, ℕ, suc, ◌<◌}
use Rattle.std.proofs.Math.Path.{ap}
use Rattle.std.proofs.Common.{sym, ◌∙◌}
use Rattle.rules.specs.declared.Run.{Run}
use Rattle.rules.specs.Limits.{max_tasks}
use Rattle.rules.specs.Case.{Case, release_count}
use Rattle.rules.specs.Policies.{demoting}
use Rattle.rules.specs.Slot.{TaskSet, Setup, job_at, is_demoted_now, readied, demoted, lowered, opened}
use Rattle.rules.specs.Slot.{after, ran, finished, missed, demoted_now, jobs_now}
use Rattle.rules.specs.Replay.{setup_in, released_at, state_at}
use Rattle.lists.specs.Lists.{tab_cong, members}
use Rattle.bridge.specs.Steps.{Full}
use Rattle.bridge.specs.Stands.{state_full, state_next}
use Rattle.slot.specs.Stepped.{Stepped}
use Rattle.traces.specs.Traces.{releases}
use Rattle.traces.specs.Given.{readied-same, rel_at}

-- a slot goes by its set's members below 32 only
module _ (g : Setup) (now : ℕ) (s u : TaskSet) (r : Run) (f : Full r) (h : (i : ℕ) → i < max_tasks → s i ≡ u i) where
  readied_here : readied g now s r ≡ readied g now u r
  readied_here = readied-same g now s u r f h

  opened-same : opened g now s r ≡ opened g now u r
  unfolding opened
  opened-same = ap (λ (x : Run). lowered g (demoted g x)) readied_here

  after_same : after g now s r ≡ after g now u r
  unfolding after
  after_same = rw opened-same

  ran-same : (i : ℕ) → ran g now s r i ≡ ran g now u r i
  unfolding ran
  ran-same i = rw opened-same

  finished-same : (i : ℕ) → finished g now s r i ≡ finished g now u r i
  unfolding finished
  finished-same i = rw (ran-same i, opened-same)

  demoted-same : (i : ℕ) → demoted_now g now s r i ≡ demoted_now g now u r i
  unfolding demoted_now
  demoted-same i = ap (λ (x : Run). demoting g.policy && is_demoted_now (job_at x i)) readied_here

  stepped_same : (run : Run) (n : ℕ) (ms ds rs fs ls : List Bool) → Stepped g now s r run n ms ds rs fs ls
      → Stepped g now u r run n ms ds rs fs ls
  unfolding missed
  stepped_same run n ms ds rs fs ls q = record {
    run = q.run ∙ after_same;
    jobs = q.jobs ∙ ap (λ (x : Run). jobs_now (demoted g x)) readied_here;
    missed = q.missed;
    demoted = q.demoted ∙ tab_cong _ _ 0 max_tasks (λ i x y. demoted-same i);
    ran = q.ran ∙ tab_cong _ _ 0 max_tasks (λ i x y. ran-same i);
    finished = q.finished ∙ tab_cong _ _ 0 max_tasks (λ i x y. finished-same i);
    missed_next = q.missed_next;
  }

module _ (c : Case) (clock : ℕ) {rel : List Bool} (re : rel ≡ releases c.trace (release_count c.trace) clock)
    {run : Run} (e : run ≡ state_at c clock) {run' : Run} {jobs : ℕ} {ms ds rs fs ls : List Bool}
    (q : Stepped (setup_in c) clock (members rel) run run' jobs ms ds rs fs ls) where
  pub same_step : Stepped (setup_in c) clock (released_at c clock) (state_at c clock) run' jobs ms ds rs fs ls
  same_step = stepped_same (setup_in c) clock (members rel) (released_at c clock) (state_at c clock)
      (state_full c clock) (rel_at c clock rel re) run' jobs ms ds rs fs ls (rw e at q)

  pub next_run : run' ≡ state_at c (suc clock)
  next_run = same_step.run ∙ sym (state_next c clock)
