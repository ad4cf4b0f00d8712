-- The bridge from records to states: the replay is a course (Course), so at each time up to its deadline the job of a release is there and
-- unfinished or finished and gone, by the finish and the demotion of its record (rules, Replay). The proofs of the replay rest on it.
-- Also `state_split`: going l + k slots is going l, then k.
use Rattle.std.specs.Prelude.{◌≡◌, refl, Bool, true, false, ◌&&◌, ◌||◌, ℕ, zero, suc, ◌+◌, ◌<◌}
use Rattle.std.proofs.Common.{sym, ◌∙◌, add-zero, add-suc, zero-add, add_assoc}
use Rattle.std.proofs.Math.Path.{ap, fun_ext}
use Rattle.rules.specs.Words.{pick, first_in}
use Rattle.rules.specs.Limits.{max_tasks}
use Rattle.rules.specs.Case.{Case, deadline}
use Rattle.rules.specs.Policies.{demoting}
use Rattle.rules.specs.Slot.{Setup, TaskSet, job_at, is_present, is_demoted, is_last, present, is_demoted_now, opened, chosen, worked}
use Rattle.rules.specs.Slot.{worked_job}
use Rattle.rules.specs.Slot.{after, ran, finished, demoted_now}
use Rattle.rules.specs.Replay.{setup_in, released_at, state_from, state_at, finished_at, demoted_at, ran_at}
use Rattle.rules.specs.declared.Job.{Job}
use Rattle.rules.specs.declared.Run.{Run}
use Rattle.lists.specs.Lists.{tab_long}
use Rattle.bridge.specs.Steps.{Full, after_full, readied_at, opened_at_lem, after_at, readied_job, opened_job, lowers}
use Rattle.bridge.specs.Jobs.{Kept, kept-opened, Stand}
use Rattle.bridge.specs.Course.{Course, state_in, demoted_in, finished_in, Sole, found_stands, left_stands}

-- ---- states, slot by slot
pub state_next : (c : Case) (t : ℕ) → state_at c (suc t) ≡ after (setup_in c) t (released_at c t) (state_at c t)
unfolding state_at state_from
state_next c t = rw (zero-add t)

pub state_full : (c : Case) (t : ℕ) → Full (state_at c t)
unfolding state_at state_from
state_full c zero = tab_long _ 0 max_tasks
state_full c (suc t) = after_full _ _ _ _ (state_full c t)

-- ---- shorthands at time t
abbrev pub ready_at : Case → ℕ → ℕ → Job
ready_at c t i = readied_job (setup_in c) t (released_at c t) (state_at c t) i

abbrev pub open_at : Case → ℕ → ℕ → Job
open_at c t i = opened_job (demoting c.policy) (lowers (setup_in c) t (released_at c t) (state_at c t)) (ready_at c t i)

-- steps 3 and 4 keep the job, and step 3 alone demotes it
pub kept_at : (c : Case) (t i : ℕ)
    → Kept (ready_at c t i) (open_at c t i) (is_demoted (ready_at c t i) || (demoting c.policy && is_demoted_now (ready_at c t i)))
kept_at c t i = kept-opened (demoting c.policy) (lowers (setup_in c) t (released_at c t) (state_at c t)) (ready_at c t i)

module _ (c : Case) (i : ℕ) (l : i < max_tasks) (t : ℕ) where
  pub open_at_lem : job_at (opened (setup_in c) t (released_at c t) (state_at c t)) i ≡ open_at c t i
  open_at_lem = opened_at_lem i l (setup_in c) t (released_at c t) (state_at c t) (state_full c t)

  pub finished_at_lem : finished_at c t i ≡ (ran_at c t i && is_last (open_at c t i))
  unfolding finished_at finished ran_at
  finished_at_lem = rw open_at_lem

  pub demoted_at_lem : demoted_at c t i ≡ (demoting c.policy && is_demoted_now (ready_at c t i))
  unfolding demoted_at demoted_now
  demoted_at_lem = rw (readied_at i l (setup_in c) t (released_at c t) (state_at c t) (state_full c t))

  pub ran-present : is_present (open_at c t i) ≡ false → ran_at c t i ≡ false
  unfolding ran_at ran chosen present
  ran-present e = rw (open_at_lem, e)

  pub next_at : job_at (state_at c (suc t)) i ≡ pick (ran_at c t i) (worked_job (open_at c t i)) (open_at c t i)
  unfolding ran_at
  next_at =
      ap (λ (r : Run). job_at r i) (state_next c t) ∙
      after_at i l (setup_in c) t (released_at c t) (state_at c t) (state_full c t) ∙ rw open_at_lem

-- ---- the replay is a course
abbrev pub replay_of : Case → Course
replay_of c = record { setup = setup_in c; released = released_at c; works = ran_at c }

replay_next : (c : Case) (t : ℕ) → worked (ran_at c t) (opened (setup_in c) t (released_at c t) (state_at c t)) ≡ state_at c (suc t)
unfolding after ran_at ran
replay_next c t = sym (state_next c t)

pub replay_state : (c : Case) (t : ℕ) → state_in (replay_of c) t ≡ state_at c t
unfolding state_in state_at state_from
replay_state c zero = refl
replay_state c (suc t) = ap (λ (r : Run). worked (ran_at c t) (opened (setup_in c) t (released_at c t) r)) (replay_state c t)
    ∙ replay_next c t

pub replay_demoted : (c : Case) (t i : ℕ) → demoted_in (replay_of c) t i ≡ demoted_at c t i
unfolding demoted_in demoted_at
replay_demoted c t i = rw (replay_state c t)

pub replay_finished : (c : Case) (t i : ℕ) → finished_in (replay_of c) t i ≡ finished_at c t i
unfolding finished_in finished_at finished ran_at ran chosen
replay_finished c t i = rw (replay_state c t) (once (present (opened (setup_in c) t (released_at c t) (state_at c t)) i) _ _)
  where
    once : (p w b : Bool) → (p && (p && w) && b) ≡ (p && w && b)
    once true w b = refl
    once false w b = refl

-- so the job of a release that is the only one of its task until its deadline stands as in a course
module _ (c : Case) (i a : ℕ) (s : Sole (replay_of c) i a) where
  same_finishes : ◌≡◌ {A = ℕ → Bool} (λ t. finished_in (replay_of c) t i) (λ t. finished_at c t i)
  same_finishes = fun_ext (λ t. replay_finished c t i)

  same_demotions : ◌≡◌ {A = ℕ → Bool} (λ t. demoted_in (replay_of c) t i) (λ t. demoted_at c t i)
  same_demotions = fun_ext (λ t. replay_demoted c t i)

  -- after steps 1 and 2 of each of its slots
  pub ready : (n : ℕ) → n < deadline c.table i
      → Stand (first_in (λ t. finished_at c t i) a n) (first_in (λ t. demoted_at c t i) a n)
      (a + deadline c.table i) (ready_at c (a + n) i)
  ready n h = rw (same_finishes, same_demotions, replay_state c (a + n)) at (found_stands (replay_of c) i a s n h)

  -- and before step 1 of each time after its release, its deadline included
  pub stands : (n : ℕ) → n < deadline c.table i
      → Stand (first_in (λ t. finished_at c t i) a (suc n)) (first_in (λ t. demoted_at c t i) a (suc n))
      (a + deadline c.table i) (job_at (state_at c (suc (a + n))) i)
  stands n h = rw (same_finishes, same_demotions, replay_state c (suc (a + n))) at (left_stands (replay_of c) i a s n h)

-- going l + k slots is going l, then k
pub state_split : (g : Setup) (s : ℕ → TaskSet) (a : ℕ) (r : Run) (l k : ℕ)
    → state_from g s a r (l + k) ≡ state_from g s (a + l) (state_from g s a r l) k
unfolding state_from
state_split g s a r l zero = rw (add-zero l)
state_split g s a r l (suc k) = rw (add-suc l k, ← (add_assoc a l k), state_split g s a r l k)
