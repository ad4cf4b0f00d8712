-- The states that follow a log (`followed` of rules, Log) are those of a course (bridge, Course), and depend on nothing but the sets of
-- the slots before. So the theorems about courses hold of logs.
use Rattle.std.specs.Prelude.{◌≡◌}
use Rattle.std.proofs.Math.Path.{refl, ap}
use Rattle.std.proofs.Common.{sym, ◌∙◌, arith}
use Prim.Native.Nat.{ℕ, zero, suc, ◌<◌}
use Rattle.rules.specs.Limits.{max_tasks}
use Rattle.rules.specs.declared.Run.{Run}
use Rattle.rules.specs.Case.{Case}
use Rattle.rules.specs.Slot.{TaskSet, opened, worked}
use Rattle.rules.specs.Replay.{setup_in, released_at, state_at, ran_at}
use Rattle.rules.specs.Log.{followed, opened_by}
use Rattle.bridge.specs.Steps.{Full, opened_full, worked_same}
use Rattle.bridge.specs.Course.{Course, state_in, opened_in, course_full}
use Rattle.bridge.specs.Stands.{replay_state}
use Rattle.logs.specs.Rule.{Obeys}

-- the course of a case whose worked sets are given
abbrev pub course_of : Case → (ℕ → TaskSet) → Course
course_of c works = record { setup = setup_in c; released = released_at c; works = works }

-- its states are those that follow the sets
pub course_state : (c : Case) (works : ℕ → TaskSet) (t : ℕ) → state_in (course_of c works) t
    ≡ followed (setup_in c) (released_at c) works t
unfolding state_in followed
course_state c works zero = refl
course_state c works (suc t) = ap (λ (r : Run). worked (works t) (opened (setup_in c) t (released_at c t) r)) (course_state c works t)

pub course_opened : (c : Case) (works : ℕ → TaskSet) (t : ℕ) → opened_in (course_of c works) t ≡ opened_by c works t
course_opened c works t = ap (λ (r : Run). opened (setup_in c) t (released_at c t) r) (course_state c works t)

-- every slot before e keeps the rule, the state following the sets
abbrev pub Follows : Case → (ℕ → TaskSet) → ℕ → Type 0
Follows c works e = (t : ℕ) → t < e → Obeys (setup_in c) t (opened_by c works t) (works t)

module _ (c : Case) (a b : ℕ → TaskSet) where
  -- and sets that are the same in every slot before t come to the same state at t
  pub followed_same : (t : ℕ) → ((u i : ℕ) → u < t → i < max_tasks → a u i ≡ b u i)
      → followed (setup_in c) (released_at c) a t ≡ followed (setup_in c) (released_at c) b t
  unfolding followed
  followed_same zero same = refl
  followed_same (suc t) same =
      let f : Full (opened_by c a t) = opened_full _ _ _ _ (rw (course_state c a t) at (course_full (course_of c a) t)) in
      worked_same (a t) (b t) (opened_by c a t) f (λ i h. same t i (omega arith) h)
      ∙ ap (λ (r : Run). worked (b t) (opened (setup_in c) t (released_at c t) r)) (followed_same t (λ u i h. same u i (omega arith)))

  pub opened-same : (t : ℕ) → ((u i : ℕ) → u < t → i < max_tasks → a u i ≡ b u i) → opened_by c a t ≡ opened_by c b t
  opened-same t same = ap (λ (r : Run). opened (setup_in c) t (released_at c t) r) (followed_same t same)

-- the replay follows its own sets
pub own_opened : (c : Case) (t : ℕ) → opened_by c (ran_at c) t ≡ opened (setup_in c) t (released_at c t) (state_at c t)
own_opened c t = ap (λ (r : Run). opened (setup_in c) t (released_at c t) r) (sym (course_state c (ran_at c) t) ∙ replay_state c t)
