-- Part 2 of demand 3 for a course: the job of a release, once demoted, finishes by its deadline where its free count is no more than the
-- contention-free slots up to there. Demand3 takes that from part 1.
use Rattle.std.specs.Prelude.{◌≡◌, refl, true}
use Rattle.std.proofs.Common.{ap, ◌∙◌, inl, inr, add-zero, add-suc, arith}
use Prim.Native.Nat.{ℕ, zero, suc, ◌+◌, ◌-◌, ◌≤◌, ◌<◌}
use Rattle.rules.specs.declared.Job.{Job}
use Rattle.rules.specs.Words.{count_in}
use Rattle.rules.specs.Case.{execution, deadline}
use Rattle.rules.specs.Policies.{demoting}
use Rattle.rules.specs.Slot.{job_at, is_present, is_demoted, free_count_in, released_job}
use Rattle.bridge.specs.Jobs.{Stand, written}
use Rattle.bridge.specs.Course.{Course, state_in, contention_free_in, finish_in, demotion_in, found_in, next_in, Sole, left_stands}
use Rattle.bridge.specs.Course.{found_next}
use Rattle.theory.specs.Lawful.{Attends, present_in}
use Rattle.theory.specs.Story.{story, Attended, story_none_demoted}

-- a job of the task at i is released at a, and nothing more of the task before that job's deadline
pub record Alone (k : Course) (i a : ℕ) : Type 0 where
  pub sole : Sole k i a
  pub some : 1 ≤ execution k.setup.table i
  pub lasts : 1 ≤ deadline k.setup.table i

module _ (k : Course) (i a : ℕ) (s : Alone k i a) where
  abbrev D : ℕ
  D = deadline k.setup.table i

  -- the slot before its deadline is the last of its D slots
  last_slot : suc (D - 1) ≡ D
  last_slot = omega (arith, s.lasts)

  due_next : suc (a + (D - 1)) ≡ a + D
  due_next = omega (arith, s.lasts)

  -- how the job stands at its deadline, before step 1
  pub at_deadline : Stand (finish_in k i a) (demotion_in k i a) (a + D) (job_at (state_in k (a + D)) i)
  unfolding finish_in demotion_in
  at_deadline = rw last_slot at (rw due_next at (left_stands k i a s.sole (D - 1) (omega (arith, s.lasts))))

  module _ (cf : demoting k.setup.policy ≡ true) (e : ℕ) (attends : Attends k e) (come : a + D ≤ e) where
    -- the job's own story
    abbrev told : ℕ → Job
    told n = story (contention_free_in k) (λ t. k.works t i) a (released_job k.setup a i) n

    -- what the slots find of the task, and leave of it, is what the story tells
    left_told : (n : ℕ) → found_in k (a + n) i ≡ told n → job_at (state_in k (suc (a + n))) i ≡ told (suc n)
    unfolding story
    left_told n h = next_in k (a + n) i s.sole.task ∙ rw (cf, h)

    found_told : (n : ℕ) → n < D → found_in k (a + n) i ≡ told n
    unfolding story
    found_told zero h = rw (add-zero a, s.sole.released)
    found_told (suc n) h = rw (add-suc a n) (found_next k i a s.sole n h ∙ left_told n (found_told n (omega arith)))

    due-told : job_at (state_in k (a + D)) i ≡ told D
    due-told = rw last_slot at (rw due_next at (left_told (D - 1) (found_told (D - 1) (omega (arith, s.lasts)))))

    attended : Attended (contention_free_in k) (λ t. k.works t i) a (released_job k.setup a i) D
    attended n h q p = attends (a + n) i (omega arith) s.sole.task q (present_in k (a + n) i s.sole.task
        ∙ ap is_present (found_told n h) ∙ p)

    module _ (enough : free_count_in k.setup i ≤ count_in (contention_free_in k) a (deadline k.setup.table i)) where
      -- at its deadline the job is not there as a demoted one
      pub none_demoted : is_demoted (job_at (state_in k (a + deadline k.setup.table i)) i) ≡ true → ⊥
      none_demoted = rw due-told (story_none_demoted (contention_free_in k)
          (λ t. k.works t i) a (execution k.setup.table i) _ (a + D) D s.some attended enough)

      -- so it has finished if it was demoted
      pub demoted_finishes : 0 < demotion_in k i a → 0 < finish_in k i a
      demoted_finishes d = go at_deadline
        where
          some : (n : ℕ) → 0 < n → written n ≡ true
          some zero h = absurd (omega arith)
          some (suc n) h = refl

          go : Stand (finish_in k i a) (demotion_in k i a) (a + D) (job_at (state_in k (a + D)) i) → 0 < finish_in k i a
          go (inr (p, e)) = p
          go (inl (z, v)) = absurd (none_demoted (v.demoted ∙ some (demotion_in k i a) d))
