-- The sets of our own replay keep the rule: the first min(m, N) by kind, deadline and task leave nobody waiting who comes strictly before
-- a running one by kind and deadline.
use Rattle.std.specs.Prelude.{◌≡◌, refl, Bool, true, false, ◌⊎◌, ℕ, ◌<◌, ltb}
use Rattle.std.proofs.Common.{sym, ◌∙◌, true≢false, inl, inr, ltb-true}
use Rattle.rules.specs.Limits.{max_tasks}
use Rattle.rules.specs.declared.Job.{Job}
use Rattle.rules.specs.declared.Run.{Run}
use Rattle.rules.specs.Case.{Case}
use Rattle.rules.specs.Slot.{Setup, job_at, is_present, present, due_of, kind, in_turn, job_before, chosen, opened, ran}
use Rattle.rules.specs.Replay.{setup_in, released_at, state_at, ran_at}
use Rattle.rules.specs.Log.{sooner}
use Rattle.lists.specs.Tests.{and_left}
use Rattle.lists.specs.Tests.{and_both}
use Rattle.theory.specs.Order.{turn_cases, turn_less, turn-same, chosen_exactly, chosen_down}
use Rattle.logs.specs.Rule.{Obeys}
use Rattle.logs.specs.Follow.{Follows, own_opened}

-- who comes strictly before by kind and deadline comes before by kind, deadline and task
pub sooner_before : (p now : ℕ) (a b : Job) (j i : ℕ) → is_present a ≡ true → sooner p now a b ≡ true
    → job_before p now a j b i ≡ true
unfolding job_before
sooner_before p now a b j i there e = and_both (is_present a) _ there
    (go (turn_cases (kind p now a) (kind p now b) (ltb (due_of a) (due_of b)) e))
  where
    go : (kind p now a < kind p now b) ⊎ ((kind p now a ≡ kind p now b) × (ltb (due_of a) (due_of b) ≡ true))
        → in_turn (kind p now a) (kind p now b) (in_turn (due_of a) (due_of b) (ltb j i)) ≡ true
    go (inl h) = turn_less (kind p now a) (kind p now b) (in_turn (due_of a) (due_of b) (ltb j i)) h
    go (inr h) = turn-same (kind p now a) (kind p now b) (in_turn (due_of a) (due_of b) (ltb j i)) h.0
        (turn_less (due_of a) (due_of b) (ltb j i) (ltb-true (due_of a) (due_of b) h.1))

-- the set of step 5 keeps the rule, in any state
pub chosen_obeys : (g : Setup) (now : ℕ) (r : Run) → Obeys g now r (chosen g now r)
unfolding chosen present
chosen_obeys g now r = record {
  number = chosen_exactly g now r;
  there = λ i h e. and_left (is_present (job_at r i)) _ e;
  turn = λ j i h k p w e. go j i h p w e (sooner g.policy now (job_at r j) (job_at r i)) refl;
}
  where
    go : (j i : ℕ) → j < max_tasks → present r j ≡ true → chosen g now r j ≡ false → chosen g now r i ≡ true
        → (b : Bool) → sooner g.policy now (job_at r j) (job_at r i) ≡ b → b ≡ false
    go j i h p w e false q = refl
    go j i h p w e true q = absurd
        (true≢false (sym (chosen_down g now r j i h (sooner_before g.policy now (job_at r j) (job_at r i) j i p q) e) ∙ w))

-- so our own replay follows the rule in every slot
pub own_follows : (c : Case) (e : ℕ) → Follows c (ran_at c) e
own_follows c e t h = rw (own_opened c t) (own c t)
  where
    own : (c : Case) (t : ℕ) → Obeys (setup_in c) t (opened (setup_in c) t (released_at c t) (state_at c t)) (ran_at c t)
    own c t = unfold ran_at ran in chosen_obeys (setup_in c) t (opened (setup_in c) t (released_at c t) (state_at c t))
