-- Sets that keep the rule and take the lower task on every tie of kind and deadline are those of our own replay.
use Rattle.std.specs.Prelude.{◌≡◌, Bool, true, false, ◌&&◌, not, ◌⊎◌, ℕ, zero, suc, ◌≤◌, ◌<◌, ltb}
use Rattle.std.proofs.Math.Path.{refl}
use Rattle.std.proofs.Common.{sym, ap, ◌∙◌, true≢false, eq-or-lt_of_le, arith, lt-ltb, ltb-true}
use Rattle.std.proofs.Math.Logic.{inl, inr}
use Rattle.std.proofs.Math.Decide.{dec_lt}
use Rattle.rules.specs.Limits.{max_tasks}
use Rattle.rules.specs.declared.Job.{Job}
use Rattle.rules.specs.declared.Run.{Run}
use Rattle.rules.specs.Case.{Case}
use Rattle.rules.specs.Slot.{Setup, TaskSet, job_at, is_present, present, due_of, kind, in_turn, job_before, comes_before, chosen, opened}
use Rattle.rules.specs.Slot.{ran}
use Rattle.rules.specs.Replay.{setup_in, released_at, state_at, ran_at}
use Rattle.rules.specs.Log.{sooner, opened_by}
use Rattle.lists.specs.Tests.{and_left, and_right}
use Rattle.lists.specs.Tests.{and_both}
use Rattle.lists.specs.Sums.{count_lt}
use Rattle.theory.specs.Order.{turn_cases, turn_less, turn-same, before_total, chosen_down}
use Rattle.lists.specs.Holds.{some_or_none}
use Rattle.lists.specs.Tests.{not_is}
use Rattle.logs.specs.Rule.{Obeys}
use Rattle.logs.specs.OwnSets.{chosen_obeys}
use Rattle.logs.specs.Follow.{Follows, opened-same, own_opened}

-- where two present jobs tie by kind and deadline, one waiting and one running, the running one has the lower task
abbrev pub LowerTaskFirst : Setup → ℕ → Run → TaskSet → Type 0
LowerTaskFirst g now r runs = (j i : ℕ) → j < max_tasks → i < max_tasks → present r j ≡ true → runs j ≡ false → runs i
    ≡ true
    → kind g.policy now (job_at r j) ≡ kind g.policy now (job_at r i) → due_of (job_at r j) ≡ due_of (job_at r i) → i < j

-- who comes before by kind, deadline and task comes strictly before by kind and deadline, or ties and has the lower task
before_cases : (p now : ℕ) (a b : Job) (j i : ℕ) → job_before p now a j b i ≡ true
    → (sooner p now a b ≡ true) ⊎ ((kind p now a ≡ kind p now b) × (due_of a ≡ due_of b) × (j < i))
unfolding job_before
before_cases p now a b j i e = go
    (turn_cases (kind p now a) (kind p now b) (in_turn (due_of a) (due_of b) (ltb j i)) (and_right (is_present a) _ e))
  where
    inner : kind p now a ≡ kind p now b → (due_of a < due_of b) ⊎ ((due_of a ≡ due_of b) × (ltb j i ≡ true))
        → (sooner p now a b ≡ true) ⊎ ((kind p now a ≡ kind p now b) × (due_of a ≡ due_of b) × (j < i))
    inner k (inl h) = inl (turn-same (kind p now a) (kind p now b) (ltb (due_of a) (due_of b)) k (lt-ltb (due_of a) (due_of b) h))
    inner k (inr h) = inr (k, h.0, ltb-true j i h.1)

    go : (kind p now a < kind p now b) ⊎ ((kind p now a ≡ kind p now b) × (in_turn (due_of a) (due_of b) (ltb j i) ≡ true))
        → (sooner p now a b ≡ true) ⊎ ((kind p now a ≡ kind p now b) × (due_of a ≡ due_of b) × (j < i))
    go (inl h) = inl (turn_less (kind p now a) (kind p now b) (ltb (due_of a) (due_of b)) h)
    go (inr h) = inner h.0 (turn_cases (due_of a) (due_of b) (ltb j i) h.1)

module _ (g : Setup) (now : ℕ) (r : Run) (runs : TaskSet) (o : Obeys g now r runs) (low : LowerTaskFirst g now r runs) where
  -- no job left waiting comes before a running one in the replay's own order
  none_before : (j i : ℕ) → j < max_tasks → i < max_tasks → present r j ≡ true → runs j ≡ false → runs i ≡ true
      → comes_before g now r j i ≡ true → ⊥
  none_before j i h k p w e b = go (before_cases g.policy now (job_at r j) (job_at r i) j i b)
    where
      go : (sooner g.policy now (job_at r j) (job_at r i) ≡ true)
          ⊎ ((kind g.policy now (job_at r j) ≡ kind g.policy now (job_at r i)) × (due_of (job_at r j) ≡ due_of (job_at r i))
          × (j < i)) → ⊥
      go (inl s) = true≢false (sym s ∙ o.turn j i h k p w e)
      go (inr t) = omega (arith, low j i h k p w e t.0 t.1, t.2)

  -- of two present jobs one comes before the other
  one_before : (j i : ℕ) → present r j ≡ true → present r i ≡ true → (j ≡ i → ⊥)
      → (comes_before g now r j i ≡ true) ⊎ (comes_before g now r i j ≡ true)
  unfolding present
  one_before j i p q n = go (dec_lt j i)
    where
      swap : (comes_before g now r i j ≡ true) ⊎ (comes_before g now r j i ≡ true)
          → (comes_before g now r j i ≡ true) ⊎ (comes_before g now r i j ≡ true)
      swap (inl x) = inr x
      swap (inr x) = inl x

      go : Dec (j < i) → (comes_before g now r j i ≡ true) ⊎ (comes_before g now r i j ≡ true)
      go (yes h) = before_total g.policy now (job_at r j) (job_at r i) j i h p q
      go (no h) = swap (before_total g.policy now (job_at r i) (job_at r j) i j (omega (arith, n)) q p)

  -- nobody runs who is not chosen
  only_chosen : (i : ℕ) → i < max_tasks → runs i ≡ true → chosen g now r i ≡ false → ⊥
  only_chosen i h e n = go (some_or_none (λ j. chosen g now r j && not (runs j)) max_tasks)
    where
      ours : Obeys g now r (chosen g now r)
      ours = chosen_obeys g now r

      clash : (j : ℕ) → j < max_tasks → chosen g now r j ≡ true → runs j ≡ false → ⊥
      clash j k c w = meet (one_before j i (ours.there j k c) (o.there i h e) (λ q. true≢false (sym e ∙ ap runs (sym q) ∙ w)))
        where
          meet : (comes_before g now r j i ≡ true) ⊎ (comes_before g now r i j ≡ true) → ⊥
          meet (inl b) = none_before j i k h (ours.there j k c) w e b
          meet (inr b) = true≢false (sym (chosen_down g now r i j h b c) ∙ n)

      within : ((j : ℕ) → j < max_tasks → (chosen g now r j && not (runs j)) ≡ false) → (j : ℕ) → j < max_tasks
          → chosen g now r j ≡ true → runs j ≡ true
      within f j k c = cut (runs j) refl
        where
          cut : (b : Bool) → runs j ≡ b → runs j ≡ true
          cut true q = q
          cut false q = absurd (true≢false (sym (rw (c, q)) ∙ f j k))

      go : ((j : ℕ) × ((j < max_tasks) × ((chosen g now r j && not (runs j)) ≡ true))) ⊎
          ((j : ℕ) → j < max_tasks → (chosen g now r j && not (runs j)) ≡ false) → ⊥
      go (inl x) = clash x.0 x.1.0 (and_left (chosen g now r x.0) _ x.1.1)
          (not_is _ (and_right (chosen g now r x.0) _ x.1.1))
      go (inr f) = omega (
        arith,
        o.number,
        ours.number,
        count_lt (chosen g now r) runs 0 max_tasks (λ j x y. within f j (omega arith)) i
            (omega arith) (omega arith) n e,
      )

  -- the set is that of step 5
  pub lower-chosen : (i : ℕ) → i < max_tasks → runs i ≡ chosen g now r i
  lower-chosen i h = go (runs i) (chosen g now r i) refl refl
    where
      go : (a b : Bool) → runs i ≡ a → chosen g now r i ≡ b → a ≡ b
      go true true p q = refl
      go false false p q = refl
      go true false p q = absurd (only_chosen i h p q)
      go false true p q = absurd
          (omega (
            arith,
            o.number,
            (chosen_obeys g now r).number,
            count_lt runs (chosen g now r) 0 max_tasks
                (λ j x y. ran j (omega arith)) i (omega arith) (omega arith) p q,
          ))
        where
          ran : (j : ℕ) → j < max_tasks → runs j ≡ true → chosen g now r j ≡ true
          ran j k e = cut (chosen g now r j) refl
            where
              cut : (b : Bool) → chosen g now r j ≡ b → chosen g now r j ≡ true
              cut true z = z
              cut false z = absurd (only_chosen j k e z)

-- the set of step 5 takes the lower task on every tie
pub chosen-lower : (g : Setup) (now : ℕ) (r : Run) → LowerTaskFirst g now r (chosen g now r)
unfolding present
chosen-lower g now r j i h k p w e same due = go (dec_lt i j)
  where
    before : j < i → comes_before g now r j i ≡ true
    before l = unfold job_before in
        and_both (is_present (job_at r j)) _ p
        (turn-same (kind g.policy now (job_at r j)) (kind g.policy now (job_at r i))
        (in_turn (due_of (job_at r j)) (due_of (job_at r i)) (ltb j i)) same
        (turn-same (due_of (job_at r j)) (due_of (job_at r i)) (ltb j i) due (lt-ltb j i l)))

    other : j ≡ i → ⊥
    other q = true≢false (sym e ∙ ap (chosen g now r) (sym q) ∙ w)

    go : Dec (i < j) → i < j
    go (yes l) = l
    go (no l) = absurd (true≢false (sym (chosen_down g now r j i h (before (omega (arith, other))) e) ∙ w))

-- slot by slot, the state following the sets
module _ (c : Case) (works : ℕ → TaskSet) (e : ℕ) (f : Follows c works e)
    (low : (t : ℕ) → t < e → LowerTaskFirst (setup_in c) t (opened_by c works t) (works t)) where
  upto : (n : ℕ) → n ≤ e → (t i : ℕ) → t < n → i < max_tasks → works t i ≡ ran_at c t i
  upto zero h t i l k = absurd (omega arith)
  upto (suc n) h t i l k = go (upto n (omega arith)) (eq-or-lt_of_le {n = t} {m = n} (omega arith))
    where
      ours : (n i : ℕ) → chosen (setup_in c) n (opened (setup_in c) n (released_at c n) (state_at c n)) i ≡ ran_at c n i
      ours n i = unfold ran_at ran in refl

      now : ((u j : ℕ) → u < n → j < max_tasks → works u j ≡ ran_at c u j) → works n i ≡ ran_at c n i
      now same =
          let z : opened_by c works n ≡ opened (setup_in c) n (released_at c n) (state_at c n) = opened-same c works (ran_at c) n same
          ∙ own_opened c n in
          let s : works n i ≡ chosen (setup_in c) n (opened_by c works n) i =
          lower-chosen (setup_in c) n (opened_by c works n) (works n) (f n (omega arith)) (low n (omega arith)) i k
          in
          s ∙ ap (λ (r : Run). chosen (setup_in c) n r i) z ∙ ours n i

      go : ((u j : ℕ) → u < n → j < max_tasks → works u j ≡ ran_at c u j) → (t ≡ n) ⊎ (t < n) → works t i ≡ ran_at c t i
      go same (inl q) = rw q (now same)
      go same (inr q) = same t i q k

  -- the sets are those of our own replay in every slot
  pub lower_own : (t i : ℕ) → t < e → i < max_tasks → works t i ≡ ran_at c t i
  lower_own = upto e (omega arith)
