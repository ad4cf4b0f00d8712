-- The order of step 5 (`job_before`, `rank`, `chosen` of rules, Slot): any two jobs that are there have one, so that exactly min(m, N) run;
-- and in a contention-free slot all do. Cited by Lawful, for part 2 of demand 3, and by Laws.
use Rattle.std.specs.Prelude.{◌≡◌, refl, Bool, false, ◌&&◌, ◌||◌, ◌⊎◌, ℕ, min, ◌≤◌, ◌<◌, eqb, ltb}
use Rattle.std.proofs.Common.{◌∙◌, inl, inr, le_refl, arith}
use Rattle.std.proofs.Math.Bool.{true, and-false}
use Rattle.std.proofs.lemmas.Bool.{false≢true}
use Rattle.std.proofs.Math.Decide.{dec_lt}
use borrow.Author.Tests.{ltb-true, eqb-true, eq-eqb, le-ltb, lt-ltb}
use Rattle.rules.specs.declared.Job.{Job}
use Rattle.rules.specs.declared.Run.{Run}
use Rattle.rules.specs.Words.{count_in}
use Rattle.rules.specs.Limits.{max_tasks}
use Rattle.rules.specs.Slot.{Setup, job_at, is_present, is_demoted, kind, due_of, in_turn, present, jobs_now, job_before, comes_before}
use Rattle.rules.specs.Slot.{rank}
use Rattle.rules.specs.Slot.{chosen}
use Rattle.lists.specs.Sums.{count_lt}
use Rattle.bridge.specs.Jobs.{kind_normal, kind-demoted}
use Rattle.lists.specs.Tests.{and_left, and_right, and_both}
use Rattle.theory.specs.Counting.{ranked}

-- ---- one key of the order
pub turn_cases : (a b : ℕ) (x : Bool) → in_turn a b x ≡ true → (a < b) ⊎ ((a ≡ b) × (x ≡ true))
turn_cases a b x = go (ltb a b) (eqb a b) x refl refl
  where
    go : (l e x : Bool) → ltb a b ≡ l → eqb a b ≡ e → (l || (e && x)) ≡ true → (a < b) ⊎ ((a ≡ b) × (x ≡ true))
    go true e x p q h = inl (ltb-true a b p)
    go false true x p q h = inr (eqb-true a b q, h)
    go false false x p q h = absurd (false≢true h)

pub turn_less : (a b : ℕ) (x : Bool) → a < b → in_turn a b x ≡ true
turn_less a b x h = rw (lt-ltb a b h)

pub turn-same : (a b : ℕ) (x : Bool) → a ≡ b → x ≡ true → in_turn a b x ≡ true
turn-same a b x e h = rw (eq-eqb a b e, h) (go (ltb a b))
  where
    go : (l : Bool) → (l || true) ≡ true
    go true = refl
    go false = refl

turn_trans : (a b c : ℕ) (x y z : Bool) → (x ≡ true → y ≡ true → z ≡ true)
    → in_turn a b x ≡ true → in_turn b c y ≡ true → in_turn a c z ≡ true
turn_trans a b c x y z h p q = go (turn_cases a b x p) (turn_cases b c y q)
  where
    go : (a < b) ⊎ ((a ≡ b) × (x ≡ true)) → (b < c) ⊎ ((b ≡ c) × (y ≡ true)) → in_turn a c z ≡ true
    go (inl u) (inl v) = turn_less a c z (omega arith)
    go (inl u) (inr v) = turn_less a c z (omega (arith, v.0))
    go (inr u) (inl v) = turn_less a c z (omega (arith, u.0))
    go (inr u) (inr v) = turn-same a c z (u.0 ∙ v.0) (h u.1 v.1)

turn_total : (a b : ℕ) (x y : Bool) → (x ≡ true) ⊎ (y ≡ true) → (in_turn a b x ≡ true) ⊎ (in_turn b a y ≡ true)
turn_total a b x y h = go (dec_lt a b) (dec_lt b a) h
  where
    go : Dec (a < b) → Dec (b < a) → (x ≡ true) ⊎ (y ≡ true) → (in_turn a b x ≡ true) ⊎ (in_turn b a y ≡ true)
    go (yes u) v w = inl (turn_less a b x u)
    go (no u) (yes v) w = inr (turn_less b a y v)
    go (no u) (no v) (inl w) = inl (turn-same a b x (omega arith) w)
    go (no u) (no v) (inr w) = inr (turn-same b a y (omega arith) w)

turn_self : (a : ℕ) (x : Bool) → x ≡ false → in_turn a a x ≡ false
turn_self a x e = rw (le-ltb a a (le_refl a), e) (and-false (eqb a a))

-- ---- the whole order, under any policy and at any time
before_trans : (p now : ℕ) (a b c : Job) (i j k : ℕ)
    → job_before p now a i b j ≡ true → job_before p now b j c k ≡ true → job_before p now a i c k ≡ true
unfolding job_before
before_trans p now a b c i j k x y =
    and_both (is_present a) _ (and_left (is_present a) _ x)
    (turn_trans (kind p now a) (kind p now b) (kind p now c) _ _ _
    (turn_trans (due_of a) (due_of b) (due_of c) _ _ _ (λ u v. later (ltb-true i j u) (ltb-true j k v)))
    (and_right (is_present a) _ x) (and_right (is_present b) _ y))
  where
    later : i < j → j < k → ltb i k ≡ true
    later u v = lt-ltb i k (omega arith)

pub before_total : (p now : ℕ) (a b : Job) (i j : ℕ) → i < j → is_present a ≡ true → is_present b ≡ true
    → (job_before p now a i b j ≡ true) ⊎ (job_before p now b j a i ≡ true)
unfolding job_before
before_total p now a b i j h x y =
    rw (x, y) (turn_total (kind p now a) (kind p now b) _ _ (turn_total (due_of a) (due_of b) (ltb i j) (ltb j i) (inl (lt-ltb i j h))))

module _ (g : Setup) (now : ℕ) (r : Run) where
  -- no job comes before itself
  self : (i : ℕ) → comes_before g now r i i ≡ false
  unfolding job_before
  self i =
      let j = job_at r i in
      rw (turn_self (kind g.policy now j) _ (turn_self (due_of j) _ (le-ltb i i (le_refl i)))) (and-false (is_present j))

  -- who comes before another has the lower rank
  rank_less : (j i : ℕ) → j < max_tasks → comes_before g now r j i ≡ true → rank g now r j < rank g now r i
  unfolding rank
  rank_less j i l e =
      count_lt (λ k. comes_before g now r k j) (λ k. comes_before g now r k i) 0 max_tasks
      (λ k x y h. before_trans g.policy now (job_at r k) (job_at r j) (job_at r i) k j i h e) j (omega arith) (omega arith) (self j) e

  rank_below : (i : ℕ) → i < max_tasks → present r i ≡ true → rank g now r i < count_in (present r) 0 max_tasks
  unfolding rank present job_before
  rank_below i l e =
      count_lt (λ j. comes_before g now r j i) (present r) 0 max_tasks
      (λ j x y h. and_left (is_present (job_at r j)) _ h) i (omega arith) (omega arith) (self i) e

  rank-distinct : (i j : ℕ) → i < j → j < max_tasks → present r i ≡ true → present r j ≡ true
      → rank g now r i ≡ rank g now r j → ⊥
  unfolding present
  rank-distinct i j h l x y e = go (before_total g.policy now (job_at r i) (job_at r j) i j h x y)
    where
      go : (comes_before g now r i j ≡ true) ⊎ (comes_before g now r j i ≡ true) → ⊥
      go (inl b) = omega (arith, rank_less i j (omega arith) b)
      go (inr b) = omega (arith, rank_less j i l b)

  -- exactly min(m, N) run
  pub chosen_exactly : count_in (chosen g now r) 0 max_tasks ≡ min g.procs (jobs_now r)
  unfolding chosen jobs_now
  chosen_exactly = ranked (present r) (rank g now r) max_tasks rank_below rank-distinct g.procs

  -- whoever comes before a job that runs, runs
  pub chosen_down : (j i : ℕ) → j < max_tasks → comes_before g now r j i ≡ true → chosen g now r i ≡ true
      → chosen g now r j ≡ true
  unfolding chosen present job_before
  chosen_down j i l b e =
      let k : rank g now r i < g.procs = ltb-true _ _ (and_right (is_present (job_at r i)) _ e) in
      let h : rank g now r j < g.procs = omega (arith, rank_less j i l b) in
      and_both (is_present (job_at r j)) _ (and_left (is_present (job_at r j)) _ b) (lt-ltb _ _ h)

  -- where N ≤ m every job that is there runs
  pub chosen_all : (i : ℕ) → i < max_tasks → jobs_now r ≤ g.procs → present r i ≡ true → chosen g now r i ≡ true
  unfolding chosen jobs_now
  chosen_all i l h e =
      let k : rank g now r i < g.procs = omega (arith, rank_below i l e) in
      and_both (present r i) _ e (lt-ltb _ _ k)

  -- where a demoted job runs, every normal job that is there runs too
  pub demoted_last : (j i : ℕ) → j < max_tasks → chosen g now r i ≡ true → is_demoted (job_at r i) ≡ true
      → present r j ≡ true → is_demoted (job_at r j) ≡ false → chosen g now r j ≡ true
  unfolding present job_before
  demoted_last j i l e dem there norm =
      let first : comes_before g now r j i ≡ true =
      rw (there, kind_normal g.policy now (job_at r j) there norm, kind-demoted g.policy now (job_at r i) dem)
      in
      chosen_down j i l first e
