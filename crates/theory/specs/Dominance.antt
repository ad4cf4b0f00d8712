-- Part 3 of demand 3, the step law: each job that is normal under a policy that demotes is there under EDF, with at least as much left,
-- from slot to slot of the two replays of one case (rules, Replay). Demand3 draws from it that what EDF meets such a policy meets.
use Rattle.std.specs.Prelude.{◌≡◌, refl, Bool, true, false, ℕ, zero, suc, ◌≤◌, ◌<◌}
use Rattle.std.proofs.Common.{sym, ap, ◌∙◌, arith}
use Rattle.std.proofs.lemmas.Bool.{false≢true}
use borrow.Author.Tests.{lt-ltb, ltb-true}
use Rattle.rules.specs.declared.Job.{Job}
use Rattle.rules.specs.declared.Job.TheVariants.{Idle}
use Rattle.rules.specs.Words.{pick, count_in}
use Rattle.rules.specs.Limits.{max_tasks}
use Rattle.rules.specs.Case.{Case, under}
use Rattle.rules.specs.Policies.{edf, demoting}
use Rattle.rules.specs.Slot.{job_at, is_present, is_demoted, left_of, due_of, is_missed, released_job, job_before, comes_before, rank}
use Rattle.rules.specs.Slot.{present}
use Rattle.rules.specs.Slot.{chosen, ran, opened, worked_job}
use Rattle.rules.specs.Replay.{setup_in, released_at, state_at, ran_at}
use Rattle.lists.specs.Sums.{count_mono}
use Rattle.bridge.specs.Steps.{opened_job, judged_job, lowers}
use Rattle.bridge.specs.Jobs.{kind_normal, kind-demoted, kept-opened, goes_on, went_on, more_goes_on}
use Rattle.bridge.specs.Stands.{ready_at, open_at, open_at_lem, next_at}
use Rattle.bridge.specs.Records.{at_first}
use Rattle.lists.specs.Tests.{and_left, and_right, and_both, or_left}

-- the job a is there, is normal, has the deadline of b and at least as much left
pub record Above (a b : Job) : Type 0 where
  pub there : is_present a ≡ true
  pub normal : is_demoted a ≡ false
  pub due : due_of a ≡ due_of b
  pub left : left_of b ≤ left_of a

-- the job a under EDF stands for the job b under a policy that demotes, where b is there and normal
abbrev pub Dom : Job → Job → Type 0
Dom a b = is_present b ≡ true → is_demoted b ≡ false → Above a b

-- ---- steps 1 and 2
dom_judged : (t : ℕ) (a b : Job) → Dom a b → Dom (judged_job t a) (judged_job t b)
dom_judged t a b h = go (is_missed t b) refl
  where
    go : (x : Bool) → is_missed t b ≡ x → Dom (judged_job t a) (pick x Idle b)
    go true e p q = absurd (false≢true p)
    go false e p q =
        let d = h p q in
        let n : is_missed t a ≡ false = rw (d.there, d.due) (rw p at e) in
        rw n d

-- ---- steps 3 and 4: under EDF they change nothing, and a job that is normal after them was so before
dom_opened : (cf calm : Bool) (a b : Job) → Dom a b → Dom a (opened_job cf calm b)
dom_opened cf calm a b h p q =
    let k = kept-opened cf calm b in
    let d = h (sym k.there ∙ p) (or_left (is_demoted b) _ (sym k.demoted ∙ q)) in
    record { there = d.there; normal = d.normal; due = d.due ∙ sym k.due; left = omega (arith, d.left, k.left) }

-- ---- step 5: whoever comes before a normal job under a policy that demotes comes before it under EDF
before : (p now : ℕ) (x y a b : Job) (j i : ℕ) → demoting p ≡ true
    → Dom x y → Dom a b → is_present b ≡ true → is_demoted b ≡ false
    → job_before p now y j b i ≡ true → job_before edf now x j a i ≡ true
unfolding job_before
before p now x y a b j i cf over-y over-b there normal e = go (is_demoted y) refl (and_left (is_present y) _ e)
  where
    go : (z : Bool) → is_demoted y ≡ z → is_present y ≡ true → job_before edf now x j a i ≡ true
    go true q here = absurd (false≢true (rw (here, kind-demoted p now y q, kind_normal p now b there normal) at e))
    go false q here =
        let u = over-y here q in
        let v = over-b there normal in
        rw (u.there, kind_normal edf now x u.there u.normal, kind_normal edf now a v.there v.normal, u.due, v.due)
        (rw (here, kind_normal p now y here q, kind_normal p now b there normal) at e)

-- ---- step 6
dom_worked : (ra rb : Bool) (a b : Job) → Dom a b → (is_present b ≡ true → is_demoted b ≡ false → ra ≡ true → rb ≡ true)
    → Dom (pick ra (worked_job a) a) (pick rb (worked_job b) b)
dom_worked true false a b h r p q = absurd (false≢true (r p q refl))
dom_worked false false a b h r p q = h p q
dom_worked false true a b h r p q =
    let w = went_on b p in
    let d = h (sym w.there ∙ p) (sym w.demoted ∙ q) in
    record { there = d.there; normal = d.normal; due = d.due ∙ sym w.due; left = omega (arith, d.left, w.left) }
dom_worked true true a b h r p q =
    let w = went_on b p in
    let d = h (sym w.there ∙ p) (sym w.demoted ∙ q) in
    let g = goes_on a (more_goes_on a (omega (arith, d.left, w.more))) in
    record {
      there = g.there ∙ d.there;
      normal = g.demoted ∙ d.normal;
      due = g.due ∙ d.due ∙ sym w.due;
      left = omega (arith, d.left, w.left, g.left);
    }

-- ---- a case under a policy that demotes, and the same under EDF
module _ (c : Case) (cf : demoting c.policy ≡ true) where
  abbrev E : Case
  E = under edf c

  ready_dom : (t i : ℕ) → Dom (job_at (state_at E t) i) (job_at (state_at c t) i) → Dom (ready_at E t i) (ready_at c t i)
  ready_dom t i h = go (released_at E t i)
    where
      go : (x : Bool)
          → Dom (pick x (released_job (setup_in E) t i) (judged_job t (job_at (state_at E t) i)))
          (pick x (released_job (setup_in c) t i) (judged_job t (job_at (state_at c t) i)))
      go true = λ p q. record { there = refl; normal = refl; due = refl; left = omega arith }
      go false = dom_judged t (job_at (state_at E t) i) (job_at (state_at c t) i) h

  open_dom : (t i : ℕ) → Dom (ready_at E t i) (ready_at c t i) → Dom (open_at E t i) (open_at c t i)
  open_dom t i h = dom_opened (demoting c.policy) (lowers (setup_in c) t (released_at c t) (state_at c t)) (ready_at E t i) (ready_at c t
      i) h

  runs_dom : (t i : ℕ) → i < max_tasks → ((j : ℕ) → j < max_tasks → Dom (open_at E t j) (open_at c t j))
      → is_present (open_at c t i) ≡ true → is_demoted (open_at c t i) ≡ false → ran_at E t i ≡ true → ran_at c t i ≡ true
  unfolding ran_at ran chosen present rank
  runs_dom t i l h p q e =
      let oe = opened (setup_in E) t (released_at E t) (state_at E t) in
      let of = opened (setup_in c) t (released_at c t) (state_at c t) in
      let fewer : count_in (λ j. comes_before (setup_in c) t of j i) 0 max_tasks
      ≤ count_in (λ j. comes_before (setup_in E) t oe j i) 0 max_tasks =
      count_mono (λ j. comes_before (setup_in c) t of j i) (λ j. comes_before (setup_in E) t oe j i) 0 max_tasks (λ j x y b.
      rw (open_at_lem E j (omega arith) t, open_at_lem E i l t) (before c.policy t
      (open_at E t j) (open_at c t j) (open_at E t i) (open_at c t i) j i cf (h j (omega arith)) (h i l) p q
      (rw (open_at_lem c j (omega arith) t, open_at_lem c i l t) at b)))
      in
      let k : count_in (λ j. comes_before (setup_in E) t oe j i) 0 max_tasks < c.procs =
      ltb-true _ _ (and_right (is_present (job_at oe i)) _ e) in
      and_both (is_present (job_at of i)) _ (ap is_present (open_at_lem c i l t) ∙ p)
      (lt-ltb (count_in (λ j. comes_before (setup_in c) t of j i) 0 max_tasks) c.procs (omega (arith, fewer, k)))

  -- at every time, for every task
  pub dominated : (t i : ℕ) → i < max_tasks → Dom (job_at (state_at E t) i) (job_at (state_at c t) i)
  dominated zero i l = rw (at_first c i l) (λ p q. absurd (false≢true p))
  dominated (suc t) i l =
      let o : (j : ℕ) → j < max_tasks → Dom (open_at E t j) (open_at c t j) = λ j h. open_dom t j (ready_dom t j (dominated t j h)) in
      rw (next_at E i l t, next_at c i l t)
      (dom_worked (ran_at E t i) (ran_at c t i) (open_at E t i) (open_at c t i) (o i l) (runs_dom t i l o))
