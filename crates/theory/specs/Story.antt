-- Part 2 of demand 3 for one job and any count: whatever free count a job is given at its release, if that is no more than the
-- contention-free slots up to its deadline and it is worked in each of them, then once demoted it finishes. The other jobs do not matter.
-- Over steps 3 to 6 of rules, Slot; Demoted takes it to the states of a course.
use Rattle.std.specs.Prelude.{◌≡◌, refl, Bool, true, false, ◌||◌, ◌⊎◌}
use Rattle.std.proofs.Common.{sym, ◌∙◌, inl, inr, add-zero, add-suc, arith}
use Rattle.std.proofs.lemmas.Bool.{false≢true}
use Prim.Native.Nat.{ℕ, zero, suc, ◌+◌, ◌-◌, ◌≤◌, ◌<◌}
use Rattle.rules.specs.declared.Job.{Job}
use Rattle.rules.specs.declared.Job.TheVariants.{Idle, Normal}
use Rattle.rules.specs.Words.{pick, bit, sum, count_in}
use Rattle.rules.specs.Slot.{is_present, is_demoted, left_of, free_of, is_demoted_now, worked_job}
use Rattle.lists.specs.Tests.{or_cases, or_left}
use Rattle.bridge.specs.Steps.{opened_job}
use Rattle.bridge.specs.Jobs.{Kept, kept-opened, free_opened, falls, GoesOn, went_on, demoted_there, idle_now}

-- what the first n slots from a on make of a job under EDF-CF, by steps 3 to 6: `calm t` says whether the slot at t is contention-free,
-- `works t` whether the job is worked in it
unfoldable pub story : (ℕ → Bool) → (ℕ → Bool) → ℕ → Job → ℕ → Job
story calm works a j zero = j
story calm works a j (suc n) =
    pick (works (a + n)) (worked_job (opened_job true (calm (a + n)) (story calm works a j n)))
    (opened_job true (calm (a + n)) (story calm works a j n))

-- in its first D slots the job is worked in each contention-free one that finds it there
abbrev pub Attended : (ℕ → Bool) → (ℕ → Bool) → ℕ → Job → ℕ → Type 0
Attended calm works a j D = (n : ℕ) → n < D → calm (a + n) ≡ true → is_present (story calm works a j n) ≡ true
    → works (a + n) ≡ true

-- what is owed to a job of free count F that is there: it has something left; while normal it still counts F less s; once demoted it has
-- no more left than F less u
pub record Owes (F s u : ℕ) (j : Job) : Type 0 where
  pub some : 1 ≤ left_of j
  pub counts : is_demoted j ≡ false → free_of j ≡ F - s
  pub covered : is_demoted j ≡ true → left_of j ≤ F - u

-- and so, where it is there, when s contention-free slots have been
abbrev Owed : ℕ → ℕ → Job → Type 0
Owed F s j = is_present j ≡ true → Owes F s s j

-- ---- one slot, for any job
-- steps 3 and 4: a job that is demoted now has no more left than it still counted
owed_opened : (F s : ℕ) (calm : Bool) (j : Job) → Owes F s s j → Owes F (s + bit calm) s (opened_job true calm j)
owed_opened F s calm j o = record {
  some = omega (arith, o.some, k.left);
  counts = λ e.
      let was = o.counts (or_left (is_demoted j) _ (sym k.demoted ∙ e)) in
      omega (arith, free_opened true calm j e, was);
  covered = λ e. covers (or_cases (is_demoted j) (is_demoted_now j) (sym k.demoted ∙ e));
}
  where
    k : Kept j (opened_job true calm j) (is_demoted j || is_demoted_now j)
    k = kept-opened true calm j

    covers : (is_demoted j ≡ true) ⊎ (is_demoted_now j ≡ true) → left_of (opened_job true calm j) ≤ F - s
    covers (inl e) = omega (arith, k.left, o.covered e)
    covers (inr e) = let f = falls j e in omega (arith, k.left, f.within, o.counts f.normal)

-- step 6: a job that goes on has one unit less left, which makes up for one slot
owed_worked : (F s u : ℕ) (j n : Job) → s ≤ suc u → Owes F s u j → GoesOn j n → Owes F s s n
owed_worked F s u j n h o w = record {
  some = omega (arith, w.more, w.left);
  counts = λ e. w.free ∙ o.counts (sym w.demoted ∙ e);
  covered = λ e. omega (arith, o.covered (sym w.demoted ∙ e), w.left, w.more);
}

owed_slot : (F s : ℕ) (calm runs : Bool) (j : Job) → (calm ≡ true → is_present j ≡ true → runs ≡ true) → Owed F s j
    → Owed F (s + bit calm) (pick runs (worked_job (opened_job true calm j)) (opened_job true calm j))
owed_slot F s calm true j h o p =
    let w = went_on (opened_job true calm j) p in
    let here = sym (kept-opened true calm j).there ∙ sym w.there ∙ p in
    owed_worked F (s + bit calm) s _ _ (most calm) (owed_opened F s calm j (o here)) w
  where
    most : (b : Bool) → s + bit b ≤ suc s
    most true = omega arith
    most false = omega arith
owed_slot F s true false j h o p = absurd (false≢true (h refl (sym (kept-opened true true j).there ∙ p)))
owed_slot F s false false j h o p =
    let z : s + 0 ≡ s = omega arith in
    rw z (rw z at (owed_opened F s false j (o (sym (kept-opened true false j).there ∙ p))))

-- ---- a demoted job stays demoted while it is there
abbrev StillDemoted : Job → Type 0
StillDemoted j = is_present j ≡ true → is_demoted j ≡ true

demoted-opened : (calm : Bool) (j : Job) → StillDemoted j → StillDemoted (opened_job true calm j)
demoted-opened calm j h p = let k = kept-opened true calm j in k.demoted ∙ rw (h (sym k.there ∙ p))

demoted_slot : (calm works : Bool) (j : Job) → StillDemoted j
    → StillDemoted (pick works (worked_job (opened_job true calm j)) (opened_job true calm j))
demoted_slot calm true j h p = let w = went_on (opened_job true calm j) p in w.demoted ∙ demoted-opened calm j h (sym w.there ∙ p)
demoted_slot calm false j h p = demoted-opened calm j h p

-- ---- the whole story
module _ (calm works : ℕ → Bool) (a C F due D : ℕ) (some : 1 ≤ C) (attended : Attended calm works a (Normal C F due) D) where
  abbrev j : Job
  j = Normal C F due

  owed : (n : ℕ) → n ≤ D → Owed F (count_in calm a n) (story calm works a j n)
  unfolding story sum
  owed zero h p = record { some = some; counts = λ e. omega arith; covered = λ e. absurd (false≢true e) }
  owed (suc n) h p =
      owed_slot F (count_in calm a n) (calm (a + n)) (works (a + n)) (story calm works a j n) (attended n h) (owed n (omega arith)) p

  demoted_from : (n d : ℕ) → StillDemoted (story calm works a j n) → StillDemoted (story calm works a j (n + d))
  unfolding story
  demoted_from n zero h = rw (add-zero n) h
  demoted_from n (suc d) h = rw (add-suc n d)
      (demoted_slot (calm (a + (n + d))) (works (a + (n + d))) (story calm works a j (n + d)) (demoted_from n d h))

  module _ (enough : F ≤ count_in calm a D) where
    -- after D slots the job is not there as a demoted one
    pub story_none_demoted : is_demoted (story calm works a (Normal C F due) D) ≡ true → ⊥
    story_none_demoted e =
        let o = owed D (omega arith) (demoted_there (story calm works a j D) e) in
        omega (arith, o.some, o.covered e)

    -- so if it is demoted at any time up to then, it is finished by then
    pub story_finishes : (n : ℕ) → n ≤ D → is_demoted (story calm works a (Normal C F due) n) ≡ true
        → story calm works a (Normal C F due) D ≡ Idle
    story_finishes n h e = go (is_present (story calm works a j D)) refl
      where
        still : StillDemoted (story calm works a j D)
        still = let z : n + (D - n) ≡ D = omega arith in rw z at (demoted_from n (D - n) (λ p. e))

        go : (b : Bool) → is_present (story calm works a j D) ≡ b → story calm works a j D ≡ Idle
        go false q = idle_now (story calm works a j D) q
        go true q = absurd (story_none_demoted (still q))
