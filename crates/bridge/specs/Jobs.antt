-- One slot for one job (steps 3 to 6 of rules, Slot): what each step makes of a job, by what the job has, and how its finish and demotion
-- so far go on. Only the first part opens a job; all else here and in theory goes by presence, kind, deadline, what is left, free count.
-- `slot_stand` is the step law, from any job; Course makes of it how the job of a release stands at each time.
use Rattle.std.specs.Prelude.{◌≡◌, refl, Bool, true, false, ◌&&◌, ◌||◌, ◌⊎◌, ℕ, zero, suc, ◌-◌, ◌≤◌, ◌<◌}
use Rattle.std.proofs.Common.{sym, ap, ◌∙◌, true≢false, inl, inr, arith, leb-true, leb-false}
use Rattle.std.proofs.Math.Bool.{or-false}
use Rattle.std.proofs.lemmas.Bool.{false≢true, lt-leb}
use Rattle.rules.specs.Words.{pick, bit, or_else}
use Rattle.rules.specs.Slot.{is_present, is_demoted, left_of, free_of, due_of, demotes, is_demoted_now, lowered_job, kind, is_last}
use Rattle.rules.specs.Slot.{worked_job}
use Rattle.rules.specs.declared.Job.{Job}
use Rattle.rules.specs.declared.Job.TheVariants.{Idle, Normal, Demoted}
use Rattle.lists.specs.Tests.{never_true}
use Rattle.bridge.specs.Steps.{demoted_job, opened_job}

-- ---- what a job has
pub idle_now : (j : Job) → is_present j ≡ false → j ≡ Idle
idle_now Idle e = refl
idle_now (Normal l f d) e = absurd (true≢false e)
idle_now (Demoted l d) e = absurd (true≢false e)

-- a demoted job is there
pub demoted_there : (j : Job) → is_demoted j ≡ true → is_present j ≡ true
demoted_there Idle e = e
demoted_there (Normal l f d) e = refl
demoted_there (Demoted l d) e = refl

-- the kind of a normal job, and of a demoted one
pub kind_normal : (p now : ℕ) (j : Job) → is_present j ≡ true → is_demoted j ≡ false → kind p now j ≡ 0
kind_normal p now Idle e h = absurd (false≢true e)
kind_normal p now (Normal l f d) e h = refl
kind_normal p now (Demoted l d) e h = absurd (true≢false h)

pub kind-demoted : (p now : ℕ) (j : Job) → is_demoted j ≡ true → kind p now j ≡ 1
kind-demoted p now Idle e = absurd (false≢true e)
kind-demoted p now (Normal l f d) e = absurd (false≢true e)
kind-demoted p now (Demoted l d) e = refl

-- ---- step 3: its test, opened here alone, is whether what is left is no more than the free count
demotes-within : (free left : ℕ) → demotes free left ≡ true → left ≤ free
demotes-within free left e = leb-true left free e

demotes_above : (free left : ℕ) → demotes free left ≡ false → free < left
demotes_above free left e = leb-false left free e

-- a job that is demoted now is there, is not demoted yet, and has no more left than its free count
pub record Falls (j : Job) : Type 0 where
  pub there : is_present j ≡ true
  pub normal : is_demoted j ≡ false
  pub within : left_of j ≤ free_of j

pub falls : (j : Job) → is_demoted_now j ≡ true → Falls j
falls Idle e = absurd (false≢true e)
falls (Normal l f d) e = record { there = refl; normal = refl; within = demotes-within f l e }
falls (Demoted l d) e = absurd (false≢true e)

-- so none is that is absent or demoted already
not_falling : (j : Job) → (Falls j → ⊥) → is_demoted_now j ≡ false
not_falling j h = never_true (is_demoted_now j) (λ q. h (falls j q))

pub absent-demotes : (j : Job) → is_present j ≡ false → is_demoted_now j ≡ false
absent-demotes j e = not_falling j (λ f. true≢false (sym f.there ∙ e))

pub demotes_once : (j : Job) → is_demoted j ≡ true → is_demoted_now j ≡ false
demotes_once j e = not_falling j (λ f. true≢false (sym e ∙ f.normal))

-- what step 3 leaves there and normal has more left than its free count
pub normal_above : (j : Job) → is_present (demoted_job true j) ≡ true → is_demoted (demoted_job true j) ≡ false
    → free_of (demoted_job true j) < left_of (demoted_job true j)
normal_above j = go (is_demoted_now j) refl
  where
    stays : (j : Job) → is_demoted_now j ≡ false → is_present j ≡ true → is_demoted j ≡ false → free_of j < left_of j
    stays Idle q p e = absurd (false≢true p)
    stays (Normal l f d) q p e = demotes_above f l q
    stays (Demoted l d) q p e = absurd (true≢false e)

    go : (b : Bool) → is_demoted_now j ≡ b → is_present (pick b (Demoted (left_of j) (due_of j)) j) ≡ true
        → is_demoted (pick b (Demoted (left_of j) (due_of j)) j) ≡ false
        → free_of (pick b (Demoted (left_of j) (due_of j)) j) < left_of (pick b (Demoted (left_of j) (due_of j)) j)
    go true q p e = absurd (true≢false e)
    go false q p e = stays j q p e

-- k is j but for its kind and free count, demoted where `dem`
pub record Kept (j k : Job) (dem : Bool) : Type 0 where
  pub there : is_present k ≡ is_present j
  pub due : due_of k ≡ due_of j
  pub left : left_of k ≡ left_of j
  pub demoted : is_demoted k ≡ dem

demoting-keeps : (j : Job) → is_present j ≡ true → Kept j (Demoted (left_of j) (due_of j)) true
demoting-keeps j e = record { there = sym e; due = refl; left = refl; demoted = refl }

pub kept-demoted : (cf : Bool) (j : Job) → Kept j (demoted_job cf j) (is_demoted j || (cf && is_demoted_now j))
kept-demoted false j = record { there = refl; due = refl; left = refl; demoted = sym (or-false (is_demoted j)) }
kept-demoted true j = go (is_demoted_now j) refl
  where
    go : (b : Bool) → is_demoted_now j ≡ b → Kept j (pick b (Demoted (left_of j) (due_of j)) j) (is_demoted j || b)
    go true q = rw (falls j q).normal (demoting-keeps j (falls j q).there)
    go false q = record { there = refl; due = refl; left = refl; demoted = sym (or-false (is_demoted j)) }

-- a job that stays normal keeps its free count too
free_demoted : (cf : Bool) (j : Job) → is_demoted (demoted_job cf j) ≡ false → free_of (demoted_job cf j) ≡ free_of j
free_demoted cf j = go (cf && is_demoted_now j)
  where
    go : (b : Bool) → is_demoted (pick b (Demoted (left_of j) (due_of j)) j) ≡ false
        → free_of (pick b (Demoted (left_of j) (due_of j)) j) ≡ free_of j
    go true e = absurd (true≢false e)
    go false e = refl

-- ---- step 4
kept-lowered : (j : Job) → Kept j (lowered_job j) (is_demoted j)
kept-lowered Idle = record { there = refl; due = refl; left = refl; demoted = refl }
kept-lowered (Normal l f d) = record { there = refl; due = refl; left = refl; demoted = refl }
kept-lowered (Demoted l d) = record { there = refl; due = refl; left = refl; demoted = refl }

free_lowered : (j : Job) → free_of (lowered_job j) ≡ free_of j - 1
free_lowered Idle = refl
free_lowered (Normal l f d) = refl
free_lowered (Demoted l d) = refl

-- steps 3 and 4 keep a job's presence, deadline and remaining execution; step 3 alone demotes
pub kept-opened : (cf lw : Bool) (j : Job) → Kept j (opened_job cf lw j) (is_demoted j || (cf && is_demoted_now j))
kept-opened cf false j = kept-demoted cf j
kept-opened cf true j =
    let a = kept-demoted cf j in
    let b = kept-lowered (demoted_job cf j) in
    record { there = b.there ∙ a.there; due = b.due ∙ a.due; left = b.left ∙ a.left; demoted = b.demoted ∙ a.demoted }

-- and step 4 alone lowers the free count of one that stays normal
pub free_opened : (cf lw : Bool) (j : Job) → is_demoted (opened_job cf lw j) ≡ false → free_of (opened_job cf lw j) ≡ free_of j - bit lw
free_opened cf false j e = free_demoted cf j e ∙ omega arith
free_opened cf true j e =
    free_lowered (demoted_job cf j) ∙ ap (λ (f : ℕ). f - 1) (free_demoted cf j (sym (kept-lowered (demoted_job cf j)).demoted ∙ e))

-- ---- step 6: a job whose last unit is worked is gone, and any other goes on with one unit less
pub done : (o : Job) → is_last o ≡ true → worked_job o ≡ Idle
done Idle e = refl
done (Normal l f d) e = rw e
done (Demoted l d) e = rw e

pub record GoesOn (o n : Job) : Type 0 where
  pub there : is_present n ≡ is_present o
  pub due : due_of n ≡ due_of o
  pub demoted : is_demoted n ≡ is_demoted o
  pub free : free_of n ≡ free_of o
  pub left : left_of n ≡ left_of o - 1
  pub more : 1 < left_of o

pub goes_on : (o : Job) → is_last o ≡ false → GoesOn o (worked_job o)
goes_on Idle e = absurd (true≢false e)
goes_on (Normal l f d) e = rw e (record { there = refl; due = refl; demoted = refl; free = refl; left = refl; more = leb-false l 1 e })
goes_on (Demoted l d) e = rw e (record { there = refl; due = refl; demoted = refl; free = refl; left = refl; more = leb-false l 1 e })

-- one that is there afterwards went on
pub went_on : (o : Job) → is_present (worked_job o) ≡ true → GoesOn o (worked_job o)
went_on o e = go (is_last o) refl
  where
    go : (b : Bool) → is_last o ≡ b → GoesOn o (worked_job o)
    go true q = absurd (false≢true (sym (ap is_present (done o q)) ∙ e))
    go false q = goes_on o q

-- one with more than a unit left goes on
pub more_goes_on : (o : Job) → 1 < left_of o → is_last o ≡ false
more_goes_on o h = lt-leb (left_of o) 1 h

-- work does nothing to a task that has no job
pub work_absent : (o : Job) (b : Bool) → pick b (worked_job o) o ≡ pick (is_present o && b) (worked_job o) o
work_absent o b = go (is_present o) refl
  where
    none : (b : Bool) → pick b (worked_job Idle) Idle ≡ Idle
    none true = refl
    none false = refl

    go : (x : Bool) → is_present o ≡ x → pick b (worked_job o) o ≡ pick (x && b) (worked_job o) o
    go true q = refl
    go false q = rw (idle_now o q) (none b)

-- ---- the job of a release, whose finish so far is f and whose demotion so far is d
abbrev pub written : ℕ → Bool
written zero = false
written (suc n) = true

-- there, with its deadline, and demoted where its demotion is written
pub record Live (due d : ℕ) (j : Job) : Type 0 where
  pub there : is_present j ≡ true
  pub its : due_of j ≡ due
  pub demoted : is_demoted j ≡ written d

abbrev pub Stand : ℕ → ℕ → ℕ → Job → Type 0
Stand f d due j = ((f ≡ 0) × Live due d j) ⊎ ((0 < f) × (j ≡ Idle))

live_on : (due d : ℕ) (o : Job) → is_last o ≡ false → Live due d o → Live due d (worked_job o)
live_on due d o e v =
    let g = goes_on o e in
    record { there = g.there ∙ v.there; its = g.due ∙ v.its; demoted = g.demoted ∙ v.demoted }

-- where the demotion so far is d, and the step demotes where dm, the demotion after it
demoted_next : (d t : ℕ) (b dm : Bool) → b ≡ written d → (b || dm) ≡ written (or_else d dm (suc t))
demoted_next zero t b true e = rw e
demoted_next zero t b false e = rw e
demoted_next (suc d) t b dm e = rw e

-- the step law: from what a slot finds after steps 1 and 2 to what it leaves
pub slot_stand : (cf lw runs : Bool) (f d due t : ℕ) (j : Job)
    → (is_present (opened_job cf lw j) ≡ false → runs ≡ false) → Stand f d due j
    → Stand (or_else f (runs && is_last (opened_job cf lw j)) (suc t)) (or_else d (cf && is_demoted_now j) (suc t)) due
    (pick runs (worked_job (opened_job cf lw j)) (opened_job cf lw j))
slot_stand cf lw runs zero d due t j fair (inl (e, v)) = go runs (is_last (opened_job cf lw j)) refl
  where
    k : Kept j (opened_job cf lw j) (is_demoted j || (cf && is_demoted_now j))
    k = kept-opened cf lw j

    live : Live due (or_else d (cf && is_demoted_now j) (suc t)) (opened_job cf lw j)
    live = record {
      there = k.there ∙ v.there;
      its = k.due ∙ v.its;
      demoted = k.demoted ∙ demoted_next d t (is_demoted j) (cf && is_demoted_now j) v.demoted;
    }

    go : (runs b : Bool) → is_last (opened_job cf lw j) ≡ b
        → Stand (pick (runs && is_last (opened_job cf lw j)) (suc t) 0) (or_else d (cf && is_demoted_now j) (suc t)) due
        (pick runs (worked_job (opened_job cf lw j)) (opened_job cf lw j))
    go false b q = inl (refl, live)
    go true true q = rw q (inr (omega arith, done (opened_job cf lw j) q))
    go true false q = rw q (inl (refl, live_on due _ (opened_job cf lw j) q live))
slot_stand cf lw runs (suc f) d due t j fair (inl (e, v)) = absurd (omega arith)
slot_stand cf lw runs zero d due t j fair (inr (p, e)) = absurd (omega arith)
slot_stand cf lw runs (suc f) d due t j fair (inr (p, e)) =
    let k = kept-opened cf lw j in
    let n : is_present (opened_job cf lw j) ≡ false = k.there ∙ ap is_present e in
    rw (fair n) (inr (p, idle_now (opened_job cf lw j) n))
