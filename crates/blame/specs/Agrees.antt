-- The words agree with the rule of a slot (rules, Log): nothing is found exactly where the set keeps the rule, so that no slot is refused
-- with the words that it keeps it. The run may be any: which jobs are present, their kinds and deadlines are all that both ask of it.
use Rattle.std.specs.Prelude.{◌≡◌, refl, Bool, true, false, ◌&&◌, ◌||◌, not, ℕ, zero, suc, ◌+◌, ◌<◌, ◌⊎◌, eqb}
use Rattle.std.proofs.Common.{sym, ap, ◌∙◌, true≢false, zero-add, eq-or-lt_of_le, arith, inl, inr}
use Rattle.std.proofs.lemmas.Bool.{false≢true}
use borrow.Author.Tests.{eq-eqb, ne_eqb, eqb-true}
use Rattle.rules.specs.Words.{or_else, first_in, holds_below}
use Rattle.rules.specs.Limits.{max_tasks}
use Rattle.rules.specs.Slot.{Setup, TaskSet, present}
use Rattle.rules.specs.Log.{wronged, keeps_rule}
use Rattle.rules.specs.declared.Run.{Run}
use Rattle.lists.specs.Tests.{and_left, and_right, not_is, is_not}
use Rattle.lists.specs.Holds.{holds_says, holds_of}
use Rattle.reasons.specs.Reasons.{words}
use Rattle.blame.specs.Blames.{absent_task, ran_count, due_count, overtaking_task, waiting_task, waiting_words, fault_words}

-- ---- none is first where none passes
pub none_first : (p : ℕ → Bool) (n : ℕ) → ((i : ℕ) → i < n → p i ≡ false) → first_in p 0 n ≡ 0
unfolding first_in
none_first p zero h = refl
none_first p (suc n) h = rw (none_first p n (λ i x. h i (omega arith)), zero-add n, h n (omega arith))

pub first_none : (p : ℕ → Bool) (n : ℕ) → first_in p 0 n ≡ 0 → (i : ℕ) → i < n → p i ≡ false
unfolding first_in
first_none p zero e i h = absurd (omega arith)
first_none p (suc n) e i h = go (first_none p n) (first_in p 0 n) refl (p (0 + n)) refl e
  where
    go : (first_in p 0 n ≡ 0 → (i : ℕ) → i < n → p i ≡ false) → (m : ℕ) → first_in p 0 n ≡ m
        → (b : Bool) → p (0 + n) ≡ b
        → or_else m b (suc (0 + n)) ≡ 0 → p i ≡ false
    go earlier (suc m) f b g k = absurd (omega arith)
    go earlier zero f true g k = absurd (omega arith)
    go earlier zero f false g k = last (eq-or-lt_of_le {n = i} {m = n} (omega arith))
      where
        last : (i ≡ n) ⊎ (i < n) → p i ≡ false
        last (inl q) = let s : i ≡ 0 + n = omega arith in rw s g
        last (inr q) = earlier f i q

-- ---- a task that runs has a job, as the rule and as the words ask it
has_job : (a b : Bool) → (not a || b) ≡ true → (a && not b) ≡ false
has_job true true e = refl
has_job true false e = absurd (false≢true e)
has_job false b e = refl

has_job_back : (a b : Bool) → (a && not b) ≡ false → (not a || b) ≡ true
has_job_back true true e = refl
has_job_back true false e = absurd (true≢false e)
has_job_back false b e = refl

-- ---- nothing is found
pub record Clear (g : Setup) (now : ℕ) (r : Run) (runs : TaskSet) : Type 0 where
  pub absent : absent_task r runs ≡ 0
  pub counts : ran_count runs ≡ due_count g r
  pub waiting : waiting_task g now r runs ≡ 0

zero-not : (k : ℕ) → not (eqb k 0) ≡ false → k ≡ 0
zero-not zero e = refl
zero-not (suc k) e = absurd (true≢false (sym (ap not (ne_eqb (suc k) 0 (λ z. omega arith))) ∙ e))

module _ (g : Setup) (now : ℕ) (r : Run) (runs : TaskSet) where
  -- the three parts of the rule
  abbrev counted : Bool
  counted = eqb (ran_count runs) (due_count g r)

  abbrev employed : ℕ → Bool
  employed i = not (runs i) || present r i

  abbrev fair : ℕ → ℕ → Bool
  fair j i = not (wronged g now r runs j i)

  pub keeps_clear : keeps_rule g now r runs ≡ true → Clear g now r runs
  unfolding keeps_rule absent_task overtaking_task waiting_task
  keeps_clear e =
      let two = and_left (counted && holds_below employed max_tasks) (holds_below (λ j. holds_below (fair j) max_tasks) max_tasks) e in
      let all = and_right (counted && holds_below employed max_tasks) (holds_below (λ j. holds_below (fair j) max_tasks) max_tasks) e in
      let jobs = and_right counted (holds_below employed max_tasks) two in
      record {
        absent = none_first _ max_tasks (λ i h. has_job (runs i) (present r i) (holds_says employed max_tasks jobs i h));
        counts = eqb-true _ _ (and_left counted (holds_below employed max_tasks) two);
        waiting =
            none_first _ max_tasks (λ j h.
            rw (none_first (wronged g now r runs j) max_tasks (λ i k.
            not_is (wronged g now r runs j i)
            (holds_says (fair j) max_tasks (holds_says (λ l. holds_below (fair l) max_tasks) max_tasks all j h) i k))));
      }

  pub clear_keeps : Clear g now r runs → keeps_rule g now r runs ≡ true
  unfolding keeps_rule absent_task overtaking_task waiting_task
  clear_keeps c =
      let jobs = holds_of employed max_tasks (λ i h. has_job_back (runs i) (present r i) (first_none _ max_tasks c.absent i h)) in
      let all = holds_of (λ j. holds_below (fair j) max_tasks) max_tasks (λ j h.
      holds_of (fair j) max_tasks (λ i k.
      is_not (wronged g now r runs j i)
      (first_none (wronged g now r runs j) max_tasks (zero-not _ (first_none _ max_tasks c.waiting j h)) i k))) in
      rw (eq-eqb (ran_count runs) (due_count g r) c.counts, jobs, all)

  -- and then the words say so
  pub clear_says : Clear g now r runs → fault_words g now r true runs ≡ words "keeps the rule"
  unfolding fault_words waiting_words
  clear_says c = rw (c.absent, eq-eqb (ran_count runs) (due_count g r) c.counts, c.waiting)
