-- How many keys of a run are below a bound: none below 0, all below the largest number, and one more where one job's key comes between.
use mathlib.Core.Path.{◌≡◌, refl, ap, sym, ◌∙◌}
use mathlib.Core.Bool.{Bool, true, false, ◌&&◌, and-true, true≢false}
use mathlib.Core.Logic.{◌⊎◌, inl, inr}
use Prim.Native.Nat.{ℕ, zero, suc, ◌+◌, ◌≤◌, ◌<◌}
use native.Mathlib.Nat.{eq-or-lt_of_le}
use native.Mathlib.Decide.{dec_lt}
use native.Mathlib.Omega.{arith}
use lib.Dec.{ltb}
use borrow.Author.Tests.{lt-ltb, le-ltb, ltb-true}
use Rattle.rules.specs.Words.{bit, sum, count_in}
use Rattle.rules.specs.Limits.{max_tasks}
use Rattle.rules.specs.Slot.{TaskSet, job_at, is_present, present, jobs_now}
use Rattle.rules.specs.declared.Run.{Run}
use Rattle.lists.specs.Tests.{and_left, and_right, and_both, and_no}
use Rattle.lists.specs.Sums.{count_cong, count_mono, count_none, count_lt}
use Rattle.choice.specs.Turns.{low_kind}
use Rattle.choice.specs.Keys.{key_of, no_key, Short, key_below, keys_below}

-- two tests that differ in one place only
count-one : (p q : TaskSet) (l j : ℕ) → j < l → p j ≡ false → q j ≡ true → ((t : ℕ) → t < l → (t ≡ j → ⊥) → p t ≡ q t)
    → count_in q 0 l ≡ suc (count_in p 0 l)
unfolding sum
count-one p q zero j h x y same = absurd (omega arith)
count-one p q (suc l) j h x y same =
    go (eq-or-lt_of_le {n = j} {m = l} (omega arith)) (λ k. count-one p q l j k x y (λ t u v. same t (omega arith) v))
  where
    go : (j ≡ l) ⊎ (j < l) → (j < l → count_in q 0 l ≡ suc (count_in p 0 l))
        → count_in q 0 l + bit (q (0 + l)) ≡ suc (count_in p 0 l + bit (p (0 + l)))
    go (inl e) ih =
        let z : 0 + l ≡ j = omega arith in
        omega (
          arith,
          count_cong p q 0 l (λ t u v. same t (omega arith) (λ f. omega arith)),
          ap bit (ap p z ∙ x),
          ap bit (ap q z ∙ y),
        )
    go (inr k) ih =
        let z : 0 + l ≡ l = omega arith in
        omega (arith, ih k, ap bit (ap p z ∙ same l (omega arith) (λ f. omega arith) ∙ ap q (sym z)))

module _ (policy now : ℕ) (r : Run) where
  abbrev there : TaskSet
  there i = is_present (job_at r i)

  abbrev pub key : ℕ → ℕ
  key i = key_of policy now (job_at r i) i

  -- the task is in the key, so that no two jobs have the same
  pub one_key : (i j : ℕ) → i < max_tasks → j < max_tasks → key i ≡ key j → i ≡ j
  one_key i j a b e = omega (arith, e)

  pub some_key : Short r → (i : ℕ) → i < max_tasks → key i < no_key
  some_key h i l = omega (arith, h i l, low_kind policy now (job_at r i))

  -- what is below a bound is below a higher one
  still_below : (a b : ℕ) → a ≤ b → (t : ℕ) → key_below policy now r a t ≡ true → key_below policy now r b t ≡ true
  still_below a b h t e =
      let z : key t < b = omega (arith, ltb-true (key t) a (and_right (there t) (ltb (key t) a) e)) in
      and_both (there t) (ltb (key t) b) (and_left (there t) (ltb (key t) a) e) (lt-ltb (key t) b z)

  pub keys_mono : (a b : ℕ) → a ≤ b → keys_below policy now r a ≤ keys_below policy now r b
  unfolding keys_below
  keys_mono a b h = count_mono (key_below policy now r a) (key_below policy now r b) 0 max_tasks (λ t u v. still_below a b h t)

  pub keys_none : keys_below policy now r 0 ≡ 0
  unfolding keys_below
  keys_none = count_none (key_below policy now r 0) 0 max_tasks (λ t u v. and_no (there t) (ltb (key t) 0) (λ a b.
      omega (arith, ltb-true (key t) 0 b)))

  pub keys_all : Short r → keys_below policy now r no_key ≡ jobs_now r
  unfolding keys_below jobs_now present
  keys_all h = count_cong (key_below policy now r no_key) (present r) 0 max_tasks (λ t u v.
      (let z : t < max_tasks = omega arith in
      ap (λ x. there t && x) (lt-ltb (key t) no_key (some_key h t z)) ∙ and-true (there t)))

  -- where the task at j has a job with a key from a on and below b, and there is no other such task, one key more is below b than below a
  pub one_more : (a b j : ℕ) → a ≤ b → j < max_tasks → there j ≡ true → a ≤ key j → key j < b
      → ((i : ℕ) → i < max_tasks → there i ≡ true → a ≤ key i → key i < b → i ≡ j)
      → keys_below policy now r b ≡ suc (keys_below policy now r a)
  unfolding keys_below
  one_more a b j h l e x y only =
      count-one (key_below policy now r a) (key_below policy now r b) max_tasks j l
      (ap (λ z. there j && z) (le-ltb (key j) a x) ∙ and_no (there j) false (λ u v. true≢false (sym v)))
      (and_both (there j) (ltb (key j) b) e (lt-ltb (key j) b y)) (λ t u v. go t u v (there t) refl)
    where
      go : (t : ℕ) → t < max_tasks → (t ≡ j → ⊥) → (c : Bool) → there t ≡ c → (c && ltb (key t) a) ≡ (c && ltb (key t) b)
      go t u v false q = refl
      go t u v true q = same (dec_lt (key t) a) (dec_lt (key t) b)
        where
          same : Dec (key t < a) → Dec (key t < b) → ltb (key t) a ≡ ltb (key t) b
          same (yes m) (yes n) = lt-ltb (key t) a m ∙ sym (lt-ltb (key t) b n)
          same (yes m) (no n) = absurd (omega arith)
          same (no m) (yes n) = absurd (v (only t u q (omega arith) n))
          same (no m) (no n) =
              let m' : a ≤ key t = omega arith in
              let n' : b ≤ key t = omega arith in
              le-ltb (key t) a m' ∙ sym (le-ltb (key t) b n')

  -- fewer keys are below that of a job than below what is above it
  pub keys_less : (b j : ℕ) → j < max_tasks → there j ≡ true → key j < b → keys_below policy now r (key j) < keys_below policy now r b
  unfolding keys_below
  keys_less b j l e h =
      count_lt (key_below policy now r (key j)) (key_below policy now r b) 0 max_tasks (λ t u v. still_below (key j) b (omega arith) t) j
      (omega arith) (omega arith) (and_no (there j) (ltb (key j) (key j)) (λ u v. omega (arith, ltb-true (key j) (key j) v)))
      (and_both (there j) (ltb (key j) b) e (lt-ltb (key j) b h))

  -- a bound right above the next key has one key more below it
  pub keys_up : (bound b k b' n : ℕ) → b' ≡ suc k → keys_below policy now r (suc k) ≡ suc (keys_below policy now r b)
      → keys_below policy now r b ≡ keys_below policy now r bound + n → keys_below policy now r b' ≡ keys_below policy now r bound + (n + 1)
  keys_up bound b k b' n e u v = rw e (omega (arith, u, v))
