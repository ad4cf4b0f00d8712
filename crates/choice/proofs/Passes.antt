-- The passes over the tasks: for the next key from a bound on, for the last key below it, and for the set of those below it.
use mathlib.Core.Path.{◌≡◌, refl, ap, sym, ◌∙◌}
use mathlib.Core.Bool.{Bool, true, false, ◌&&◌, true≢false}
use mathlib.Core.Logic.{◌⊎◌, inl, inr}
use mathlib.Core.List.{List}
use Prim.Native.Nat.{ℕ, suc, ◌+◌, min, max, ◌≤◌, ◌<◌}
use native.Mathlib.Nat.{zero-add, eq-or-lt_of_le}
use native.Mathlib.Numerals.{add-one}
use native.Mathlib.Decide.{dec_lt}
use native.Mathlib.Omega.{arith}
use lib.Dec.{ltb, leb}
use lib.ListN.{set}
use borrow.Author.Tests.{lt-ltb, le-leb, ltb-true, leb-true}
use Rattle.rules.specs.Words.{bit, pick, sum, count_in}
use Rattle.rules.specs.Limits.{max_tasks}
use Rattle.rules.specs.Slot.{TaskSet, job_at, is_present, due_of, present, jobs_now}
use Rattle.rules.specs.declared.Run.{Run}
use Rattle.lists.specs.Tests.{and_left, and_right, and_both, and_no}
use Rattle.lists.specs.Sums.{count_mono, count_some, count_le}
use Rattle.lists.specs.Holds.{some_or_none}
use Rattle.choice.specs.Turns.{idle_due}
use Rattle.choice.specs.Keys.{key_of, Keyed, no_key, Short, key_below, keys_below, Marked}
use Rattle.choice.proofs.Marks.{nobody, Marking, mark_none, mark_store, mark_keep, mark_all}
use Rattle.choice.proofs.Extremes.{least, greatest, least_top, least_low, least_found, greatest_high, greatest_found}
use Rattle.choice.proofs.Keys.{key, one_key, some_key, one_more}

-- ---- the next key: the least that is not below the bound
abbrev key_from : ℕ → ℕ → Run → ℕ → TaskSet
key_from policy now r bound i = is_present (job_at r i) && leb bound (key_of policy now (job_at r i) i)

-- the key of a task, where it has one that is not below the bound
abbrev pub from_bound : ℕ → ℕ → Run → ℕ → ℕ → ℕ
from_bound policy now r bound i = pick (key_from policy now r bound i) (key policy now r i) no_key

-- x is the least so far, of the first i tasks
module _ (policy now : ℕ) (r : Run) (bound x i : ℕ) (w : x ≡ least no_key (from_bound policy now r bound) i) where
  next_more : (b : Bool) → key_from policy now r bound i ≡ b
      → pick b (min x (key policy now r i)) x ≡ least no_key (from_bound policy now r bound) (i + 1)
  unfolding least
  next_more true e = rw (add-one i, e, w)
  next_more false e = rw (add-one i, e) (omega (arith, w, least_top no_key (from_bound policy now r bound) i))

  pub next_take : (k : ℕ) → is_present (job_at r i) ≡ true → Keyed policy now (job_at r i) i k → bound ≤ k
      → min x k ≡ least no_key (from_bound policy now r bound) (i + 1)
  next_take k e q h =
      let z : bound ≤ key policy now r i = omega (arith, q.is) in
      rw q.is (next_more true (and_both _ _ e (le-leb _ _ z)))

  pub next_keep : (k : ℕ) → Keyed policy now (job_at r i) i k → k < bound → x ≡ least no_key (from_bound policy now r bound) (i + 1)
  next_keep k q h =
      next_more false (and_no (is_present (job_at r i)) _ (λ u v. omega (arith, q.is, leb-true bound (key policy now r i) v)))

  pub next_idle : is_present (job_at r i) ≡ false → x ≡ least no_key (from_bound policy now r bound) (i + 1)
  next_idle e = next_more false (rw e)

module _ (policy now : ℕ) (r : Run) (bound : ℕ) where
  some_from : keys_below policy now r bound < jobs_now r → (j : ℕ) × ((j < max_tasks) × (key_from policy now r bound j ≡ true))
  unfolding keys_below jobs_now present
  some_from h = go (some_or_none (key_from policy now r bound) max_tasks)
    where
      go : ((j : ℕ) × ((j < max_tasks) × (key_from policy now r bound j ≡ true)))
          ⊎ ((j : ℕ) → j < max_tasks → key_from policy now r bound j ≡ false)
          → (j : ℕ) × ((j < max_tasks) × (key_from policy now r bound j ≡ true))
      go (inl x) = x
      go (inr f) = absurd (omega (
        arith,
        h,
        count_mono (present r) (key_below policy now r bound) 0 max_tasks (λ t u v e.
            low t (omega arith) e (dec_lt (key policy now r t) bound)),
      ))
        where
          low : (t : ℕ) → t < max_tasks → is_present (job_at r t) ≡ true → Dec (key policy now r t < bound)
              → key_below policy now r bound t ≡ true
          low t u e (yes k) = and_both (is_present (job_at r t)) _ e (lt-ltb (key policy now r t) bound k)
          low t u e (no k) =
              let m : bound ≤ key policy now r t = omega arith in
              absurd (true≢false (sym (and_both (is_present (job_at r t)) _ e (le-leb bound (key policy now r t) m)) ∙ f t u))

  pub next_all : (x : ℕ) → Short r → keys_below policy now r bound < jobs_now r
      → x ≡ least no_key (from_bound policy now r bound) max_tasks
      → (keys_below policy now r (suc x) ≡ suc (keys_below policy now r bound)) × (x < no_key)
  next_all x h some w =
      let s = some_from some in
      let there : from_bound policy now r bound s.0 < no_key = rw s.1.1 (some_key policy now r h s.0 s.1.0) in
      let o = least_found no_key (from_bound policy now r bound) max_tasks s.0 s.1.0 there in
      at o.0 o.1.0 (omega (arith, w, there, least_low no_key (from_bound policy now r bound) max_tasks s.0 s.1.0))
      (key_from policy now r bound o.0) refl (o.1.1 ∙ sym w)
    where
      low : (t : ℕ) → t < max_tasks → key_from policy now r bound t ≡ true → x ≤ key policy now r t
      low t l e = omega (arith, w, rw e at (least_low no_key (from_bound policy now r bound) max_tasks t l))

      at : (j : ℕ) → j < max_tasks → x < no_key → (b : Bool) → key_from policy now r bound j ≡ b → from_bound policy now r bound j ≡ x
          → (keys_below policy now r (suc x) ≡ suc (keys_below policy now r bound)) × (x < no_key)
      at j l less false f e = absurd (omega (arith, less, rw f at e))
      at j l less true f q =
          let e : key policy now r j ≡ x = rw f at q in
          let from : bound ≤ key policy now r j =
          leb-true bound (key policy now r j) (and_right (is_present (job_at r j)) (leb bound (key policy now r j)) f) in (
            one_more policy now r bound (suc x) j (omega (arith, e, from)) l (and_left (is_present (job_at r j)) _ f) from
                (omega (arith, e))
                (λ t u y a b.
                one_key policy now r t j u l
                (omega (arith, e, b, low t u (and_both (is_present (job_at r t)) _ y (le-leb bound (key policy now r t) a))))),
            less,
          )

-- ---- the last key: the greatest below the bound
-- the key of a task, where it has one below the bound
abbrev pub under_bound : ℕ → ℕ → Run → ℕ → ℕ → ℕ
under_bound policy now r bound i = pick (key_below policy now r bound i) (key policy now r i) 0

-- x is the greatest so far, of the first i tasks
module _ (policy now : ℕ) (r : Run) (bound x i : ℕ) (w : x ≡ greatest (under_bound policy now r bound) i) where
  last_more : (b : Bool) → key_below policy now r bound i ≡ b
      → pick b (max x (key policy now r i)) x ≡ greatest (under_bound policy now r bound) (i + 1)
  unfolding greatest
  last_more true e = rw (add-one i, e, w)
  last_more false e = rw (add-one i, e) (omega (arith, w))

  pub last_take : (k : ℕ) → is_present (job_at r i) ≡ true → Keyed policy now (job_at r i) i k → k < bound
      → max x k ≡ greatest (under_bound policy now r bound) (i + 1)
  last_take k e q h =
      let z : key policy now r i < bound = omega (arith, q.is) in
      rw q.is (last_more true (and_both _ _ e (lt-ltb _ _ z)))

  pub last_keep : (k : ℕ) → Keyed policy now (job_at r i) i k → bound ≤ k → x ≡ greatest (under_bound policy now r bound) (i + 1)
  last_keep k q h =
      last_more false (and_no (is_present (job_at r i)) _ (λ u v. omega (arith, q.is, ltb-true (key policy now r i) bound v)))

  pub last_idle : is_present (job_at r i) ≡ false → x ≡ greatest (under_bound policy now r bound) (i + 1)
  last_idle e = last_more false (rw e)

module _ (policy now : ℕ) (r : Run) (bound : ℕ) where
  pub last_all : (x : ℕ) → 0 < keys_below policy now r bound → x ≡ greatest (under_bound policy now r bound) max_tasks
      → suc (keys_below policy now r x) ≡ keys_below policy now r bound
  unfolding keys_below
  last_all x some w =
      let s = count_some (key_below policy now r bound) 0 max_tasks (omega (arith, some)) in
      let l : s.0 < max_tasks = omega (arith, s.1.1) in
      let o = greatest_found (under_bound policy now r bound) max_tasks s.0 l in
      at o.0 o.1.0 (key_below policy now r bound o.0) refl (o.1.1 ∙ sym w) s.0 l s.1.2
    where
      high : (t : ℕ) → t < max_tasks → key_below policy now r bound t ≡ true → key policy now r t ≤ x
      high t l e = omega (arith, w, rw e at (greatest_high (under_bound policy now r bound) max_tasks t l))

      found : (j : ℕ) → j < max_tasks → key_below policy now r bound j ≡ true → key policy now r j ≡ x
          → suc (keys_below policy now r x) ≡ keys_below policy now r bound
      found j l f e =
          let low : key policy now r j < bound =
          ltb-true (key policy now r j) bound (and_right (is_present (job_at r j)) (ltb (key policy now r j) bound) f) in
          sym
          (one_more policy now r x bound j (omega (arith, e, low)) l (and_left (is_present (job_at r j)) _ f) (omega (arith, e)) low
          (λ t u y a b.
          one_key policy now r t j u l
          (omega (arith, e, a, high t u (and_both (is_present (job_at r t)) _ y (lt-ltb (key policy now r t) bound b))))))

      -- where it is 0 for want of a key, the key that is there, at s, is 0 too
      at : (j : ℕ) → j < max_tasks → (b : Bool) → key_below policy now r bound j ≡ b → under_bound policy now r bound j ≡ x
          → (s : ℕ) → s < max_tasks → key_below policy now r bound s ≡ true
          → suc (keys_below policy now r x) ≡ keys_below policy now r bound
      at j k true f e s l t = found j k f (rw f at e)
      at j k false f e s l t = found s l t (omega (arith, high s l t, rw f at e))

-- ---- the set of those below the bound, as a pass over the tasks marks and counts them
pub record MarkedTo (policy now : ℕ) (r : Run) (bound n : ℕ) (runs : List Bool) (i : ℕ) : Type 0 where
  pub count : n ≡ count_in (key_below policy now r bound) 0 i
  pub marked : Marking (key_below policy now r bound) runs i
  pub short : (k : ℕ) → k < i → due_of (job_at r k) < 4294967296

pub marks_none : (policy now : ℕ) (r : Run) (bound : ℕ) → MarkedTo policy now r bound 0 nobody 0
unfolding sum
marks_none policy now r bound =
    record { count = refl; marked = mark_none (key_below policy now r bound); short = λ k l. absurd (omega arith) }

module _ (policy now : ℕ) (r : Run) (bound n : ℕ) (runs : List Bool) (i : ℕ) (w : MarkedTo policy now r bound n runs i) where
  pub marks_few : n ≤ i
  marks_few = omega (arith, w.count, count_le (key_below policy now r bound) 0 i)

  module _ (l : i < max_tasks) where
    short_more : due_of (job_at r i) < 4294967296 → (k : ℕ) → k < i + 1 → due_of (job_at r k) < 4294967296
    short_more h k m = go (eq-or-lt_of_le {n = k} {m = i} (omega arith))
      where
        go : (k ≡ i) ⊎ (k < i) → due_of (job_at r k) < 4294967296
        go (inl e) = rw e h
        go (inr u) = w.short k u

    counted : (b : Bool) → key_below policy now r bound i ≡ b → n + bit b ≡ count_in (key_below policy now r bound) 0 (i + 1)
    unfolding sum
    counted b e = rw (add-one i, zero-add i, e) (omega (arith, w.count))

    pub marks_yes : (k : ℕ) → is_present (job_at r i) ≡ true → Keyed policy now (job_at r i) i k → k < bound
        → MarkedTo policy now r bound (n + 1) (set runs i true) (i + 1)
    marks_yes k e q h =
        let z : key policy now r i < bound = omega (arith, q.is) in
        let t : key_below policy now r bound i ≡ true = and_both (is_present (job_at r i)) _ e (lt-ltb _ _ z) in
        record {
          count = counted true t;
          marked = mark_store (key_below policy now r bound) runs i true l w.marked (sym t);
          short = short_more q.short;
        }

    not-marked : key_below policy now r bound i ≡ false → due_of (job_at r i) < 4294967296 → MarkedTo policy now r bound n runs (i + 1)
    not-marked t h = record {
      count = omega (arith, counted false t);
      marked = mark_keep (key_below policy now r bound) runs i l w.marked t;
      short = short_more h;
    }

    pub marks_no : (k : ℕ) → Keyed policy now (job_at r i) i k → bound ≤ k → MarkedTo policy now r bound n runs (i + 1)
    marks_no k q h =
        not-marked (and_no (is_present (job_at r i)) _ (λ u v. omega (arith, q.is, ltb-true (key policy now r i) bound v))) q.short

    pub marks_idle : is_present (job_at r i) ≡ false → MarkedTo policy now r bound n runs (i + 1)
    marks_idle e = not-marked (rw e) (idle_due (job_at r i) e)

  pub marks_all : max_tasks ≤ i → Marked policy now r bound n runs
  unfolding keys_below
  marks_all l =
      let e : i ≡ max_tasks = omega (arith, l, w.marked.within) in
      record {
        count = w.count ∙ ap (count_in (key_below policy now r bound) 0) e;
        set = mark_all (key_below policy now r bound) runs i l w.marked;
        short = λ k u. w.short k (omega arith);
      }
