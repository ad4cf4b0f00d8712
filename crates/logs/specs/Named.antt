-- A set and the tasks that it names, rising (`set_named`, `tasks_in`, `rising` of rules, Log): each comes from the other. For LogLines and
-- Exact.
use Rattle.std.specs.Prelude.{◌≡◌, refl, Bool, true, false, ◌&&◌, ◌⊎◌, ltb, leb}
use Rattle.std.proofs.Common.{sym, ap₂, ◌∙◌, inl, inr, eq-or-lt_of_le, arith}
use mathlib.Core.List.{List, [], ◌∷◌}
use Prim.Native.Nat.{ℕ, zero, suc, ◌+◌, ◌^◌, ◌≤◌, ◌<◌}
use borrow.Author.Tests.{eq-eqb, ne_eqb, lt-ltb, ltb-true, le-leb, leb-true}
use Rattle.rules.specs.Limits.{max_tasks}
use Rattle.rules.specs.Words.{pick}
use Rattle.rules.specs.Slot.{TaskSet}
use Rattle.rules.specs.Log.{set_named, rise_past, rising, name_tasks}
use Rattle.rules.specs.Slot.{tasks_from, tasks_in}
use Rattle.lists.specs.Tests.{and_left, and_right}
use Rattle.lists.specs.Lists.{picked, tasks_cong}
use Rattle.texts.specs.Fields.{All}
use Rattle.lists.specs.Tests.{and_both}

-- ---- from a set to its tasks
-- no task below k + 1 is named
named_below : (s : TaskSet) (n k i : ℕ) → i < k → set_named (tasks_from s k n) i ≡ false
unfolding tasks_from set_named
named_below s zero k i h = refl
named_below s (suc n) k i h =
    picked (λ (l : List ℕ). set_named l i ≡ false) (s k) (suc k ∷ tasks_from s (suc k) n) (tasks_from s (suc k) n)
    (λ e. rw (ne_eqb (suc k) (suc i) (λ q. omega arith)) (named_below s n (suc k) i (omega arith)))
    (λ e. named_below s n (suc k) i (omega arith))

-- each task of the set is named, and no other
named_from : (s : TaskSet) (n k i : ℕ) → k ≤ i → i < k + n → set_named (tasks_from s k n) i ≡ s i
unfolding tasks_from set_named
named_from s zero k i h l = absurd (omega arith)
named_from s (suc n) k i h l = go (eq-or-lt_of_le {n = k} {m = i} h) (λ x. named_from s n (suc k) i x (omega arith))
  where
    here : (b : Bool) → s k ≡ b → set_named (pick b (suc k ∷ tasks_from s (suc k) n) (tasks_from s (suc k) n)) k ≡ b
    here true e = rw (eq-eqb (suc k) (suc k) refl)
    here false e = named_below s n (suc k) k (omega arith)

    go : (k ≡ i) ⊎ (k < i) → (suc k ≤ i → set_named (tasks_from s (suc k) n) i ≡ s i)
        → set_named (pick (s k) (suc k ∷ tasks_from s (suc k) n) (tasks_from s (suc k) n)) i ≡ s i
    go (inl e) more = rw (← e) (here (s k) refl)
    go (inr g) more =
        let ih = more (omega arith) in
        picked (λ (l : List ℕ). set_named l i ≡ s i) (s k) (suc k ∷ tasks_from s (suc k) n) (tasks_from s (suc k) n)
        (λ e. rw (ne_eqb (suc k) (suc i) (λ q. omega arith)) ih)
        (λ e. ih)

pub named_tasks : (s : TaskSet) (i : ℕ) → i < max_tasks → set_named (tasks_in s) i ≡ s i
unfolding tasks_in
named_tasks s i h = named_from s max_tasks 0 i (omega arith) (omega arith)

-- they rise
rise_from : (s : TaskSet) (n k m : ℕ) → m ≤ k → rise_past m (tasks_from s k n) ≡ true
unfolding tasks_from rise_past
rise_from s zero k m h = refl
rise_from s (suc n) k m h =
    picked (λ (l : List ℕ). rise_past m l ≡ true) (s k) (suc k ∷ tasks_from s (suc k) n) (tasks_from s (suc k) n)
    (λ e. rw (lt-ltb m (suc k) (omega arith)) (rise_from s n (suc k) (suc k) (omega arith)))
    (λ e. rise_from s n (suc k) m (omega arith))

past-rising : (m : ℕ) (ns : List ℕ) → rise_past m ns ≡ true → rising ns ≡ true
unfolding rising rise_past
past-rising m [] e = refl
past-rising m (n ∷ ns) e = and_right (ltb m n) _ e

pub tasks_rise : (s : TaskSet) → rising (tasks_in s) ≡ true
unfolding tasks_in
tasks_rise s = past-rising 0 (tasks_from s 0 max_tasks) (rise_from s max_tasks 0 0 (omega arith))

-- they are tasks
names_from : (s : TaskSet) (n k : ℕ) → k + n ≤ max_tasks → name_tasks (tasks_from s k n) ≡ true
unfolding tasks_from name_tasks
names_from s zero k h = refl
names_from s (suc n) k h =
    let ih = names_from s n (suc k) (omega arith) in
    picked (λ (l : List ℕ). name_tasks l ≡ true) (s k) (suc k ∷ tasks_from s (suc k) n) (tasks_from s (suc k) n)
    (λ e. rw (le-leb 1 (suc k) (omega arith), le-leb (suc k) max_tasks (omega arith)) ih)
    (λ e. ih)

pub tasks_named : (s : TaskSet) → name_tasks (tasks_in s) ≡ true
unfolding tasks_in
tasks_named s = names_from s max_tasks 0 (omega arith)

-- ---- from rising tasks to their set
named-not : (m : ℕ) (ns : List ℕ) (i : ℕ) → rise_past m ns ≡ true → i < m → set_named ns i ≡ false
unfolding rise_past set_named
named-not m [] i e h = refl
named-not m (n ∷ ns) i e h =
    let l = ltb-true m n (and_left (ltb m n) _ e) in
    rw (ne_eqb n (suc i) (λ q. omega arith)) (named-not n ns i (and_right (ltb m n) _ e) (omega arith))

first_name : (n : ℕ) (ns : List ℕ) → name_tasks (n ∷ ns) ≡ true → (1 ≤ n) × (n ≤ max_tasks) × (name_tasks ns ≡ true)
unfolding name_tasks
first_name n ns e =
    let a = and_left (leb 1 n && leb n max_tasks) (name_tasks ns) e in (
      leb-true 1 n (and_left (leb 1 n) _ a),
      leb-true n max_tasks (and_right (leb 1 n) _ a),
      and_right (leb 1 n && leb n max_tasks)
          (name_tasks ns) e,
    )

-- the first of rising numbers, and those behind it
rise_first : (k x : ℕ) (xs : List ℕ) → rise_past k (x ∷ xs) ≡ true → (k < x) × (rise_past x xs ≡ true)
unfolding rise_past
rise_first k x xs e = (ltb-true k x (and_left (ltb k x) (rise_past x xs) e), and_right (ltb k x) (rise_past x xs) e)

-- nothing follows any number
rise_none : (k : ℕ) → rise_past k [] ≡ true
unfolding rise_past
rise_none k = refl

tasks_of-named : (n k : ℕ) (ns : List ℕ) → k + n ≡ max_tasks → rise_past k ns ≡ true → name_tasks ns ≡ true
    → tasks_from (set_named ns) k n ≡ ns
unfolding tasks_from
tasks_of-named zero k [] z e w = refl
tasks_of-named zero k (x ∷ xs) z e w =
    absurd (omega (arith, (first_name x xs w).1, (rise_first k x xs e).0))
tasks_of-named (suc n) k [] z e w = none (tasks_of-named n (suc k) [] (omega arith) (rise_none (suc k)) w)
  where
    none : tasks_from (set_named []) (suc k) n ≡ [] → pick (set_named [] k) (suc k ∷ tasks_from (set_named []) (suc k) n)
        (tasks_from (set_named []) (suc k) n) ≡ []
    none q = unfold set_named in q
tasks_of-named (suc n) k (x ∷ xs) z e w =
    go (rise_first k x xs e).0
    (rise_first k x xs e).1
    (tasks_of-named n (suc k) xs (omega arith)) (tasks_of-named n (suc k) (x ∷ xs) (omega arith))
  where
    others : x ≡ suc k → (i : ℕ) → suc k ≤ i → i < suc k + n → set_named (x ∷ xs) i ≡ set_named xs i
    others q i a b = unfold set_named in rw (ne_eqb x (suc i) (λ p. omega arith))

    here : x ≡ suc k → set_named (x ∷ xs) k ≡ true
    here q = unfold set_named in rw (eq-eqb x (suc k) q)

    go : k < x → rise_past x xs ≡ true
        → (rise_past (suc k) xs ≡ true → name_tasks xs ≡ true → tasks_from (set_named xs) (suc k) n ≡ xs)
        → (rise_past (suc k) (x ∷ xs) ≡ true → name_tasks (x ∷ xs) ≡ true → tasks_from (set_named (x ∷ xs)) (suc k) n
        ≡ x ∷ xs)
        → pick (set_named (x ∷ xs) k) (suc k ∷ tasks_from (set_named (x ∷ xs)) (suc k) n) (tasks_from (set_named (x ∷ xs)) (suc k) n)
        ≡ x ∷ xs
    go l p ih jh = at (eq-or-lt_of_le {n = suc k} {m = x} (omega arith))
      where
        at : (suc k ≡ x) ⊎ (suc k < x) → pick (set_named (x ∷ xs) k) (suc k ∷ tasks_from (set_named (x ∷ xs)) (suc k) n)
            (tasks_from (set_named (x ∷ xs)) (suc k) n) ≡ x ∷ xs
        at (inl q) = rw (here (sym q))
            (ap₂ ◌∷◌ q (tasks_cong (set_named (x ∷ xs)) (set_named xs) n (suc k) (others (sym q))
            ∙ ih (rw (sym q) at p) (first_name x xs w).2))
        at (inr q) =
            let r : rise_past (suc k) (x ∷ xs) ≡ true = unfold rise_past in and_both (ltb (suc k) x) _ (lt-ltb (suc k) x q) p in
            rw (named-not (suc k) (x ∷ xs) k r (omega arith)) (jh r w)

rise_past-zero : (ns : List ℕ) → rising ns ≡ true → name_tasks ns ≡ true → rise_past 0 ns ≡ true
unfolding rising rise_past
rise_past-zero [] e w = refl
rise_past-zero (n ∷ ns) e w =
    let l : 0 < n = (first_name n ns w).0 in
    and_both (ltb 0 n) _ (lt-ltb 0 n l) e

-- rising tasks are those of the set that they name
pub tasks_back : (ns : List ℕ) → rising ns ≡ true → name_tasks ns ≡ true → tasks_in (set_named ns) ≡ ns
unfolding tasks_in
tasks_back ns e w = tasks_of-named max_tasks 0 ns refl (rise_past-zero ns e w) w

-- ---- the tasks of a set are small numbers
small_from : (s : TaskSet) (n k : ℕ) → k + n ≤ max_tasks → All (λ m. m < 10 ^ 9) (tasks_from s k n)
unfolding tasks_from All
small_from s zero k h = tt
small_from s (suc n) k h =
    let ih = small_from s n (suc k) (omega arith) in
    picked (λ (l : List ℕ). All (λ m. m < 10 ^ 9) l) (s k) (suc k ∷ tasks_from s (suc k) n) (tasks_from s (suc k) n)
    (λ e. (omega arith, ih)) (λ e. ih)

pub tasks_small : (s : TaskSet) → All (λ m. m < 10 ^ 9) (tasks_in s)
unfolding tasks_in
tasks_small s = small_from s max_tasks 0 (omega arith)
