-- Tests over a window of numbers: how their counts compare, and the first that holds: laws of `count_in` and `first_in` (rules, Words).
-- Nothing of scheduling. Every theorem here that counts slots or jobs cites them.
use Rattle.std.specs.Prelude.{◌≡◌, refl, Bool, true, false, ◌&&◌, ℕ, zero, suc, ◌+◌, ◌*◌, ◌-◌, min, ◌≤◌, ◌<◌, eqb, ltb, leb}
use Rattle.std.proofs.Common.{sym, ◌∙◌, add-zero, add-suc, arith, eqb-true, eq-eqb, le-leb, lt-ltb, le-ltb}
use Rattle.std.proofs.Math.Bool.{and-false}
use Rattle.std.proofs.lemmas.Bool.{lt-leb}
use Rattle.std.proofs.Math.Decide.{dec_lt, dec_le}
use Rattle.rules.specs.Words.{bit, sum, count_in, or_else, first_in}
use Rattle.lists.specs.Tests.{never_true, and_left, and_right}
use Rattle.lists.specs.Sums.{bit_le, sum_mono, sum_cong, sum-add, sum-mul, sum_const, count_cong, count_none, count_there}

-- a test that no two pass
pub count-one : (p : ℕ → Bool) (a l : ℕ) → ((i j : ℕ) → i < j → j < a + l → p i ≡ true → p j ≡ true → ⊥)
    → count_in p a l ≤ 1
unfolding sum
count-one p a zero h = omega arith
count-one p a (suc l) h = go (p (a + l)) refl (count-one p a l (λ i j x y. h i j x (omega arith)))
  where
    go : (b : Bool) → p (a + l) ≡ b → count_in p a l ≤ 1 → count_in p a l + bit b ≤ 1
    go false e ih = omega arith
    go true e ih = omega (arith, count_none p a l (λ t x y. never_true (p t) (λ q. h t (a + l) y (omega arith) q e)))

-- a test that one passes, and no two
pub count_only : (p : ℕ → Bool) (a l j : ℕ) → a ≤ j → j < a + l → p j ≡ true
    → ((i j : ℕ) → i < j → j < a + l → p i ≡ true → p j ≡ true → ⊥) → count_in p a l ≡ 1
count_only p a l j x y e h = omega (arith, count-one p a l h, count_there p a l j x y e)

-- ---- Markov's inequality: the slots in which f is over m have at least m + 1 each of f's sum
pub over_count : (f : ℕ → ℕ) (m a l : ℕ) → suc m * count_in (λ t. ltb m (f t)) a l ≤ sum f a l
over_count f m a l = rw (← (sum-mul (suc m) (λ t. bit (ltb m (f t))) a l)) (sum_mono _ _ a l (λ t p q. go t (dec_lt m (f t))))
  where
    go : (t : ℕ) → Dec (m < f t) → suc m * bit (ltb m (f t)) ≤ f t
    go t (yes h) = rw (lt-ltb m (f t) h) (omega arith)
    go t (no h) = rw (le-ltb m (f t) (omega arith)) (omega arith)

-- a slot is over m, or at most m
pub count_both : (f : ℕ → ℕ) (m a l : ℕ) → count_in (λ t. leb (f t) m) a l + count_in (λ t. ltb m (f t)) a l ≡ l
count_both f m a l =
    omega (
      arith,
      sum-add (λ t. bit (leb (f t) m)) (λ t. bit (ltb m (f t))) a l,
      sum_const 1 a l,
      sum_cong (λ t. bit (leb (f t) m) + bit (ltb m (f t))) (λ t. 1) a l (λ t p q. go t (dec_lt m (f t))),
    )
  where
    go : (t : ℕ) → Dec (m < f t) → bit (leb (f t) m) + bit (ltb m (f t)) ≡ 1
    go t (yes h) = rw (lt-ltb m (f t) h, lt-leb (f t) m h)
    go t (no h) = rw (le-ltb m (f t) (omega arith), le-leb (f t) m (omega arith))

-- ---- of n with distinct ranks below n, min(m, n) have a rank below m
module _ (p : ℕ → Bool) (rank : ℕ → ℕ) (l : ℕ)
    (below : (i : ℕ) → i < l → p i ≡ true → rank i < count_in p 0 l)
    (distinct : (i j : ℕ) → i < j → j < l → p i ≡ true → p j ≡ true → rank i ≡ rank j → ⊥) where
  abbrev firsts : ℕ → ℕ
  firsts m = count_in (λ i. p i && ltb (rank i) m) 0 l

  all_firsts : (m : ℕ) → count_in p 0 l ≤ m → firsts m ≡ count_in p 0 l
  all_firsts m h = count_cong _ _ 0 l (λ i x y. go i (omega arith) (p i) refl)
    where
      go : (i : ℕ) → i < l → (b : Bool) → p i ≡ b → (p i && ltb (rank i) m) ≡ p i
      go i x false e = rw e
      go i x true e =
          let k : rank i < m = omega (arith, below i x e) in
          rw (e, lt-ltb (rank i) m k)

  one_more : (m : ℕ) → firsts (suc m) ≤ suc (firsts m)
  one_more m =
      let this = count-one (λ i. p i && eqb (rank i) m) 0 l (λ i j x y a b.
      distinct i j x (omega arith) (and_left (p i) _ a) (and_left (p j) _ b)
      (eqb-true _ _ (and_right (p i) _ a) ∙ sym (eqb-true _ _ (and_right (p j) _ b))))
      in
      omega (
        arith,
        this,
        sum-add (λ i. bit (p i && ltb (rank i) m)) (λ i. bit (p i && eqb (rank i) m)) 0 l,
        sum_mono (λ i. bit (p i && ltb (rank i) (suc m))) (λ i. bit (p i && ltb (rank i) m) + bit (p i && eqb (rank i) m)) 0 l
            (λ i x y. go (p i) (rank i) (dec_lt (rank i) m) (dec_le (rank i) m)),
      )
    where
      go : (b : Bool) (r : ℕ) → Dec (r < m) → Dec (r ≤ m) → bit (b && ltb r (suc m)) ≤ bit (b && ltb r m) + bit (b && eqb r m)
      go false r x y = omega arith
      go true r (yes x) y = rw (lt-ltb r m x) (omega (arith, bit_le (ltb r (suc m))))
      go true r (no x) (yes y) =
          let e : r ≡ m = omega arith in
          rw (eq-eqb r m e) (omega (arith, bit_le (ltb r (suc m))))
      go true r (no x) (no y) = rw (le-ltb r (suc m) (omega arith)) (omega arith)

  at_most : (m : ℕ) → firsts m ≤ m
  at_most zero = omega (
    arith,
    count_none (λ i. p i && ltb (rank i) 0) 0 l (λ i x y. rw (le-ltb (rank i) 0 (omega arith)) (and-false (p i))),
  )
  at_most (suc m) = omega (arith, one_more m, at_most m)

  gap : (m d : ℕ) → firsts (m + d) ≤ firsts m + d
  gap m zero = rw (add-zero m) (omega arith)
  gap m (suc d) = rw (add-suc m d) (omega (arith, one_more (m + d), gap m d))

  pub ranked : (m : ℕ) → firsts m ≡ min m (count_in p 0 l)
  ranked m = go (dec_le (count_in p 0 l) m)
    where
      go : Dec (count_in p 0 l ≤ m) → firsts m ≡ min m (count_in p 0 l)
      go (yes h) = omega (arith, all_firsts m h)
      go (no h) =
          let n = count_in p 0 l in
          let z : m + (n - m) ≡ n = omega arith in
          let g : firsts n ≤ firsts m + (n - m) = rw z at (gap m (n - m)) in
          omega (arith, g, all_firsts n (omega arith), at_most m)

-- ---- the first that holds
pub first_cong : (p q : ℕ → Bool) (a l : ℕ) → ((t : ℕ) → a ≤ t → t < a + l → p t ≡ q t)
    → first_in p a l ≡ first_in q a l
unfolding first_in
first_cong p q a zero h = refl
first_cong p q a (suc l) h = rw (first_cong p q a l (λ t x y. h t x (omega arith)), h (a + l) (omega arith) (omega arith))

-- it lies in the window
pub first_in_lem : (p : ℕ → Bool) (a l : ℕ) → 0 < first_in p a l → (a < first_in p a l) × (first_in p a l ≤ a + l)
unfolding first_in
first_in_lem p a zero h = absurd (omega arith)
first_in_lem p a (suc l) h = go (first_in p a l) (p (a + l)) h (first_in_lem p a l)
  where
    go : (f : ℕ) (b : Bool) → 0 < or_else f b (suc (a + l)) → (0 < f → (a < f) × (f ≤ a + l))
        → (a < or_else f b (suc (a + l))) × (or_else f b (suc (a + l)) ≤ a + suc l)
    go zero true h ih = omega arith
    go zero false h ih = absurd (omega arith)
    go (suc f) b h ih = omega (arith, ih (omega arith))
