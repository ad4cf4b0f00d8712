-- Sums over a window of numbers, and counting in it: laws of `sum` and `count_in` (rules, Words). Nothing of scheduling.
-- Cited wherever jobs or slots are counted: by the records in the lent room and, in the crate theory, by part 1 of demand 3.
use Rattle.std.specs.Prelude.{◌≡◌, refl, Bool, true, false, ℕ, zero, suc, ◌+◌, ◌*◌, ◌≤◌, ◌<◌}
use Rattle.std.proofs.Common.{ap, sym, ◌∙◌, add-zero, add-suc, suc-add, add_assoc, arith}
use Rattle.std.proofs.lemmas.Bool.{false≢true}
use Rattle.std.proofs.Math.Decide.{dec_lt}
use Rattle.rules.specs.Words.{sum, bit, count_in}
use Rattle.lists.specs.Tests.{never_true}

pub bit_le : (b : Bool) → bit b ≤ 1
bit_le true = omega arith
bit_le false = omega arith

pub sum_split : (f : ℕ → ℕ) (a l k : ℕ) → sum f a (l + k) ≡ sum f a l + sum f (a + l) k
unfolding sum
sum_split f a l zero = rw (add-zero l) (omega arith)
sum_split f a l (suc k) = rw add-suc (omega (arith, sum_split f a l k, ap f (sym (add_assoc a l k))))

pub sum_head : (f : ℕ → ℕ) (a l : ℕ) → sum f a (suc l) ≡ f a + sum f (suc a) l
unfolding sum
sum_head f a zero = omega (arith, ap f (add-zero a))
sum_head f a (suc l) =
    let z : a + suc l ≡ suc a + l = omega arith in
    omega (arith, sum_head f a l, ap f z)

-- a sum from one further on
pub sum_shift : (f : ℕ → ℕ) (a l : ℕ) → sum f (suc a) l ≡ sum (λ t. f (suc t)) a l
unfolding sum
sum_shift f a zero = refl
sum_shift f a (suc l) = omega (arith, sum_shift f a l, ap f (suc-add a l))

pub sum_mono : (f g : ℕ → ℕ) (a l : ℕ) → ((t : ℕ) → a ≤ t → t < a + l → f t ≤ g t) → sum f a l ≤ sum g a l
unfolding sum
sum_mono f g a zero h = omega arith
sum_mono f g a (suc l) h = omega (arith, sum_mono f g a l (λ t p q. h t p (omega arith)), h (a + l) (omega arith) (omega arith))

pub sum_cong : (f g : ℕ → ℕ) (a l : ℕ) → ((t : ℕ) → a ≤ t → t < a + l → f t ≡ g t) → sum f a l ≡ sum g a l
unfolding sum
sum_cong f g a zero h = refl
sum_cong f g a (suc l) h = omega (arith, sum_cong f g a l (λ t p q. h t p (omega arith)), h (a + l) (omega arith) (omega arith))

pub sum-add : (f g : ℕ → ℕ) (a l : ℕ) → sum (λ t. f t + g t) a l ≡ sum f a l + sum g a l
unfolding sum
sum-add f g a zero = refl
sum-add f g a (suc l) = omega (arith, sum-add f g a l)

pub sum-mul : (c : ℕ) (f : ℕ → ℕ) (a l : ℕ) → sum (λ t. c * f t) a l ≡ c * sum f a l
unfolding sum
sum-mul c f a zero = omega arith
sum-mul c f a (suc l) = omega (arith, sum-mul c f a l)

pub sum_const : (c a l : ℕ) → sum (λ t. c) a l ≡ l * c
unfolding sum
sum_const c a zero = omega arith
sum_const c a (suc l) = omega (arith, sum_const c a l)

-- the two sums of a double sum may change places
pub sum_swap : (f : ℕ → ℕ → ℕ) (a l b n : ℕ) → sum (λ t. sum (λ i. f i t) b n) a l ≡ sum (λ i. sum (λ t. f i t) a l) b n
unfolding sum
sum_swap f a l b zero = omega (arith, sum_const 0 a l)
sum_swap f a l b (suc n) = omega (arith, sum-add (λ t. sum (λ i. f i t) b n) (λ t. f (b + n) t) a l, sum_swap f a l b n)

pub count_le : (p : ℕ → Bool) (a l : ℕ) → count_in p a l ≤ l
count_le p a l = omega (arith, sum_mono (λ t. bit (p t)) (λ t. 1) a l (λ t x y. bit_le (p t)), sum_const 1 a l)

-- ---- two counts
bit_mono : (a b : Bool) → (a ≡ true → b ≡ true) → bit a ≤ bit b
bit_mono true b h = rw (h refl) (omega arith)
bit_mono false b h = omega arith

pub count_cong : (p q : ℕ → Bool) (a l : ℕ) → ((t : ℕ) → a ≤ t → t < a + l → p t ≡ q t)
    → count_in p a l ≡ count_in q a l
count_cong p q a l h = sum_cong _ _ a l (λ t x y. ap bit (h t x y))

pub count_mono : (p q : ℕ → Bool) (a l : ℕ) → ((t : ℕ) → a ≤ t → t < a + l → p t ≡ true → q t ≡ true)
    → count_in p a l ≤ count_in q a l
count_mono p q a l h = sum_mono _ _ a l (λ t x y. bit_mono (p t) (q t) (h t x y))

pub count_lt : (p q : ℕ → Bool) (a l : ℕ) → ((t : ℕ) → a ≤ t → t < a + l → p t ≡ true → q t ≡ true)
    → (j : ℕ) → a ≤ j → j < a + l → p j ≡ false → q j ≡ true → count_in p a l < count_in q a l
unfolding sum
count_lt p q a zero h j x y pj qj = absurd (omega arith)
count_lt p q a (suc l) h j x y pj qj = go (dec_lt j (a + l)) (count_lt p q a l (λ t u v. h t u (omega arith)) j x)
  where
    go : Dec (j < a + l) → (j < a + l → p j ≡ false → q j ≡ true → count_in p a l < count_in q a l)
        → count_in p a l + bit (p (a + l)) < count_in q a l + bit (q (a + l))
    go (yes k) ih = omega (arith, ih k pj qj, bit_mono (p (a + l)) (q (a + l)) (h (a + l) (omega arith) (omega arith)))
    go (no k) ih =
        let e : a + l ≡ j = omega arith in
        omega (arith, count_mono p q a l (λ t u v. h t u (omega arith)), ap bit (ap p e ∙ pj), ap bit (ap q e ∙ qj))

-- ---- a count of none, and of some
pub count_none : (p : ℕ → Bool) (a l : ℕ) → ((t : ℕ) → a ≤ t → t < a + l → p t ≡ false) → count_in p a l ≡ 0
count_none p a l h = count_cong p (λ t. false) a l h ∙ omega (arith, sum_const 0 a l)

pub count_there : (p : ℕ → Bool) (a l j : ℕ) → a ≤ j → j < a + l → p j ≡ true → 1 ≤ count_in p a l
count_there p a l j x y e = omega (arith, count_lt (λ t. false) p a l (λ t u v q. absurd (false≢true q)) j x y refl e)

-- where none of the first n passes, none of them does
pub none_counted : (p : ℕ → Bool) (n i : ℕ) → count_in p 0 n ≡ 0 → i < n → p i ≡ false
none_counted p n i e h = never_true (p i) (λ q. omega (arith, e, count_there p 0 n i (omega arith) (omega arith) q))

pub count_some : (p : ℕ → Bool) (a l : ℕ) → 1 ≤ count_in p a l → (j : ℕ) × ((a ≤ j) × (j < a + l) × (p j ≡ true))
unfolding sum
count_some p a zero h = absurd (omega arith)
count_some p a (suc l) h = go (p (a + l)) refl (count_some p a l) h
  where
    go : (b : Bool) → p (a + l) ≡ b → (1 ≤ count_in p a l → (j : ℕ) × ((a ≤ j) × (j < a + l) × (p j ≡ true)))
        → 1 ≤ count_in p a l + bit b → (j : ℕ) × ((a ≤ j) × (j < a + suc l) × (p j ≡ true))
    go true q earlier z = (a + l, (omega arith, omega arith, q))
    go false q earlier z = let r = earlier (omega arith) in (r.0, (r.1.0, omega (arith, r.1.1), r.1.2))
