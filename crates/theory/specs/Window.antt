-- Jobs released at least T apart, each there for at most D ≤ T slots, are there in at most `availability T D l` (rules, Counts) slots of
-- a window of length l: the heart of source document 001, Lemma 2. Enough sums it over the tasks.
use Rattle.std.specs.Prelude.{◌≡◌, refl, Bool, true, false, ◌&&◌, ◌||◌, ℕ, zero, suc, ◌+◌, ◌-◌, min, max, ◌≤◌, ◌<◌, leb, ltb}
use Rattle.std.proofs.Common.{ap, le-leb, lt-ltb, le-ltb}
use Rattle.std.proofs.Math.Bool.{and-false, or-false}
use mathlib.Core.List.{List, [], ◌∷◌}
use Rattle.std.proofs.Math.Decide.{dec_lt, dec_le}
use native.Mathlib.Omega.{arith}
use Rattle.std.proofs.lemmas.Bool.{lt-leb}
use Rattle.rules.specs.Words.{sum, bit, count_in}
use Rattle.lists.specs.Sums.{sum_split, sum_cong, sum_const}
use Rattle.rules.specs.Counts.{availability}
use Rattle.theory.specs.Avail.{avail_lip, avail_mono, avail_period, avail_min}

-- t is one of the D slots from r on
abbrev pub spans : ℕ → ℕ → ℕ → Bool
spans D r t = leb r t && ltb t (r + D)

-- t is one of the D slots of some release
unfoldable pub spanned : List ℕ → ℕ → ℕ → Bool
spanned [] D t = false
spanned (r ∷ rs) D t = spans D r t || spanned rs D t

-- the releases are in order, the first at x or later, each at least T after the one before
abbrev pub Sporadic : ℕ → ℕ → List ℕ → Type 0
Sporadic T x [] = Unit {0}
Sporadic T x (r ∷ rs) = (x ≤ r) × Sporadic T (r + T) rs

pub span_in : (D r t : ℕ) → r ≤ t → t < r + D → spans D r t ≡ true
span_in D r t h k = rw (le-leb r t h, lt-ltb t (r + D) k)

pub span_early : (D r t : ℕ) → t < r → spans D r t ≡ false
span_early D r t h = rw (lt-leb r t h)

pub span_late : (D r t : ℕ) → r + D ≤ t → spans D r t ≡ false
span_late D r t h = rw (le-ltb t (r + D) h) (and-false (leb r t))

-- one job's slots of a window
pub span_count : (D r a l : ℕ) → count_in (spans D r) a l ≤ min (r + D) (a + l) - max r a
unfolding sum
span_count D r a zero = omega arith
span_count D r a (suc l) = go (span_count D r a l) (dec_le r (a + l)) (dec_lt (a + l) (r + D))
  where
    go : count_in (spans D r) a l ≤ min (r + D) (a + l) - max r a → Dec (r ≤ a + l) → Dec (a + l < r + D)
        → count_in (spans D r) a (suc l) ≤ min (r + D) (a + suc l) - max r a
    go ih (yes h) (yes k) = rw (span_in D r (a + l) h k) (omega arith)
    go ih (yes h) (no k) = rw (span_late D r (a + l) (omega arith)) (omega arith)
    go ih (no h) k = rw (span_early D r (a + l) (omega arith)) (omega arith)

pub spanned_early : (T D x : ℕ) (rs : List ℕ) → Sporadic T x rs → (t : ℕ) → t < x → spanned rs D t ≡ false
unfolding spanned
spanned_early T D x [] s t h = refl
spanned_early T D x (r ∷ rs) s t h = rw (span_early D r t (omega arith)) (spanned_early T D (r + T) rs s.1 t (omega arith))

module _ (T D : ℕ) (pos : 0 < D) (fits : D ≤ T) where
  -- before the second release only the first job is there, and after the first job's period only the others
  head_only : (x r : ℕ) (rs : List ℕ) → Sporadic T x (r ∷ rs) → (a l : ℕ) → a + l ≤ r + T
      → count_in (spanned (r ∷ rs) D) a l ≡ count_in (spans D r) a l
  unfolding spanned
  head_only x r rs s a l h = sum_cong _ _ a l
      (λ t p q. rw (spanned_early T D (r + T) rs s.1 t (omega arith)) (ap bit (or-false (spans D r t))))

  tail_only : (r : ℕ) (rs : List ℕ) (a l : ℕ) → r + T ≤ a → count_in (spanned (r ∷ rs) D) a l ≡ count_in (spanned rs D) a l
  unfolding spanned
  tail_only r rs a l h = sum_cong _ _ a l (λ t p q. rw (span_late D r t (omega arith)))

  pub window : (x : ℕ) (rs : List ℕ) → Sporadic T x rs → (a l : ℕ) → count_in (spanned rs D) a l ≤ availability T D l
  unfolding spanned
  window x [] s a l = omega (arith, sum_const 0 a l)
  window x (r ∷ rs) s a l = go (window (r + T) rs s.1) (dec_le (r + T) a) (dec_le (a + l) (r + T))
    where
      past : (k u : ℕ) → a + k ≡ r + T → k + u ≡ l → count_in (spanned rs D) (a + k) u ≤ availability T D u
          → count_in (spanned (r ∷ rs) D) a l ≤ availability T D l
      past k u e f ih =
          let z : 0 < T = omega arith in
          rw (← f) (omega (
            arith,
            sum_split (λ t. bit (spanned (r ∷ rs) D t)) a k u,
            head_only x r rs s a k (omega arith),
            tail_only r rs (a + k) u (omega arith),
            span_count D r a k,
            avail_period T D z fits u,
            avail_mono T D z fits {x = u} {y = k + u} (omega arith),
            avail_mono T D z fits {x = u + T} {y = k + u + (a - r)} (omega arith),
            avail_lip T D z fits (k + u) (a - r),
          ))

      go : ((b u : ℕ) → count_in (spanned rs D) b u ≤ availability T D u) → Dec (r + T ≤ a) → Dec (a + l ≤ r + T)
          → count_in (spanned (r ∷ rs) D) a l ≤ availability T D l
      go ih (yes h) k = rw (tail_only r rs a l h) (ih a l)
      go ih (no h) (yes k) = rw (head_only x r rs s a l k)
          (omega (arith, span_count D r a l, avail_min T D (omega arith) fits l))
      go ih (no h) (no k) = past (r + T - a) (l - (r + T - a)) (omega arith) (omega arith) (ih _ _)
