-- The first fault of many tests, as a loop or a row of tests finds it: laws of `unless`, `or_next`, `first` and `first_of` (rules,
-- Refusals).
-- A row is proved here once for any list of tests. Cited by Passing, Legal and the proofs of every call's checks.
use Rattle.std.specs.Prelude.{◌≡◌, refl, Bool, true, false, ◌⊎◌, List, [], ◌∷◌, ◌++◌, ℕ, zero, suc, ◌+◌, ◌-◌, ◌<◌, eqb}
use Rattle.std.specs.Prelude.{Result, Ok, Err}
use Rattle.std.proofs.Common.{ap, ap₂, sym, ◌∙◌, inl, inr, eq-or-lt_of_le, add-one, add-zero, arith, eqb-true, eq-eqb, ne_eqb}
use Rattle.std.proofs.lemmas.Bool.{eqb-false}
use Rattle.rules.specs.declared.Fault.{Fault}
use Rattle.rules.specs.Words.{pick}
use Rattle.rules.specs.Refusals.{fault_of, no_fault, unless_fault, checked, unless, or_next, first, first_of}

-- ---- one test
pub unless_clear : (b : Bool) (n p : ℕ) → 0 < n → (unless b n p).number ≡ 0 → b ≡ true
unless_clear true n p h e = refl
unless_clear false n p h e = absurd (omega arith)

pub unless_none : (b : Bool) (n p : ℕ) → 0 < n → (unless b n p).number ≡ 0 → unless b n p ≡ no_fault
unless_none true n p h e = refl
unless_none false n p h e = absurd (omega arith)

-- ---- two tests
pub next_none : (f g : Fault) → f.number ≡ 0 → or_next f g ≡ g
unfolding or_next
next_none f g e = rw (eq-eqb f.number 0 e)

pub next_some : (f g : Fault) → (f.number ≡ 0 → ⊥) → or_next f g ≡ f
unfolding or_next
next_some f g h = rw (ne_eqb f.number 0 h)

-- the second is asked only where the first finds nothing
pub next_same : (f g h : Fault) → (f.number ≡ 0 → g ≡ h) → or_next f g ≡ or_next f h
unfolding or_next
next_same f g h e = go (eqb f.number 0) refl
  where
    go : (b : Bool) → eqb f.number 0 ≡ b → pick b g f ≡ pick b h f
    go true q = e (eqb-true _ _ q)
    go false q = refl

pub next_clear : (f g : Fault) → (or_next f g).number ≡ 0 → (f.number ≡ 0) × (g.number ≡ 0)
unfolding or_next
next_clear f g = go (eqb f.number 0) refl
  where
    go : (b : Bool) → eqb f.number 0 ≡ b → (pick b g f).number ≡ 0 → (f.number ≡ 0) × (g.number ≡ 0)
    go true q e = (eqb-true _ _ q, e)
    go false q e = absurd (eqb-false _ _ q e)

-- x is what a first test was found to give: where that is a fault, nothing after it is asked
pub stop : (x f g : Fault) → x ≡ f → (x.number ≡ 0 → ⊥) → x ≡ or_next f g
stop x f g e h = e ∙ sym (next_some f g (λ q. h (ap (λ (u : Fault). u.number) e ∙ q)))

next_assoc : (f g h : Fault) → or_next (or_next f g) h ≡ or_next f (or_next g h)
unfolding or_next
next_assoc f g h = go (eqb f.number 0) refl
  where
    go : (b : Bool) → eqb f.number 0 ≡ b → pick (eqb (pick b g f).number 0) h (pick b g f)
        ≡ pick b (pick (eqb g.number 0) h g) f
    go true q = refl
    go false q = rw q

-- ---- a row of tests, of which the first that fails is given
-- each finds nothing
abbrev pub AllClear : List Fault → Type 0
AllClear [] = Unit
AllClear (f ∷ fs) = (f.number ≡ 0) × AllClear fs

-- a row that finds nothing: so does each of its tests
pub row_clear : (fs : List Fault) → (first fs).number ≡ 0 → AllClear fs
row_clear [] e = tt
row_clear (f ∷ fs) e = let w = next_clear f (first fs) e in (w.0, row_clear fs w.1)

-- and the other way round
pub row_none : (fs : List Fault) → AllClear fs → first fs ≡ no_fault
row_none [] e = refl
row_none (f ∷ fs) e = next_none f (first fs) e.0 ∙ row_none fs e.1

-- two rows, one after the other, are one row
pub row_join : (fs gs : List Fault) → or_next (first fs) (first gs) ≡ first (fs ++ gs)
row_join [] gs = next_none no_fault (first gs) refl
row_join (f ∷ fs) gs = next_assoc f (first fs) (first gs) ∙ ap (or_next f) (row_join fs gs)

-- x is what a row was found to give: where that is a fault it is also what the row and another after it give, and else each test passed
pub row_stop : (x : Fault) (fs gs : List Fault) → x ≡ first fs → (x.number ≡ 0 → ⊥) → x ≡ first (fs ++ gs)
row_stop x fs gs e h = stop x (first fs) (first gs) e h ∙ row_join fs gs

pub row_passed : (x : Fault) (fs : List Fault) → x ≡ first fs → x.number ≡ 0 → AllClear fs
row_passed x fs e h = row_clear fs (ap (λ (u : Fault). u.number) (sym e) ∙ h)

-- ---- the same test on each of many
pub first_of_clear : (f : ℕ → Fault) (n : ℕ) → (first_of f n).number ≡ 0 → (j : ℕ) → j < n → (f j).number ≡ 0
unfolding first_of
first_of_clear f zero e j h = absurd (omega arith)
first_of_clear f (suc n) e j h = go (first_of_clear f n (next_clear (first_of f n) (f n) e).0 j)
    (eq-or-lt_of_le {n = j} {m = n} (omega arith))
  where
    go : (j < n → (f j).number ≡ 0) → (j ≡ n) ⊎ (j < n) → (f j).number ≡ 0
    go ih (inl q) = rw q (next_clear (first_of f n) (f n) e).1
    go ih (inr q) = ih q

pub none_yet : (f : ℕ → Fault) → first_of f 0 ≡ no_fault
unfolding first_of
none_yet f = refl

pub none_more : (f : ℕ → Fault) (i : ℕ) → first_of f i ≡ no_fault → f i ≡ no_fault → first_of f (i + 1) ≡ no_fault
unfolding first_of or_next
none_more f i a b = rw (add-one i, a, b)

pub first_more : (f : ℕ → Fault) (i : ℕ) → first_of f (i + 1) ≡ or_next (first_of f i) (f i)
unfolding first_of
first_more f i = rw (add-one i)

pub first-same : (f g : ℕ → Fault) (n : ℕ) → ((i : ℕ) → i < n → f i ≡ g i) → first_of f n ≡ first_of g n
unfolding first_of
first-same f g zero h = refl
first-same f g (suc n) h = ap₂ or_next (first-same f g n (λ i l. h i (omega arith))) (h n (omega arith))

-- no test of many fails
pub none_all : (f : ℕ → Fault) (n : ℕ) → ((j : ℕ) → j < n → f j ≡ no_fault) → first_of f n ≡ no_fault
none_all f zero h = none_yet f
none_all f (suc n) h = rw (add-one n) at (none_more f n (none_all f n (λ j l. h j (omega arith))) (h n (omega arith)))

first_from : (f : ℕ → Fault) (i d : ℕ) → first_of f i ≡ no_fault → ((f i).number ≡ 0 → ⊥) → first_of f (suc (i + d)) ≡ f i
unfolding first_of or_next
first_from f i zero a h = let z : i + 0 ≡ i = omega arith in rw (z, a)
first_from f i (suc d) a h =
    let z : i + suc d ≡ suc (i + d) = omega arith in
    rw z (next_some' (first_of f (suc (i + d))) (f (suc (i + d))) (first_from f i d a h))
  where
    next_some' : (x y : Fault) → x ≡ f i → or_next x y ≡ f i
    next_some' x y e = next_some x y (λ q. h (ap (λ (u : Fault). u.number) (sym e) ∙ q)) ∙ e

-- a test that fails, after those that do not, gives the first fault
pub first_hit : (f : ℕ → Fault) (i n : ℕ) → i < n → first_of f i ≡ no_fault → (x : Fault) → (x.number ≡ 0 → ⊥)
    → f i ≡ x → x ≡ first_of f n
first_hit f i n l a x h e =
    let z : suc (i + (n - suc i)) ≡ n = omega arith in
    sym (rw z at (first_from f i (n - suc i) a (λ q. h (ap (λ (u : Fault). u.number) (sym e) ∙ q))) ∙ e)

-- ---- what a check answers (rules, Refusals, `checked`): nothing is at fault, or the fault that it found
ok_or_err : (x : Fault) → ◌≡◌ {A = Result (Unit {0}) Fault} (Ok tt) (Err x) → ⊥
ok_or_err x e = cc

pub checked_clear : (f : Fault) → f.number ≡ 0 → checked f ≡ Ok tt
checked_clear f e = rw (eq-eqb f.number 0 e)

pub checked_some : (f : Fault) → (f.number ≡ 0 → ⊥) → checked f ≡ Err f
checked_some f h = rw (ne_eqb f.number 0 h)

-- a refusal unless a test holds
pub refused : (b : Bool) (n p : ℕ) → 0 < n → pick b (Ok tt) (Err (fault_of n p)) ≡ checked (unless b n p)
refused true n p h = refl
refused false n p h = rw (ne_eqb n 0 (λ e. omega arith))

pub clear_checked : (f : Fault) → checked f ≡ Ok tt → f.number ≡ 0
clear_checked f = go (eqb f.number 0) refl
  where
    go : (b : Bool) → eqb f.number 0 ≡ b → ◌≡◌ {A = Result (Unit {0}) Fault} (pick b (Ok tt) (Err f)) (Ok tt) → f.number ≡ 0
    go true q e = eqb-true _ _ q
    go false q e = absurd (ok_or_err f (sym e))

-- what is answered beside a check: x where it finds nothing, and its fault where it finds one
pub clear_gives : {A : Type 0} (f : Fault) (x : A) → checked f ≡ Ok tt → unless_fault f x ≡ Ok x
clear_gives f x e = rw (eq-eqb f.number 0 (clear_checked f e))

pub fault_gives : {A : Type 0} (f g : Fault) (x : A) → checked f ≡ Err g → unless_fault f x ≡ Err g
fault_gives {A = A} f g x = go (eqb f.number 0)
  where
    go : (b : Bool) → ◌≡◌ {A = Result (Unit {0}) Fault} (pick b (Ok tt) (Err f)) (Err g)
        → ◌≡◌ {A = Result A Fault} (pick b (Ok x) (Err f)) (Err g)
    go true q = absurd (ok_or_err g q)
    go false q = cc

-- and back
pub given_clear : {A : Type 0} (f : Fault) (x y : A) → unless_fault f x ≡ Ok y → (checked f ≡ Ok tt) × (x ≡ y)
given_clear {A = A} f x y = go (eqb f.number 0)
  where
    go : (b : Bool) → ◌≡◌ {A = Result A Fault} (pick b (Ok x) (Err f)) (Ok y)
        → (◌≡◌ {A = Result (Unit {0}) Fault} (pick b (Ok tt) (Err f)) (Ok tt)) × (x ≡ y)
    go true q = (refl, cc)
    go false q = absurd cc

pub given_fault : {A : Type 0} (f g : Fault) (x : A) → unless_fault f x ≡ Err g → checked f ≡ Err g
given_fault {A = A} f g x = go (eqb f.number 0)
  where
    go : (b : Bool) → ◌≡◌ {A = Result A Fault} (pick b (Ok x) (Err f)) (Err g)
        → ◌≡◌ {A = Result (Unit {0}) Fault} (pick b (Ok tt) (Err f)) (Err g)
    go true q = absurd cc
    go false q = cc

-- a row of which the first test finds nothing is the rest of it, and one of which it finds a fault is that fault
pub checked_next : (f g : Fault) → checked f ≡ Ok tt → checked (or_next f g) ≡ checked g
checked_next f g e = ap checked (next_none f g (clear_checked f e))

pub checked_stop : (f g x : Fault) → checked f ≡ Err x → checked (or_next f g) ≡ Err x
checked_stop f g x = go (eqb f.number 0) refl
  where
    go : (b : Bool) → eqb f.number 0 ≡ b → ◌≡◌ {A = Result (Unit {0}) Fault} (pick b (Ok tt) (Err f)) (Err x)
        → checked (or_next f g) ≡ Err x
    go true q e = absurd (ok_or_err x e)
    go false q e = ap checked (next_some f g (eqb-false _ _ q)) ∙ rw q e

-- a row of one test
pub checked_one : (f : Fault) → checked (or_next f no_fault) ≡ checked f
unfolding or_next
checked_one f = go (eqb f.number 0) refl
  where
    go : (b : Bool) → eqb f.number 0 ≡ b → checked (pick b no_fault f) ≡ checked f
    go true q = sym (checked_clear f (eqb-true _ _ q))
    go false q = refl

-- many tests, one after the other: those so far find nothing, and with one more too; or it finds a fault, which is then that of them all
pub many_more : (f : ℕ → Fault) (i : ℕ) → (first_of f i).number ≡ 0 → checked (f i) ≡ Ok tt → (first_of f (i + 1)).number ≡ 0
many_more f i a e = rw (first_more f i, next_none (first_of f i) (f i) a) (clear_checked (f i) e)

pub many_stop : (f : ℕ → Fault) (i n : ℕ) → i < n → (first_of f i).number ≡ 0 → (x : Fault) → checked (f i) ≡ Err x
    → checked (first_of f n) ≡ Err x
unfolding first_of
many_stop f i n l a x e =
    let z : i + (n - suc i) + 1 ≡ n = omega arith in
    rw z at (from (n - suc i))
  where
    from : (d : ℕ) → checked (first_of f (i + d + 1)) ≡ Err x
    from zero = rw (add-zero, first_more f i, checked_next (first_of f i) (f i) (checked_clear (first_of f i) a)) e
    from (suc d) =
        let y : i + suc d ≡ i + d + 1 = omega arith in
        rw (y, first_more f (i + d + 1)) (checked_stop (first_of f (i + d + 1)) (f (i + d + 1)) x (from d))

-- for the proofs of the checks: what they answer row by row, what is answered beside them, and many tests one after the other
pub ruleset rows = (checked_next, checked_stop, checked_one)

pub ruleset gives = (clear_gives, fault_gives, given_clear, given_fault)

pub ruleset many = (none_yet, many_more, many_stop)
