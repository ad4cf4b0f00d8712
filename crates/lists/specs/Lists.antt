-- Lists made or changed by index, texts that stand one after the other, choices, and the tasks of a set: laws of `tab`, `map_at`, `pick`
-- (rules, Words), `joined_text` (rules, Writer) and `tasks_from` (rules, Slot). Nothing of scheduling.
-- A run is a list of tasks, and the records are a list of numbers: most laws cite these.
use Rattle.std.specs.Prelude.{◌≡◌, refl, Bool, true, false, ◌⊎◌, List, [], ◌∷◌, ◌++◌, map, ℕ, zero, suc, ◌+◌, ◌≤◌, ◌<◌, length, get_or, set}
use Rattle.std.specs.Prelude.{take}
use Rattle.std.proofs.Common.{sym, ap, ap₂, ◌∙◌, inl, inr, append_assoc, append-nil, not-suc-le-zero, add-zero, add-suc, suc-add, zero-add}
use Rattle.std.proofs.Common.{arith}
use Rattle.std.proofs.Math.ListN.{get_or-append}
use Rattle.std.proofs.Math.Seq.{take-append_seam}
use Rattle.rules.specs.Words.{pick, map_from, map_at, tab}
use Rattle.rules.specs.Limits.{max_tasks}
use Rattle.rules.specs.Slot.{TaskSet, tasks_from, tasks_in}
use Rattle.rules.specs.Writer.{joined_text}

pub map_from_long : {A : Type 0} (f : ℕ → A → A) (k : ℕ) (xs : List A) → length (map_from f k xs) ≡ length xs
unfolding map_from
map_from_long f k [] = refl
map_from_long f k (x ∷ xs) = ap suc (map_from_long f (suc k) xs)

map_from_at : {A : Type 0} (f : ℕ → A → A) (k : ℕ) (xs : List A) (i : ℕ) (d : A) → i < length xs
    → get_or (map_from f k xs) i d ≡ f (k + i) (get_or xs i d)
unfolding map_from
map_from_at f k [] i d h = absurd (not-suc-le-zero h)
map_from_at f k (x ∷ xs) zero d h = rw (add-zero k)
map_from_at f k (x ∷ xs) (suc i) d h = rw (map_from_at f (suc k) xs i d (omega arith), add-suc, suc-add)

pub map_at_at : {A : Type 0} (f : ℕ → A → A) (xs : List A) (i : ℕ) (d : A) → i < length xs
    → get_or (map_at f xs) i d ≡ f i (get_or xs i d)
map_at_at f xs i d h = map_from_at f 0 xs i d h ∙ rw (zero-add i)

-- two maps that agree at each index are one
pub map_from_cong : {A : Type 0} (f g : ℕ → A → A) (k : ℕ) (xs : List A)
    → ((i : ℕ) (x : A) → k ≤ i → i < k + length xs → f i x ≡ g i x) → map_from f k xs ≡ map_from g k xs
unfolding map_from
map_from_cong f g k [] h = refl
map_from_cong f g k (x ∷ xs) h =
    ap₂ ◌∷◌ (h k x (omega arith) (omega arith)) (map_from_cong f g (suc k) xs (λ i y p q. h i y (omega arith) (omega arith)))

pub tab_long : {A : Type 0} (f : ℕ → A) (k n : ℕ) → length (tab f k n) ≡ n
unfolding tab
tab_long f k zero = refl
tab_long f k (suc n) = ap suc (tab_long f (suc k) n)

pub map-tab : {A B : Type 0} (g : A → B) (f : ℕ → A) (k n : ℕ) → map g (tab f k n) ≡ tab (λ i. g (f i)) k n
unfolding tab
map-tab g f k zero = refl
map-tab {B = B} g f k (suc n) = ap (λ (ys : List B). g (f k) ∷ ys) (map-tab g f (suc k) n)

tab_from : {A : Type 0} (f : ℕ → A) (k n i : ℕ) (d : A) → i < n → get_or (tab f k n) i d ≡ f (k + i)
unfolding tab
tab_from f k zero i d h = absurd (not-suc-le-zero h)
tab_from f k (suc n) zero d h = rw (add-zero k)
tab_from f k (suc n) (suc i) d h = rw (tab_from f (suc k) n i d (omega arith), add-suc, suc-add)

pub tab_at : {A : Type 0} (f : ℕ → A) (n i : ℕ) (d : A) → i < n → get_or (tab f 0 n) i d ≡ f i
tab_at f n i d h = tab_from f 0 n i d h ∙ rw (zero-add i)

-- and so in front of other elements
pub tab_front : {A : Type 0} (f : ℕ → A) (n : ℕ) (ys : List A) (i : ℕ) (d : A) → i < n → get_or (tab f 0 n ++ ys) i d ≡ f i
tab_front f n ys i d h = get_or-append (tab f 0 n) ys d i (omega (arith, tab_long f 0 n)) ∙ tab_at f n i d h

pub tab_cong : {A : Type 0} (f g : ℕ → A) (k n : ℕ) → ((i : ℕ) → k ≤ i → i < k + n → f i ≡ g i)
    → tab f k n ≡ tab g k n
unfolding tab
tab_cong f g k zero h = refl
tab_cong f g k (suc n) h = ap₂ ◌∷◌ (h k (omega arith) (omega arith))
    (tab_cong f g (suc k) n (λ i p q. h i (omega arith) (omega arith)))

pub tab_snoc : {A : Type 0} (f : ℕ → A) (k n : ℕ) → tab f k (suc n) ≡ tab f k n ++ (f (k + n) ∷ [])
unfolding tab
tab_snoc f k zero = rw (add-zero k)
tab_snoc f k (suc n) = ap (λ l. f k ∷ l) (tab_snoc f (suc k) n ∙ rw (add-suc, suc-add))

-- those of m indices, and behind them those of the next n
pub tab-append : {A : Type 0} (f : ℕ → A) (k m n : ℕ) → tab f k (m + n) ≡ tab f k m ++ tab f (k + m) n
unfolding tab
tab-append f k zero n = rw (zero-add n, add-zero k)
tab-append f k (suc m) n = rw (suc-add m n, add-suc k m, ← suc-add k m) (ap (λ l. f k ∷ l) (tab-append f (suc k) m n))

-- a store at one index, where the lists agree elsewhere
tab_set_from : {A : Type 0} (f g : ℕ → A) (k n j : ℕ) → j < n
    → ((i : ℕ) → k ≤ i → i < k + n → (i ≡ k + j → ⊥) → f i ≡ g i) → set (tab f k n) j (g (k + j)) ≡ tab g k n
unfolding tab
tab_set_from f g k zero j l h = absurd (not-suc-le-zero l)
tab_set_from f g k (suc n) zero l h =
    rw (add-zero k) (ap (λ l. g k ∷ l) (tab_cong f g (suc k) n (λ i p q. h i (omega arith) (omega arith) (λ e. omega arith))))
tab_set_from f g k (suc n) (suc j) l h =
    ap₂ ◌∷◌ (h k (omega arith) (omega arith) (λ e. omega arith))
    (rw (add-suc, ← suc-add) (tab_set_from f g (suc k) n j (omega arith)
    (λ i p q e. h i (omega arith) (omega arith) (λ z. e (omega arith)))))

pub tab-set : {A : Type 0} (f g : ℕ → A) (n j : ℕ) → j < n
    → ((i : ℕ) → i < n → (i ≡ j → ⊥) → f i ≡ g i) → set (tab f 0 n) j (g j) ≡ tab g 0 n
tab-set f g n j l h = rw (zero-add) at (tab_set_from f g 0 n j l (λ i p q e. h i (omega arith) (λ z. e (omega arith))))

-- ---- one after the other
pub joined-append : (ss ts : List (List ℕ)) → joined_text (ss ++ ts) ≡ joined_text ss ++ joined_text ts
unfolding joined_text
joined-append [] ts = refl
joined-append (s ∷ ss) ts = ap (λ (l : List ℕ). s ++ l) (joined-append ss ts) ∙ sym (append_assoc s (joined_text ss) (joined_text ts))

joined_last : (ss : List (List ℕ)) (s : List ℕ) → joined_text (ss ++ (s ∷ [])) ≡ joined_text ss ++ s
unfolding joined_text
joined_last ss s = joined-append ss (s ∷ []) ∙ ap (λ (l : List ℕ). joined_text ss ++ l) (append-nil s)

-- one text more
pub joined-more : (f : ℕ → List ℕ) (n : ℕ) → joined_text (tab f 0 (suc n)) ≡ joined_text (tab f 0 n) ++ f n
joined-more f n = ap joined_text (tab_snoc f 0 n) ∙ joined_last (tab f 0 n) (f (0 + n)) ∙ rw (zero-add n)

-- the first of two
pub take-first : (n : ℕ) (xs ys : List ℕ) → n ≡ length xs → take n (xs ++ ys) ≡ xs
take-first n xs ys e = rw e (take-append_seam xs ys)

-- ---- choices
pub picked {ℓ} : {A : Type 0} (P : A → Type ℓ) (b : Bool) (x y : A) → (b ≡ true → P x) → (b ≡ false → P y)
    → P (pick b x y)
picked P true x y f g = f refl
picked P false x y f g = g refl

pub cases : (b : Bool) → (b ≡ true) ⊎ (b ≡ false)
cases true = inl refl
cases false = inr refl

-- ---- sets of tasks
-- a set as it stands in an array
abbrev pub members : List Bool → TaskSet
members xs i = get_or xs i false

front_kept : (b : Bool) (x : ℕ) (xs ys : List ℕ) → pick b (x ∷ (xs ++ ys)) (xs ++ ys) ≡ pick b (x ∷ xs) xs ++ ys
front_kept true x xs ys = refl
front_kept false x xs ys = refl

-- those of one index more
pub tasks_more : (s : TaskSet) (k n : ℕ) → tasks_from s k (suc n) ≡ tasks_from s k n ++ pick (s (k + n)) (suc (k + n) ∷ []) []
unfolding tasks_from
tasks_more s k zero = rw (add-zero k)
tasks_more s k (suc n) =
    let e : k + suc n ≡ suc k + n = omega arith in
    rw (e, tasks_more s (suc k) n) (front_kept (s k) (suc k) (tasks_from s (suc k) n) _)

-- sets that are the same have the same tasks
pub tasks_cong : (a b : TaskSet) (n k : ℕ) → ((i : ℕ) → k ≤ i → i < k + n → a i ≡ b i) → tasks_from a k n
    ≡ tasks_from b k n
unfolding tasks_from
tasks_cong a b zero k h = refl
tasks_cong a b (suc n) k h = rw (h k (omega arith) (omega arith), tasks_cong a b n (suc k) (λ i x y. h i (omega arith) (omega arith)))

pub tasks_same : (a b : TaskSet) → ((i : ℕ) → i < max_tasks → a i ≡ b i) → tasks_in a ≡ tasks_in b
unfolding tasks_in
tasks_same a b h = tasks_cong a b max_tasks 0 (λ i x y. h i (omega arith))
