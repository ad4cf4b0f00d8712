-- Task lines and release lines: the numbers that they list, one line after the other, and the lines that such numbers make.
-- Said once for both kinds, over how many numbers a line lists. For Orders and CaseLines.
use Rattle.std.specs.Prelude.{◌≡◌, Bool, true, false, eqb, length, get_or, drop}
use Rattle.std.proofs.Math.Path.{refl, sym, ap, ap₂}
use Rattle.std.proofs.Common.{◌∙◌, subst, zero-mul, drop_of_length-le, get_or-append-add}
use mathlib.Core.List.{List, [], ◌∷◌, ◌++◌, append_assoc, append-nil}
use Prim.Native.Nat.{ℕ, zero, suc, ◌+◌, ◌*◌, ◌≤◌}
use Rattle.std.proofs.Math.Nat.{suc-mul}
use native.Mathlib.Omega.{arith}
use Rattle.std.proofs.Math.ListN.{length-append}
use Rattle.rules.specs.Words.{pick, tab}
use Rattle.rules.specs.declared.Line.{Line}
use Rattle.rules.specs.declared.Line.TheVariants.{Bad, Procs, Policy, Row, End, Release}
use Rattle.rules.specs.Limits.{task_width, release_width}
use Rattle.rules.specs.Case.{Case, case_of, period, execution, deadline, time_of, name_of}
use Rattle.rules.specs.Reader.{kind_of, with_line, with_lines}
use Rattle.texts.specs.Fields.{All}
use Rattle.texts.specs.Rows.{parted, task_numbers, release_numbers_lem}

-- the lines of a table and of a trace
unfoldable pub row_at : List ℕ → ℕ → Line
row_at ts i = Row (period ts i) (execution ts i) (deadline ts i)

unfoldable pub release_at : List ℕ → ℕ → Line
release_at rs j = Release (time_of rs j) (name_of rs j)

-- the numbers that a line lists, and those of some lines
unfoldable pub listed : Line → List ℕ
listed Bad = []
listed (Procs m) = []
listed (Policy p) = []
listed (Row T C D) = T ∷ C ∷ D ∷ []
listed (End e) = []
listed (Release t n) = t ∷ n ∷ []

unfoldable pub all_listed : List Line → List ℕ
all_listed [] = []
all_listed (l ∷ ls) = listed l ++ all_listed ls

-- ---- what a line of each kind is
abbrev pub Kind : ℕ → Line → Type 0
Kind k l = kind_of l ≡ k

unfoldable Form : ℕ → Line → Type 0
Form zero l = l ≡ Bad
Form (suc zero) l = (m : ℕ) × (l ≡ Procs m)
Form (suc (suc zero)) l = (p : ℕ) × (l ≡ Policy p)
Form (suc (suc (suc zero))) l = (T : ℕ) × (C : ℕ) × (D : ℕ) × (l ≡ Row T C D)
Form (suc (suc (suc (suc zero)))) l = (e : ℕ) × (l ≡ End e)
Form (suc (suc (suc (suc (suc zero))))) l = (t : ℕ) × (n : ℕ) × (l ≡ Release t n)
Form (suc (suc (suc (suc (suc (suc k)))))) l = Unit

formed : (l : Line) → Form (kind_of l) l
unfolding Form
formed Bad = refl
formed (Procs m) = (m, refl)
formed (Policy p) = (p, refl)
formed (Row T C D) = (T, C, D, refl)
formed (End e) = (e, refl)
formed (Release t n) = (t, n, refl)

pub is_procs : (l : Line) → Kind 1 l → (m : ℕ) × (l ≡ Procs m)
unfolding Form
is_procs l h = subst (λ k. Form k l) h (formed l)

pub is_policy : (l : Line) → Kind 2 l → (p : ℕ) × (l ≡ Policy p)
unfolding Form
is_policy l h = subst (λ k. Form k l) h (formed l)

is_row : (l : Line) → Kind 3 l → (T : ℕ) × (C : ℕ) × (D : ℕ) × (l ≡ Row T C D)
unfolding Form
is_row l h = subst (λ k. Form k l) h (formed l)

pub is_end : (l : Line) → Kind 4 l → (e : ℕ) × (l ≡ End e)
unfolding Form
is_end l h = subst (λ k. Form k l) h (formed l)

is_release : (l : Line) → Kind 5 l → (t : ℕ) × (n : ℕ) × (l ≡ Release t n)
unfolding Form
is_release l h = subst (λ k. Form k l) h (formed l)

-- ---- lines of kind k list w numbers each; `at` makes line i of the numbers of such lines
pub record Lists (k w : ℕ) (at : List ℕ → ℕ → Line) : Type 0 where
  pub kind : (xs : List ℕ) (i : ℕ) → Kind k (at xs i)
  pub wide : (l : Line) → Kind k l → length (listed l) ≡ w
  pub there : (xs : List ℕ) (i : ℕ) → i * w + w ≤ length xs → drop (i * w) xs ≡ listed (at xs i) ++ drop (i * w + w) xs
  pub back : (xs : List ℕ) (l : Line) (ys : List ℕ) (i : ℕ) → Kind k l → length xs ≡ i * w
      → at (xs ++ (listed l ++ ys)) i ≡ l

-- an element past the seam, by its place
past_seam_at : (xs ys : List ℕ) (i j k : ℕ) → length xs ≡ i → i + j ≡ k → get_or (xs ++ ys) k 0 ≡ get_or ys j 0
past_seam_at xs ys i j k p q = rw (← q, ← p) (get_or-append-add xs ys j 0)

pub rows_list : Lists 3 task_width row_at
unfolding row_at listed
rows_list = record {
  kind = λ xs i. refl;
  wide = λ l h. ap (λ z. length (listed z)) (is_row l h).3;
  there = λ xs i h. parted task_width (i * task_width) xs ∙ rw (task_numbers xs i h);
  back = λ xs l ys i h n.
      let (T, C, D, e) = is_row l h in
      let at = past_seam_at xs (T ∷ C ∷ D ∷ ys) (i * task_width) in
      rw e (λ p. Row (at 0 (i * task_width) n (omega arith) p) (at 1 (i * task_width + 1) n refl p) (at 2 (i * task_width + 2) n refl p));
}

pub releases_list : Lists 5 release_width release_at
unfolding release_at listed
releases_list = record {
  kind = λ xs j. refl;
  wide = λ l h. ap (λ z. length (listed z)) (is_release l h).2;
  there = λ xs j h. parted release_width (j * release_width) xs ∙ rw (release_numbers_lem xs j h);
  back = λ xs l ys j h n.
      let (t, m, e) = is_release l h in
      let at = past_seam_at xs (t ∷ m ∷ ys) (j * release_width) in
      rw e (λ p. Release (at 0 (j * release_width) n (omega arith) p) (at 1 (j * release_width + 1) n refl p));
}

module _ (k w : ℕ) (at : List ℕ → ℕ → Line) (lists : Lists k w at) where
  -- the lines made of numbers list these numbers
  listed-tab : (n i : ℕ) (xs : List ℕ) → length xs ≡ n * w + i * w → all_listed (tab (at xs) i n) ≡ drop (i * w) xs
  unfolding all_listed tab
  listed-tab zero i xs h = sym (drop_of_length-le xs {i = i * w} (omega arith))
  listed-tab (suc n) i xs h =
      ap (λ (z : List ℕ). listed (at xs i) ++ z) (listed-tab n (suc i) xs (omega (arith, suc-mul n w, suc-mul i w)))
      ∙ rw (suc-mul i w) (sym (lists.there xs i (omega (arith, suc-mul n w))))

  -- and the numbers that lines list make these lines
  tab-listed : (ls : List Line) (i : ℕ) (xs : List ℕ) → All (Kind k) ls → length xs ≡ i * w
      → tab (at (xs ++ all_listed ls)) i (length ls) ≡ ls
  unfolding all_listed tab All
  tab-listed [] i xs a h = refl
  tab-listed (l ∷ ls) i xs a h =
      ap₂ ◌∷◌ (lists.back xs l (all_listed ls) i a.0 h)
      (subst (λ (z : List ℕ). tab (at z) (suc i) (length ls) ≡ ls) (append_assoc xs (listed l) (all_listed ls))
      (tab-listed ls (suc i) (xs ++ listed l) a.1 (omega (arith, length-append xs (listed l), lists.wide l a.0, suc-mul i w))))

  pub listed_long : (ls : List Line) → All (Kind k) ls → length (all_listed ls) ≡ length ls * w
  unfolding all_listed All
  listed_long [] a = omega arith
  listed_long (l ∷ ls) a = omega (
    arith,
    length-append (listed l) (all_listed ls),
    lists.wide l a.0,
    listed_long ls a.1,
    suc-mul (length ls) w,
  )

  pub kinds_tab : (xs : List ℕ) (i n : ℕ) → All (Kind k) (tab (at xs) i n)
  unfolding All tab
  kinds_tab xs i zero = tt
  kinds_tab xs i (suc n) = (lists.kind xs i, kinds_tab xs (suc i) n)

  pub listed_back : (n : ℕ) (xs : List ℕ) → length xs ≡ n * w → all_listed (tab (at xs) 0 n) ≡ xs
  listed_back n xs h = let z : 0 * w ≡ 0 = zero-mul w in listed-tab n 0 xs (rw z (omega arith)) ∙ ap (λ i. drop i xs) z

  pub lines_back : (ls : List Line) → All (Kind k) ls → tab (at (all_listed ls)) 0 (length ls) ≡ ls
  lines_back ls a = tab-listed ls 0 [] a (sym (zero-mul w))

-- ---- what such lines add to a case: task lines to its table, release lines to its trace
unfoldable adding : ℕ → Case → List ℕ → Case
adding k c xs = case_of c.procs c.policy (c.table ++ pick (eqb k 3) xs []) c.end (c.trace ++ pick (eqb k 5) xs [])

-- a case with other task and release numbers
abbrev listing : Case → List ℕ → List ℕ → Case
listing c ts rs = case_of c.procs c.policy ts c.end rs

adding_none : (k : ℕ) (c : Case) → c ≡ adding k c []
unfolding adding
adding_none k c = ap₂ (listing c) (none (eqb k 3) c.table) (none (eqb k 5) c.trace)
  where
    none : (b : Bool) (xs : List ℕ) → xs ≡ xs ++ pick b [] []
    none true xs = sym (append-nil xs)
    none false xs = sym (append-nil xs)

adding-more : (k : ℕ) (c : Case) (xs ys : List ℕ) → adding k (adding k c xs) ys ≡ adding k c (xs ++ ys)
unfolding adding
adding-more k c xs ys = ap₂ (listing c) (more (eqb k 3) c.table) (more (eqb k 5) c.trace)
  where
    more : (b : Bool) (zs : List ℕ) → zs ++ pick b xs [] ++ pick b ys [] ≡ zs ++ pick b (xs ++ ys) []
    more true zs = append_assoc zs xs ys
    more false zs = append-nil (zs ++ [])

adding_row : (c : Case) (l : Line) → Kind 3 l → with_line c l ≡ adding 3 c (listed l)
unfolding with_line adding listed
adding_row c l h = rw (is_row l h).3 (ap₂ (listing c) refl (sym (append-nil c.trace)))

adding_release : (c : Case) (l : Line) → Kind 5 l → with_line c l ≡ adding 5 c (listed l)
unfolding with_line adding listed
adding_release c l h = rw (is_release l h).2 (ap₂ (listing c) (sym (append-nil c.table)) refl)

module _ (k : ℕ) (one : (c : Case) (l : Line) → Kind k l → with_line c l ≡ adding k c (listed l)) where
  adding_all : (c : Case) (ls : List Line) → All (Kind k) ls → with_lines c ls ≡ adding k c (all_listed ls)
  unfolding with_lines all_listed All
  adding_all c [] a = adding_none k c
  adding_all c (l ∷ ls) a = ap (λ z. with_lines z ls) (one c l a.0) ∙ adding_all (adding k c (listed l)) ls a.1
      ∙ adding-more k c (listed l) (all_listed ls)

with_lines-append : (c : Case) (ls ms : List Line) → with_lines c (ls ++ ms) ≡ with_lines (with_lines c ls) ms
unfolding with_lines
with_lines-append c [] ms = refl
with_lines-append c (l ∷ ls) ms = with_lines-append (with_line c l) ls ms

-- task lines, the end and release lines, from a case with processors and policy alone
pub lines_taken : (m p : ℕ) (rows : List Line) (e : ℕ) (rels : List Line) → All (Kind 3) rows → All (Kind 5) rels
    → with_lines (case_of m p [] 0 []) (rows ++ (End e ∷ rels)) ≡ case_of m p (all_listed rows) e (all_listed rels)
unfolding with_lines with_line adding
lines_taken m p rows e rels a b =
    let c = case_of m p [] 0 [] in
    with_lines-append c rows (End e ∷ rels)
    ∙ ap (λ z. with_lines (with_line z (End e)) rels) (adding_all 3 adding_row c rows a)
    ∙ adding_all 5 adding_release (case_of m p (all_listed rows) e []) rels b
    ∙ ap (λ ts. case_of m p ts e (all_listed rels)) (append-nil (all_listed rows))
