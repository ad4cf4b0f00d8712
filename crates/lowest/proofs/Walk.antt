-- The walk over the releases that checks them, apart from the code.
use Rattle.std.specs.Prelude.{Result, Ok, Err}
use mathlib.Core.Path.{◌≡◌, refl, ap, sym, ◌∙◌}
use mathlib.Core.Bool.{Bool, true, false}
use mathlib.Core.List.{List, [], ◌∷◌}
use Prim.Native.Nat.{ℕ, zero, suc, ◌+◌, ◌-◌, ◌≤◌, ◌<◌}
use native.Mathlib.Numerals.{add-one}
use native.Mathlib.Omega.{arith}
use native.Mathlib.Nat.{add-zero, zero-add}
use lib.Dec.{eqb, leb, ltb}
use lib.ListN.{get_or, set}
use borrow.Author.Tests.{eq-eqb, ne_eqb, le-leb}
use Rattle.rules.specs.declared.Fault.{Fault}
use Rattle.rules.specs.Words.{pick, bit, sum, count_in}
use Rattle.rules.specs.Limits.{max_tasks, max_end}
use Rattle.rules.specs.Case.{task_count, period, release_count, time_of, name_of}
use Rattle.rules.specs.Refusals.{fault_of, checked, unless, or_next, first, first_of, named, in_order, apart, last_before, release_fault}
use Rattle.rules.specs.Refusals.{releases_fault, absent_fault, absences_fault}
use Rattle.lists.specs.Lists.{tab_at, tab-set}
use Rattle.legal.specs.Firsts.{none_yet, refused, checked_clear, clear_checked, checked_next, checked_one}
use Rattle.legal.specs.Firsts.{fault_gives, given_clear, many_more}
use Rattle.legal.specs.Firsts.{many_stop, first-same}
use Rattle.legal.specs.Passing.{named_clear, Released, release_clear}
use Rattle.lowest.specs.Needs.{lasts, Early, ReleasesTested, unkept_fault}

-- a test that is passed holds
pub holds_ok : (b : Bool) (f : Fault) → ◌≡◌ {A = Result (Unit {0}) Fault} (pick b (Ok tt) (Err f)) (Ok tt) → b ≡ true
holds_ok true f e = refl
holds_ok false f e = absurd cc

-- a release that passes the tests before the last, 10, is asked that one
pub last_test : (ts : List ℕ) (e : ℕ) (rs : List ℕ) (j : ℕ) (far : Bool) → named ts (name_of rs j) ≡ true → ltb (time_of rs j) e ≡ true
    → in_order rs j ≡ true → far ≡ apart (last_before rs j (name_of rs j)) (period ts (name_of rs j - 1)) (time_of rs j)
    → pick far (Ok tt) (Err (fault_of 10 (j + 1))) ≡ checked (release_fault ts e rs j)
unfolding release_fault or_next
last_test ts e rs j far a b d q =
    rw (a, b, d, ← q, add-one j) (refused far 10 (suc j) (omega arith) ∙ sym (checked_one (unless far 10 (suc j))))

-- what stands in the array of last releases
pub last_at : (rs last : List ℕ) (j name : ℕ) → last ≡ lasts rs j → 1 ≤ name → name ≤ max_tasks
    → get_or last (name - 1) 0 ≡ last_before rs j name
last_at rs last j name e p q =
    let z : suc (name - 1) ≡ name = omega arith in
    rw e (tab_at (λ i. last_before rs j (suc i)) max_tasks (name - 1) 0 (omega arith) ∙ ap (last_before rs j) z)

-- a release that passes 8 names a task of the table, of which there are few; what is kept of that task is the time of its last release
pub record Named (ts : List ℕ) (rs last : List ℕ) (j name : ℕ) : Type 0 where
  pub known : named ts (name_of rs j) ≡ true
  pub some : 1 ≤ name_of rs j
  pub within : name_of rs j ≤ task_count ts
  pub kept : get_or last (name - 1) 0 ≡ last_before rs j (name_of rs j)

pub named_task : (ts rs last : List ℕ) (j name : ℕ) (some : Bool) (f : Fault) → name ≡ name_of rs j → some ≡ named ts name
    → ◌≡◌ {A = Result (Unit {0}) Fault} (pick some (Ok tt) (Err f)) (Ok tt) → last ≡ lasts rs j → task_count ts ≤ max_tasks
    → Named ts rs last j name
named_task ts rs last j name some f e q ok kept few =
    let known = ap (named ts) (sym e) ∙ sym q ∙ holds_ok some f ok in
    let w = named_clear ts (name_of rs j) known in
    record { known = known; some = w.0; within = w.1; kept = rw e (last_at rs last j (name_of rs j) kept w.0 (omega (arith, w.1, few))) }

pub record Checked (ts : List ℕ) (e : ℕ) (rs last : List ℕ) (j : ℕ) : Type 0 where
  pub none : (first_of (release_fault ts e rs) j).number ≡ 0
  pub at_last : last ≡ lasts rs j
  pub early : Early rs j

pub checked_none : (ts : List ℕ) (e : ℕ) (rs : List ℕ) → Checked ts e rs (lasts rs 0) 0
unfolding last_before
checked_none ts e rs = record { none = ap (λ (f : Fault). f.number) (none_yet _); at_last = refl; early = λ name. omega arith }

module _ (ts : List ℕ) (e : ℕ) (rs : List ℕ) (j : ℕ) (x : checked (release_fault ts e rs j) ≡ Ok tt) where
  -- a release with no fault
  pub passed : Released ts e rs j
  passed = release_clear ts e rs j (clear_checked _ x)

  pub checked_more : (last : List ℕ) → Checked ts e rs last j → task_count ts ≤ max_tasks → e ≤ max_end
      → Checked ts e rs (set last (name_of rs j - 1) (time_of rs j + 1)) (j + 1)
  unfolding last_before
  checked_more last v few small =
      let p = passed in
      let y : name_of rs j ≡ suc (name_of rs j - 1) = omega (arith, p.some) in
      let l : name_of rs j - 1 < max_tasks = omega (arith, p.some, p.known) in
      let new : last_before rs (suc j) (suc (name_of rs j - 1)) ≡ time_of rs j + 1 = rw (eq-eqb _ _ y) (omega arith) in
      record {
        none = many_more _ j v.none x;
        at_last = rw (v.at_last, add-one j, ← new)
            (tab-set (λ i. last_before rs j (suc i)) (λ i. last_before rs (suc j) (suc i)) max_tasks (name_of rs j - 1) l
            (λ i h q. sym (rw (ne_eqb (name_of rs j) (suc i) (λ k. q (omega arith))))));
        early = λ name. rw (add-one j) (soon name p.soon (eqb (name_of rs j) name));
      }
    where
      soon : (name : ℕ) → time_of rs j < e → (b : Bool) → pick b (suc (time_of rs j)) (last_before rs j name) ≤ max_end
      soon name h true = omega arith
      soon name h false = v.early name

-- each release is tested, and nothing is at fault; or the release at j is
pub checked_all : (ts : List ℕ) (e : ℕ) (rs last : List ℕ) (j : ℕ) → Checked ts e rs last j → j ≡ release_count rs
    → ReleasesTested ts e rs last (Ok tt)
checked_all ts e rs last j v z =
    record { found_first = sym (checked_clear _ (rw z at v.none)); all_kept = λ q. rw z at v.at_last }

pub checked_hit : (ts : List ℕ) (e : ℕ) (rs last : List ℕ) (j : ℕ) (x : Fault) → (first_of (release_fault ts e rs) j).number ≡ 0
    → j < release_count rs → checked (release_fault ts e rs j) ≡ Err x → ReleasesTested ts e rs last (Err x)
checked_hit ts e rs last j x none l h =
    record {
      found_first = sym (many_stop (release_fault ts e rs) j (release_count rs) l none x h);
      all_kept = λ q. absurd (err_ok q);
    }
  where
    err_ok : ◌≡◌ {A = Result (Unit {0}) Fault} (Err x) (Ok tt) → ⊥
    err_ok q = cc

-- ---- 16, from what is kept
-- how many of the first n releases are of the task at i
abbrev releases_so_far : List ℕ → ℕ → ℕ → ℕ
releases_so_far rs i n = count_in (λ j. eqb (name_of rs j) (suc i)) 0 n

-- something is kept of a task exactly if it has a release
kept_some : (rs : List ℕ) (i n : ℕ) → leb 1 (last_before rs n (suc i)) ≡ leb 1 (releases_so_far rs i n)
unfolding last_before sum
kept_some rs i zero = refl
kept_some rs i (suc n) = rw (zero-add n) (go (eqb (name_of rs n) (suc i)) (kept_some rs i n))
  where
    go : (b : Bool) → leb 1 (last_before rs n (suc i)) ≡ leb 1 (releases_so_far rs i n)
        → leb 1 (pick b (suc (time_of rs n)) (last_before rs n (suc i))) ≡ leb 1 (releases_so_far rs i n + bit b)
    go true q = le-leb 1 (suc (time_of rs n)) (omega arith) ∙ sym (le-leb 1 (releases_so_far rs i n + 1) (omega arith))
    go false q = rw add-zero q

unkept_one : (rs last : List ℕ) (i : ℕ) → last ≡ lasts rs (release_count rs) → i < max_tasks
    → unkept_fault last i ≡ absent_fault rs i
unfolding unkept_fault absent_fault
unkept_one rs last i e h =
    rw (e, tab_at (λ k. last_before rs (release_count rs) (suc k)) max_tasks i 0 h, kept_some rs i (release_count rs))

unkept_absent : (ts rs last : List ℕ) → task_count ts ≤ max_tasks → last ≡ lasts rs (release_count rs)
    → first_of (unkept_fault last) (task_count ts) ≡ absences_fault ts rs
unkept_absent ts rs last few e =
    first-same (unkept_fault last) (absent_fault rs) (task_count ts) (λ i h. unkept_one rs last i e (omega arith))

-- the releases are tested and then the tasks by what was kept of them
pub both_tested : (ts : List ℕ) (e : ℕ) (rs last : List ℕ) (r : Result (Unit {0}) Fault) → task_count ts ≤ max_tasks
    → ReleasesTested ts e rs last r → r ≡ Ok tt
    → checked (first_of (unkept_fault last) (task_count ts)) ≡ checked (first (releases_fault ts e rs ∷ absences_fault ts rs ∷ []))
both_tested ts e rs last r few tested ok =
    ap checked (unkept_absent ts rs last few (tested.all_kept ok))
    ∙ sym (checked_next (releases_fault ts e rs) (first (absences_fault ts rs ∷ [])) (sym tested.found_first ∙ ok)
    ∙ checked_one (absences_fault ts rs))
