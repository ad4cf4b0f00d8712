-- The order of lines (`lines_fault`, `may_follow` of rules, Reader; document 01, "The case text"): lines without a fault are procs,
-- perhaps a policy, one or more tasks, the end, and releases; and such lines have no fault. For CaseLines and RoundTrip.
use Rattle.std.specs.Prelude.{◌≡◌, refl, Bool, true, false, ◌||◌, ◌⊎◌, List, [], ◌∷◌, ◌++◌, ℕ, suc, eqb}
use Rattle.std.proofs.Common.{sym, ap, ◌∙◌, subst, inl, inr, arith, eqb-true, ne_eqb}
use Rattle.std.proofs.Math.Bool.{or-false}
use Rattle.rules.specs.declared.Line.{Line}
use Rattle.rules.specs.declared.Line.TheVariants.{Procs, Policy, End}
use Rattle.rules.specs.Refusals.{no_fault, or_next}
use Rattle.rules.specs.Reader.{kind_of, may_follow, may_stop, case_order, lines_fault}
use Rattle.texts.specs.Fields.{All}
use Rattle.texts.specs.LinesOf.{end_release}
use Rattle.texts.specs.Passing.{lines_clear}
use Rattle.roundtrip.specs.LineTrip.{Said}
use Rattle.roundtrip.specs.Listed.{Kind, is_procs, is_policy, is_end}

-- one of two kinds
one_of : (k i j : ℕ) → (eqb k i || eqb k j) ≡ true → (k ≡ i) ⊎ (k ≡ j)
one_of k i j e = go (eqb k i) refl e
  where
    go : (b : Bool) → eqb k i ≡ b → (b || eqb k j) ≡ true → (k ≡ i) ⊎ (k ≡ j)
    go true p q = inl (eqb-true k i p)
    go false p q = inr (eqb-true k j q)

-- ---- one line
fault_next : (before n k : ℕ) (l : Line) (ls : List Line)
    → Kind (suc k) l → may_follow before (suc k) ≡ true → lines_fault case_order (suc k) (suc n) ls ≡ no_fault
    → lines_fault case_order before n (l ∷ ls) ≡ no_fault
unfolding lines_fault or_next
fault_next before n k l ls e f g = rw (e, ne_eqb (suc k) 0 (λ z. omega arith), f, g)

pub all_said : (before n : ℕ) (ls : List Line) → (lines_fault case_order before n ls).number ≡ 0 → All Said ls
unfolding All Said
all_said before n [] h = tt
all_said before n (l ∷ ls) h = let c = lines_clear case_order before n l ls h in (c.line.said, all_said (kind_of l) (suc n) ls c.rest)

-- ---- after the end: releases
releases_only : (n : ℕ) (ls : List Line) → (lines_fault case_order 5 n ls).number ≡ 0 → All (Kind 5) ls
unfolding All may_follow
releases_only n [] h = tt
releases_only n (l ∷ ls) h =
    let c = lines_clear case_order 5 n l ls h in
    let e : Kind 5 l = eqb-true (kind_of l) 5 c.line.follows in
    (e, releases_only (suc n) ls (rw e at c.rest))

releases_clear : (n : ℕ) (ls : List Line) → All (Kind 5) ls → lines_fault case_order 5 n ls ≡ no_fault
unfolding All lines_fault may_follow may_stop
releases_clear n [] a = refl
releases_clear n (l ∷ ls) a = fault_next 5 n 4 l ls a.0 refl (releases_clear (suc n) ls a.1)

-- ---- after a task: tasks, the end, releases
pub record Tail (ls : List Line) : Type 0 where
  pub rows : List Line
  pub end : ℕ
  pub releases : List Line
  pub are_rows : All (Kind 3) rows
  pub are_releases : All (Kind 5) releases
  pub whole : ls ≡ rows ++ (End end ∷ releases)

tail_more : (l : Line) (ls : List Line) → Kind 3 l → Tail ls → Tail (l ∷ ls)
unfolding All
tail_more l ls e t = record {
  rows = l ∷ t.rows;
  end = t.end;
  releases = t.releases;
  are_rows = (e, t.are_rows);
  are_releases = t.are_releases;
  whole = ap (λ z. l ∷ z) t.whole;
}

tail_of : (n : ℕ) (ls : List Line) → (lines_fault case_order 3 n ls).number ≡ 0 → Tail ls
unfolding lines_fault may_follow may_stop All
tail_of n [] h = absurd (omega arith)
tail_of n (l ∷ ls) h =
    let c = lines_clear case_order 3 n l ls h in
    go (tail_of (suc n) ls) c.rest (one_of (kind_of l) 3 4 (simp or-false at c.line.follows))
  where
    go : ((lines_fault case_order 3 (suc n) ls).number ≡ 0 → Tail ls) → (lines_fault case_order (kind_of l) (suc n) ls).number ≡ 0
        → Kind 3 l ⊎ Kind 4 l → Tail (l ∷ ls)
    go more rest (inl e) = tail_more l ls e (more (rw e at rest))
    go more rest (inr e) =
        record {
          rows = [];
          end = (is_end l e).0;
          releases = ls;
          are_rows = tt;
          are_releases = releases_only (suc n) ls (rw (e, end_release (suc n) ls) at rest);
          whole = ap (λ z. z ∷ ls) (is_end l e).1;
        }

rows_clear : (rows ls : List Line) → All (Kind 3) rows → ((n : ℕ) → lines_fault case_order 3 n ls ≡ no_fault) → (n : ℕ)
    → lines_fault case_order 3 n (rows ++ ls) ≡ no_fault
unfolding All may_follow
rows_clear [] ls a h n = h n
rows_clear (l ∷ rows) ls a h n = fault_next 3 n 2 l (rows ++ ls) a.0 refl (rows_clear rows ls a.1 h (suc n))

tail_clear : (ls : List Line) → Tail ls → (n : ℕ) → lines_fault case_order 3 n ls ≡ no_fault
unfolding may_follow
tail_clear ls t n =
    let releases : (n : ℕ) → lines_fault case_order 4 n t.releases ≡ no_fault =
    λ n. end_release n t.releases ∙ releases_clear n t.releases t.are_releases in
    rw t.whole
    (rows_clear t.rows (End t.end ∷ t.releases) t.are_rows
    (λ n. fault_next 3 n 3 (End t.end) t.releases refl refl (releases (suc n))) n)

-- ---- after processors and policy: one task or more, the end, releases
pub record Body (ls : List Line) : Type 0 where
  pub task : Line
  pub others : List Line
  pub is_task : Kind 3 task
  pub tail : Tail others
  pub whole : ls ≡ task ∷ others

pub body_tail : (ls : List Line) → Body ls → Tail ls
body_tail ls b = rw b.whole (tail_more b.task b.others b.is_task b.tail)

body_of : (n : ℕ) (l : Line) (ls : List Line) → Kind 3 l → (lines_fault case_order (kind_of l) (suc n) ls).number ≡ 0
    → Body (l ∷ ls)
body_of n l ls e h = record { task = l; others = ls; is_task = e; tail = tail_of (suc n) ls (rw e at h); whole = refl }

body_after_policy : (n : ℕ) (ls : List Line) → (lines_fault case_order 2 n ls).number ≡ 0 → Body ls
unfolding lines_fault may_follow may_stop
body_after_policy n [] h = absurd (omega arith)
body_after_policy n (l ∷ ls) h = let c = lines_clear case_order 2 n l ls h in
    body_of n l ls (eqb-true (kind_of l) 3 (simp or-false at c.line.follows)) c.rest

body_clear : (ls : List Line) → Body ls → (n : ℕ) → lines_fault case_order 2 n ls ≡ no_fault
unfolding may_follow
body_clear ls b n = rw b.whole (fault_next 2 n 2 b.task b.others b.is_task refl (tail_clear b.others b.tail (suc n)))

-- ---- all lines of a text: the body stands after processors and a policy, or after processors alone
pub record Ordered (ls : List Line) : Type 0 where
  pub procs : ℕ
  pub after : List Line
  pub body : Body after
  pub whole : ((p : ℕ) × (ls ≡ Procs procs ∷ Policy p ∷ after)) ⊎ (ls ≡ Procs procs ∷ after)

ordered_after_procs : (n m : ℕ) (ls : List Line) → (lines_fault case_order 1 n ls).number ≡ 0 → Ordered (Procs m ∷ ls)
unfolding lines_fault may_follow may_stop
ordered_after_procs n m [] h = absurd (omega arith)
ordered_after_procs n m (l ∷ ls) h =
    let c = lines_clear case_order 1 n l ls h in
    go c.rest (one_of (kind_of l) 2 3 (simp or-false at c.line.follows))
  where
    go : (lines_fault case_order (kind_of l) (suc n) ls).number ≡ 0 → Kind 2 l ⊎ Kind 3 l → Ordered (Procs m ∷ l ∷ ls)
    go rest (inl e) =
        let (p, q) = is_policy l e in
        record {
          procs = m;
          after = ls;
          body = body_after_policy (suc n) ls (rw e at rest);
          whole =
              inl (p, ap (λ z. Procs m ∷ z ∷ ls) q);
        }
    go rest (inr e) = record { procs = m; after = l ∷ ls; body = body_of n l ls e rest; whole = inr refl }

pub ordered_of : (ls : List Line) → (lines_fault case_order 0 1 ls).number ≡ 0 → Ordered ls
unfolding lines_fault may_follow may_stop
ordered_of [] h = absurd (omega arith)
ordered_of (l ∷ ls) h =
    let c = lines_clear case_order 0 1 l ls h in
    let e : Kind 1 l = eqb-true (kind_of l) 1 (simp or-false at c.line.follows) in
    subst (λ z. Ordered (z ∷ ls)) (sym (is_procs l e).1) (ordered_after_procs 2 (is_procs l e).0 ls (rw e at c.rest))

-- lines so ordered have no fault, with the policy line and without it
pub bare_clear : (m : ℕ) (ls : List Line) → Body ls → lines_fault case_order 0 1 (Procs m ∷ ls) ≡ no_fault
unfolding may_follow
bare_clear m ls b =
    fault_next 0 1 0 (Procs m) ls refl refl
    (rw b.whole (fault_next 1 2 2 b.task b.others b.is_task refl (tail_clear b.others b.tail 3)))

pub ordered_clear : (m p : ℕ) (ls : List Line) → Body ls → lines_fault case_order 0 1 (Procs m ∷ Policy p ∷ ls) ≡ no_fault
unfolding may_follow
ordered_clear m p ls b = fault_next 0 1 0 (Procs m)
    (Policy p ∷ ls) refl refl (fault_next 1 2 1 (Policy p) ls refl refl (body_clear ls b 3))
