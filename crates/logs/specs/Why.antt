-- What each refusal of a log says (`lines_fault_in` of rules, Log): 17 and 18 name the first line at fault, all lines before it being well
-- formed and, before the end, keeping the rule; 19 is given only where no line is at fault. One of these holds of every log not accepted.
use Rattle.std.specs.Prelude.{◌≡◌, ◌||◌, ◌⊎◌, List, ℕ, zero, suc, ◌≤◌, ◌<◌, eqb, leb, length}
use Rattle.std.proofs.Math.Path.{refl}
use Rattle.std.proofs.Common.{sym, ap, ◌∙◌, inl}
use Rattle.std.proofs.Math.Bool.{Bool, true, false}
use Rattle.std.proofs.Math.Logic.{inr}
use Rattle.std.proofs.Math.Decide.{dec_le}
use native.Mathlib.Omega.{arith}
use borrow.Author.Tests.{eqb-true, eqb-false, le-leb, lt-leb}
use Rattle.rules.specs.declared.Fault.{Fault}
use Rattle.rules.specs.Case.{Case}
use Rattle.rules.specs.Replay.{setup_in}
use Rattle.rules.specs.Refusals.{no_fault, fault_of, unless, or_next, first_of}
use Rattle.rules.specs.Log.{LogLine, tasks_of, well_formed, slot_stands, opened_by, line_at, sets_of, line_fault, lines_fault_in}
use Rattle.legal.specs.Firsts.{first_of_clear}
use Rattle.legal.specs.Firsts.{next_none, next_some}

-- ---- the first fault of many tests is that of the first test that fails
pub record Found (f : ℕ → Fault) (n : ℕ) : Type 0 where
  pub at : ℕ
  pub within : at < n
  pub is : first_of f n ≡ f at
  pub some : (f at).number ≡ 0 → ⊥
  pub before : (j : ℕ) → j < at → (f j).number ≡ 0

pub first_found : (f : ℕ → Fault) (n : ℕ) → ((first_of f n).number ≡ 0) ⊎ Found f n
unfolding first_of
first_found f zero = inl refl
first_found f (suc n) = go (first_found f n) (eqb (f n).number 0) refl
  where
    go : ((first_of f n).number ≡ 0) ⊎ Found f n → (b : Bool) → eqb (f n).number 0 ≡ b
        → ((or_next (first_of f n) (f n)).number ≡ 0) ⊎ Found f (suc n)
    go (inl e) true q = inl (ap (λ (x : Fault). x.number) (next_none (first_of f n) (f n) e) ∙ eqb-true _ _ q)
    go (inl e) false q = inr (record {
      at = n;
      within = omega arith;
      is = unfold first_of in next_none (first_of f n) (f n) e;
      some = eqb-false _ _ q;
      before = first_of_clear f n e;
    })
    go (inr w) b q = inr (record {
      at = w.at;
      within = omega (arith, w.within);
      is = unfold first_of in next_some (first_of f n) (f n) (λ z. w.some (ap (λ (x : Fault). x.number) (sym w.is) ∙ z)) ∙ w.is;
      some = w.some;
      before = w.before;
    })

module _ (c : Case) (ls : List LogLine) where
  -- the line with n lines before it keeps the rule of its slot
  abbrev keeps : ℕ → Bool
  keeps n = slot_stands (setup_in c) n (opened_by c (sets_of ls) n) (tasks_of (line_at ls n))

  -- 17: the first line at fault is badly formed
  pub record BadForm (f : Fault) : Type 0 where
    pub at : ℕ
    pub within : at < length ls
    pub before : (j : ℕ) → j < at → (line_fault c ls j).number ≡ 0
    pub bad : well_formed at (line_at ls at) ≡ false
    pub is : f ≡ fault_of 17 (suc at)

  -- 18: it is well formed, stands before the end and breaks the rule
  pub record BrokenRule (f : Fault) : Type 0 where
    pub at : ℕ
    pub within : at < length ls
    pub before : (j : ℕ) → j < at → (line_fault c ls j).number ≡ 0
    pub good : well_formed at (line_at ls at) ≡ true
    pub early : at < c.end
    pub broken : slot_stands (setup_in c) at (opened_by c (sets_of ls) at) (tasks_of (line_at ls at)) ≡ false
    pub is : f ≡ fault_of 18 (suc at)

  -- 19: no line is at fault, and there are not `end` of them
  pub record OtherNumber (f : Fault) : Type 0 where
    pub before : (j : ℕ) → j < length ls → (line_fault c ls j).number ≡ 0
    pub other : length ls ≡ c.end → ⊥
    pub is : f ≡ fault_of 19 0

  one_line : (n : ℕ) → n < length ls → ((j : ℕ) → j < n → (line_fault c ls j).number ≡ 0)
      → ((line_fault c ls n).number ≡ 0 → ⊥)
      → BadForm (line_fault c ls n) ⊎ BrokenRule (line_fault c ls n)
  unfolding line_fault
  one_line n h before some = go (well_formed n (line_at ls n)) refl (dec_le c.end n) (keeps n) refl before some
    where
      line : Bool → Bool → Fault
      line x y = or_next (unless x 17 (suc n)) (or_next (unless y 18 (suc n)) no_fault)

      go : (x : Bool) → well_formed n (line_at ls n) ≡ x → Dec (c.end ≤ n) → (y : Bool) → keeps n ≡ y
          → ((j : ℕ) → j < n → (line_fault c ls j).number ≡ 0)
          → ((line (well_formed n (line_at ls n)) (leb c.end n || keeps n)).number ≡ 0 → ⊥)
          → BadForm (line (well_formed n (line_at ls n)) (leb c.end n || keeps n)) ⊎ BrokenRule
          (line (well_formed n (line_at ls n)) (leb c.end n || keeps n))
      go false p d y q b s = inl (record { at = n; within = h; before = b; bad = p; is = unfold or_next in rw p })
      go true p (yes d) y q b s = absurd (s (unfold or_next in rw (p, le-leb c.end n d)))
      go true p (no d) true q b s =
          let l : n < c.end = omega arith in
          absurd (s (unfold or_next in rw (p, lt-leb c.end n l, q)))
      go true p (no d) false q b s =
          let l : n < c.end = omega arith in
          inr (record {
            at = n;
            within = h;
            before = b;
            good = p;
            early = l;
            broken = q;
            is = unfold or_next in rw
                (p, lt-leb c.end n l, q);
          })

  -- every log is without fault, or refused for just one of these
  pub why : ((lines_fault_in c ls).number ≡ 0) ⊎
      (BadForm (lines_fault_in c ls) ⊎ (BrokenRule (lines_fault_in c ls) ⊎ OtherNumber (lines_fault_in c ls)))
  unfolding lines_fault_in
  why = go (first_found (line_fault c ls) (length ls)) (eqb (length ls) c.end) refl
    where
      last : Bool → Fault
      last b = or_next (first_of (line_fault c ls) (length ls)) (or_next (unless b 19 0) no_fault)

      turn : (f g : Fault) → f ≡ g → BadForm g ⊎ BrokenRule g → BadForm f ⊎ (BrokenRule f ⊎ OtherNumber f)
      turn f g e (inl w) = inl (record { at = w.at; within = w.within; before = w.before; bad = w.bad; is = e ∙ w.is })
      turn f g e (inr w) = inr
          (inl (record {
            at = w.at;
            within = w.within;
            before = w.before;
            good = w.good;
            early = w.early;
            broken = w.broken;
            is = e
                ∙ w.is;
          }))

      go : ((first_of (line_fault c ls) (length ls)).number ≡ 0) ⊎ Found (line_fault c ls) (length ls) → (b : Bool)
          → eqb (length ls) c.end ≡ b
          → ((last (eqb (length ls) c.end)).number ≡ 0) ⊎
          (BadForm (last (eqb (length ls) c.end)) ⊎
          (BrokenRule (last (eqb (length ls) c.end)) ⊎ OtherNumber (last (eqb (length ls) c.end))))
      go (inl e) true q = inl
          (ap (λ (x : Fault). x.number) (next_none (first_of (line_fault c ls) (length ls)) _ e) ∙ (unfold or_next in rw q))
      go (inl e) false q = inr (inr (inr (record {
        before = first_of_clear (line_fault c ls) (length ls) e;
        other = eqb-false _ _ q;
        is = next_none (first_of (line_fault c ls) (length ls)) _ e ∙ (unfold or_next in rw q);
      })))
      go (inr w) b q = inr (turn _ _
          (next_some (first_of (line_fault c ls) (length ls)) _ (λ z. w.some (ap (λ (x : Fault). x.number) (sym w.is) ∙ z))
          ∙ w.is)
          (one_line w.at w.within w.before w.some))
