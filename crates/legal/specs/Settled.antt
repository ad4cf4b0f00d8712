-- How a call settles: laws of `settled` and `kept` (rules, Answers). A refusal gives number and place and leaves its room; and an answer
-- in document 01's numbers is that of one case of its enum alone. For Decided and the proofs of the calls on numbers.
use Rattle.std.specs.Prelude.{◌≡◌, refl, Bool, true, false, List, [], ℕ, eqb, get_or}
use Rattle.std.proofs.Common.{ap, sym, ◌∙◌}
use Rattle.std.proofs.lemmas.Bool.{false≢true, eqb-false}
use borrow.Author.Tests.{eqb-true, eq-eqb, ne_eqb}
use Rattle.std.specs.Prelude.{Result, Ok, Err}
use Rattle.rules.specs.declared.Fault.{Fault}
use Rattle.rules.specs.declared.Totals.{Totals}
use Rattle.rules.specs.declared.Taken.{Taken}
use Rattle.rules.specs.Words.{pick}
use Rattle.rules.specs.Refusals.{fault_of, no_fault, checked}
use Rattle.legal.specs.Firsts.{clear_checked}
use Rattle.rules.specs.Answers.{Answer, refusal, result, settled, kept, answer_as, counted_as, replayed_as, running_as, taken_as}
use Rattle.rules.specs.Answers.{written_as, logged_as, total_values, taken_values}

-- ---- x is what the checks found: a fault, or none
module _ (x f : Fault) (e : x ≡ f) where
  pub refuses : (vs : List ℕ) → (x.number ≡ 0 → ⊥) → refusal x.number x.place ≡ settled f vs
  unfolding settled
  refuses vs h = rw (← e, ne_eqb x.number 0 h)

  pub leaves : (new old : List ℕ) → (x.number ≡ 0 → ⊥) → old ≡ kept f new old
  unfolding kept
  leaves new old h = rw (← e, ne_eqb x.number 0 h)

  pub settles : (vs : List ℕ) → x.number ≡ 0 → result vs ≡ settled f vs
  unfolding settled
  settles vs h = rw (← e, eq-eqb x.number 0 h)

  pub puts : (new old : List ℕ) → x.number ≡ 0 → new ≡ kept f new old
  unfolding kept
  puts new old h = rw (← e, eq-eqb x.number 0 h)

  pub clear : x.number ≡ 0 → f.number ≡ 0
  clear h = ap (λ (u : Fault). u.number) (sym e) ∙ h

-- ---- f is what a check is made of (rules, Refusals, `checked`): it answers a fault g, or none
module _ (f : Fault) where
  pub checked_fault : (g : Fault) → checked f ≡ Err g → (g ≡ f) × (f.number ≡ 0 → ⊥)
  checked_fault g = go (eqb f.number 0) refl
    where
      go : (b : Bool) → eqb f.number 0 ≡ b → ◌≡◌ {A = Result (Unit {0}) Fault} (pick b (Ok tt) (Err f)) (Err g)
          → (g ≡ f) × (f.number ≡ 0 → ⊥)
      go true q e = absurd cc
      go false q e = (cc, eqb-false _ _ q)

  pub refuses_with : (g : Fault) (vs : List ℕ) → checked f ≡ Err g → refusal g.number g.place ≡ settled f vs
  refuses_with g vs e = let w = checked_fault g e in rw w.0 (refuses f f refl vs w.1)

  pub leaves_with : (g : Fault) (new old : List ℕ) → checked f ≡ Err g → old ≡ kept f new old
  leaves_with g new old e = leaves f f refl new old (checked_fault g e).1

  pub settles_with : (vs : List ℕ) → checked f ≡ Ok tt → result vs ≡ settled f vs
  settles_with vs e = settles f f refl vs (clear_checked f e)

  pub puts_with : (new old : List ℕ) → checked f ≡ Ok tt → new ≡ kept f new old
  puts_with new old e = puts f f refl new old (clear_checked f e)

-- ---- where nothing is at fault the values are the result and the room is the new one
pub settled_clear : (f : Fault) (vs : List ℕ) → f.number ≡ 0 → settled f vs ≡ result vs
settled_clear f vs h = sym (settles f f refl vs h)

pub kept_new : (f : Fault) (new old : List ℕ) → f.number ≡ 0 → kept f new old ≡ new
kept_new f new old h = sym (puts f f refl new old h)

-- ---- a result is no refusal: a call that gives one found nothing at fault, and these are its values
abbrev is_result : Answer → Bool
is_result (refusal n p) = false
is_result (result vs) = true

abbrev pub values_of : Answer → List ℕ
values_of (refusal n p) = []
values_of (result vs) = vs

abbrev fault_in : Answer → Fault
fault_in (refusal n p) = fault_of n p
fault_in (result vs) = no_fault

pub no_refusal : (n p : ℕ) (vs : List ℕ) → refusal n p ≡ result vs → ⊥
no_refusal n p vs e = false≢true (ap is_result e)

pub settled_result : (f : Fault) (vs ws : List ℕ) → settled f vs ≡ result ws → (f.number ≡ 0) × (vs ≡ ws)
unfolding settled
settled_result f vs ws = go (eqb f.number 0) refl
  where
    go : (b : Bool) → eqb f.number 0 ≡ b → pick b (result vs) (refusal f.number f.place) ≡ result ws
        → (f.number ≡ 0) × (vs ≡ ws)
    go true q e = (eqb-true _ _ q, ap values_of e)
    go false q e = absurd (no_refusal _ _ _ e)

pub result_clear : (f : Fault) (vs ws : List ℕ) → settled f vs ≡ result ws → f.number ≡ 0
result_clear f vs ws e = (settled_result f vs ws e).0

-- ---- an answer in the document's numbers is that of one case alone, if one list of values is that of one result alone
answered_once : {A : Type 0} (values : A → List ℕ) → ((a b : A) → values a ≡ values b → a ≡ b)
    → (x y : Result A Fault) → answer_as values x ≡ answer_as values y → x ≡ y
answered_once values once (Ok a) (Ok b) e = ap Ok (once a b (ap values_of e))
answered_once values once (Ok a) (Err f) e = absurd (no_refusal _ _ _ (sym e))
answered_once values once (Err f) (Ok b) e = absurd (no_refusal _ _ _ e)
answered_once values once (Err f) (Err g) e = ap Err (ap fault_in e)

pub counted_once : (x y : Result ℕ Fault) → counted_as x ≡ counted_as y → x ≡ y
counted_once = answered_once _ (λ a b e. cc)

abbrev totals_in : List ℕ → Totals
totals_in vs = record { met = get_or vs 0 0; missed = get_or vs 1 0; «open» = get_or vs 2 0 }

pub replayed_once : (x y : Result Totals Fault) → replayed_as x ≡ replayed_as y → x ≡ y
replayed_once = answered_once total_values (λ a b e. ap totals_in e)

pub running_once : (x y : Result ℕ Fault) → running_as x ≡ running_as y → x ≡ y
running_once = answered_once _ (λ a b e. cc)

abbrev taken_in : List ℕ → Taken
taken_in vs =
    record {
      procs = get_or vs 0 0;
      policy = get_or vs 1 0;
      end = get_or vs 2 0;
      tasks = get_or vs 3 0;
      releases = get_or vs 4 0;
    }

pub taken_once : (x y : Result Taken Fault) → taken_as x ≡ taken_as y → x ≡ y
taken_once = answered_once taken_values (λ a b e. ap taken_in e)

pub written_once : (x y : Result ℕ Fault) → written_as x ≡ written_as y → x ≡ y
written_once = answered_once _ (λ a b e. cc)

pub logged_once : (x y : Result (Unit {0}) Fault) → logged_as x ≡ logged_as y → x ≡ y
logged_once = answered_once _ (λ a b e. refl)
