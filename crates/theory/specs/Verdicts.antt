-- Verdicts (document 01, "What happens at time t, in this order": met, finished; missed, unfinished at a deadline ≤ end; open, unfinished
-- with a later one) and their totals: laws of `verdict_of` and `marked` (rules, Replay). For Demand3, Endings and Laws.
use Rattle.std.specs.Prelude.{◌≡◌, refl, Bool, true, false, ℕ, zero, suc, ◌+◌, ◌-◌, ◌≤◌, ◌<◌, eqb, leb}
use Rattle.std.proofs.Common.{arith}
use Rattle.rules.specs.Words.{bit, sum, count_in, tab}
use Rattle.rules.specs.Case.{Case, deadline, time_of, name_of}
use Rattle.rules.specs.Replay.{finish_by, verdict_of, verdict_by, record_by, marked}
use Rattle.lists.specs.Sums.{sum_head}

pub met_by_finish : (f : ℕ) (come : Bool) → 0 < f → verdict_of f come ≡ 1
met_by_finish zero come h = absurd (omega arith)
met_by_finish (suc f) come h = refl

pub finish_of_met : (f : ℕ) (come : Bool) → verdict_of f come ≡ 1 → 0 < f
finish_of_met zero true e = absurd (omega arith)
finish_of_met zero false e = absurd (omega arith)
finish_of_met (suc f) come e = omega arith

pub missed_says : (f : ℕ) (come : Bool) → verdict_of f come ≡ 2 → (f ≡ 0) × (come ≡ true)
missed_says zero true e = (refl, refl)
missed_says zero false e = absurd (omega arith)
missed_says (suc f) come e = absurd (omega arith)

pub open_says : (f : ℕ) (come : Bool) → verdict_of f come ≡ 3 → (f ≡ 0) × (come ≡ false)
open_says zero true e = absurd (omega arith)
open_says zero false e = (refl, refl)
open_says (suc f) come e = absurd (omega arith)

-- ---- each record is marked with just one of the three
verdict_lies : (f : ℕ) (come : Bool) → (1 ≤ verdict_of f come) × (verdict_of f come ≤ 3)
verdict_lies zero true = (omega arith, omega arith)
verdict_lies zero false = (omega arith, omega arith)
verdict_lies (suc f) come = (omega arith, omega arith)

pub one_of_three : (c : Case) (e j : ℕ) → (1 ≤ (record_by c e j).verdict) × ((record_by c e j).verdict ≤ 3)
unfolding record_by verdict_by
one_of_three c e j =
    let i = name_of c.trace j - 1 in
    let a = time_of c.trace j in
    verdict_lies (finish_by c i a e) (leb (a + deadline c.table i) e)

one_mark : (f : ℕ) (come : Bool) → bit (eqb (verdict_of f come) 1) + bit (eqb (verdict_of f come) 2) + bit (eqb (verdict_of f come) 3)
    ≡ 1
one_mark zero true = refl
one_mark zero false = refl
one_mark (suc f) come = refl

pub all_marked : (c : Case) (e k n : ℕ)
    → marked 1 (tab (record_by c e) k n) + marked 2 (tab (record_by c e) k n) + marked 3 (tab (record_by c e) k n) ≡ n
unfolding marked tab record_by verdict_by
all_marked c e k zero = refl
all_marked c e k (suc n) =
    let i = name_of c.trace k - 1 in
    let a = time_of c.trace k in
    omega (arith, all_marked c e (suc k) n, one_mark (finish_by c i a e) (leb (a + deadline c.table i) e))

marked_more : (c : Case) (e v k n : ℕ)
    → marked v (tab (record_by c e) (suc k) n) ≡ count_in (λ j. eqb (record_by c e j).verdict v) (suc k) n
    → marked v (tab (record_by c e) k (suc n)) ≡ count_in (λ j. eqb (record_by c e j).verdict v) k (suc n)
unfolding marked tab
marked_more c e v k n h = omega (arith, h, sum_head (λ j. bit (eqb (record_by c e j).verdict v)) k n)

-- a total is a count of releases
pub marked-count : (c : Case) (e v k n : ℕ) → marked v (tab (record_by c e) k n) ≡ count_in (λ j. eqb (record_by c e j).verdict v) k n
unfolding marked tab sum
marked-count c e v k zero = refl
marked-count c e v k (suc n) = marked_more c e v k n (marked-count c e v (suc k) n)
