-- One byte more of a line: the steps of `field_byte`, `at_return` and `line_end` (feeds, LineScan) as the code takes them, and the set as
-- it
-- stands in an array.
use Rattle.std.specs.Prelude.{Some, None}
use mathlib.Core.Path.{◌≡◌, refl, sym, ap, ◌∙◌, fun_ext}
use mathlib.Core.Bool.{Bool, true, false, ◌&&◌}
use mathlib.Core.List.{List, []}
use Rattle.std.specs.Prelude.{◌⊎◌}
use Rattle.std.proofs.Common.{inl, inr}
use Prim.Native.Nat.{ℕ, zero, suc, ◌+◌, ◌*◌, ◌-◌, ◌^◌, ◌≤◌, ◌<◌}
use native.Mathlib.Nat.{pow-le-pow_right}
use native.Mathlib.Numerals.{add-one}
use native.Mathlib.Omega.{arith}
use lib.Dec.{eqb, leb}
use lib.ListN.{get_or, set, drop}
use borrow.Author.Tests.{ne_eqb, leb-true}
use Rattle.rules.specs.Words.{pick, tab}
use Rattle.rules.specs.Limits.{max_tasks}
use Rattle.rules.specs.Slot.{TaskSet}
use Rattle.rules.specs.Text.{return_byte, tab_byte, is_digit}
use Rattle.rules.specs.Log.{slot_word, set_named}
use Rattle.lists.specs.Tests.{and_left, and_right}
use Rattle.feeds.specs.NumScan.{num_so_far, fits, num_byte, num_end}
use Rattle.feeds.specs.LineScan.{LineScan, wrong, in_time, in_task, is_name, with_name, after_time}
use Rattle.feeds.specs.LineScan.{after_task, word_tab, word_byte, field_byte, Heard, heard_bad, heard, heard_time, heard_task, line_end}
use Rattle.feeds.specs.LineScan.{after_return, at_return, scan_byte}
use Rattle.feeds.specs.Bounds.{NumSmall, LineSmall}
use Rattle.heard.specs.declared.Phase.{Phase}
use Rattle.heard.specs.declared.Phase.TheVariants as Phase·
use Rattle.heard.specs.declared.Scan.{Scan}
use Rattle.lists.specs.Lists.{members}
use Rattle.heard.specs.Scans.{word_at, phase_as, scan_as, OfNumber, InNumber, next_low}

-- ---- the set
never_in : (n k i : ℕ) → get_or (tab (λ j. false) k n) i false ≡ false
unfolding tab
never_in zero k i = refl
never_in (suc n) k zero = refl
never_in (suc n) k (suc i) = never_in n (suc k) i

-- nobody is in an array without a mark
pub none_in : members (tab (λ j. false) 0 max_tasks) ≡ set_named []
unfolding set_named
none_in = fun_ext (λ i. never_in max_tasks 0 i)

-- ---- numbers
pub num_none : (k v : ℕ) → k ≡ 0 → num_end (num_so_far k v) ≡ None
unfolding num_end
num_none zero v e = refl
num_none (suc k) v e = absurd (omega arith)

pub num_some : (k v : ℕ) → (k ≡ 0 → ⊥) → num_end (num_so_far k v) ≡ Some v
unfolding num_end
num_some zero v h = absurd (h refl)
num_some (suc k) v h = refl

-- a task that is heard
pub task_heard : (k v t low : ℕ) (rises names : Bool) (s : TaskSet) {a b : Bool} {x : TaskSet} → (k ≡ 0 → ⊥)
    → a ≡ (rises && leb low v) → b ≡ (names && is_name v) → x ≡ with_name s v
    → heard t a b x ≡ heard_task t low rises names s (num_end (num_so_far k v))
task_heard k v t low rises names s h p q e = rw (num_some k v h, p, q, e)

-- what fits is a digit, and there are at most eight before it
pub fits_digit : (k v b : ℕ) → fits k v b ≡ true → (48 ≤ b) × (k ≤ 8)
fits_digit k v b e =
    let a = and_left (is_digit b && leb k 8) _ e in
    (leb-true 48 b (and_left (leb 48 b) _ (and_left (is_digit b) (leb k 8) a)), leb-true k 8 (and_right (is_digit b) (leb k 8) a))

pub small_worth : (k v : ℕ) → NumSmall (num_so_far k v) → k ≤ 8 → v < 10 ^ 8
small_worth k v h l = omega (arith, h.1, pow-le-pow_right {n = 10} (omega arith) {i = k} {j = 8} l)

-- and no tab
no_tab : (k v b : ℕ) → fits k v b ≡ true → eqb b tab_byte ≡ false
no_tab k v b e = ne_eqb b tab_byte (λ z. omega (arith, fits_digit k v b e))

-- the number so far of a small line is small
pub small_number : (p : Phase) (k v t low : ℕ) (rises names : Bool) (s : TaskSet) → OfNumber p
    → LineSmall (phase_as p k v t low rises names s) → NumSmall (num_so_far k v)
small_number p k v t low rises names s (inl e) h = rw e at h
small_number p k v t low rises names s (inr e) h = (rw e at h).2

-- ---- a number that ends
-- the next task is awaited, of which `low` is the least that rises
abbrev pub next_task : ℕ → Heard → LineScan
next_task low heard_bad = wrong
next_task low (heard t rises names set) = in_task t low rises names set 0 0

-- at a tab within a number: what is heard there, and then the next task
tab_next : (p : Phase) (k v t low : ℕ) (rises names : Bool) (s : TaskSet) → OfNumber p
    → field_byte (phase_as p k v t low rises names s) tab_byte
    ≡ next_task (next_low p v) (line_end (phase_as p k v t low rises names s))
unfolding field_byte line_end
tab_next p k v t low rises names s (inl e) = rw e (go k)
  where
    go : (k : ℕ) → after_time (num_end (num_so_far k v)) ≡ next_task 0 (heard_time (num_end (num_so_far k v)))
    go zero = unfold num_end in refl
    go (suc k) = unfold num_end in refl
tab_next p k v t low rises names s (inr e) = rw (e, add-one v) (go k)
  where
    go : (k : ℕ) → after_task t low rises names s (num_end (num_so_far k v))
        ≡ next_task (suc v) (heard_task t low rises names s (num_end (num_so_far k v)))
    go zero = unfold num_end in refl
    go (suc k) = unfold num_end in refl

-- what a field says at its end, and the state behind the tab
pub field_ended : (s : Scan) (xs : List Bool) (x : Heard) → InNumber s → x ≡ line_end (scan_as s xs)
    → next_task (next_low s.phase s.value) x ≡ field_byte (scan_as s xs) tab_byte
field_ended s xs x n e =
    rw e (sym (tab_next s.phase s.digits s.value s.time s.low s.rises s.names (members xs) n.of))

-- ---- a number that goes on
pub digit_more : (p : Phase) (k v t low : ℕ) (rises names : Bool) (s : TaskSet) (b : ℕ) → OfNumber p → fits k v b ≡ true
    → phase_as p (k + 1) (v * 10 + (b - 48)) t low rises names s ≡ field_byte (phase_as p k v t low rises names s) b
unfolding field_byte num_byte
digit_more p k v t low rises names s b (inl q) e = rw (q, no_tab k v b e, e, add-one k)
digit_more p k v t low rises names s b (inr q) e = rw (q, no_tab k v b e, e, add-one k)

pub number_wrong : (p : Phase) (k v t low : ℕ) (rises names : Bool) (s : TaskSet) (b : ℕ) → OfNumber p → fits k v b ≡ false
    → (b ≡ tab_byte → ⊥)
    → wrong ≡ field_byte (phase_as p k v t low rises names s) b
unfolding field_byte num_byte
number_wrong p k v t low rises names s b (inl q) e h = rw (q, ne_eqb b tab_byte h, e)
number_wrong p k v t low rises names s b (inr q) e h = rw (q, ne_eqb b tab_byte h, e)

-- ---- the word
word_step : (k b : ℕ) → field_byte (word_at k) b ≡ pick (eqb b tab_byte) (word_tab (drop k slot_word)) (word_byte (drop k slot_word) b)
unfolding field_byte
word_step zero b = refl
word_step (suc k) b = refl

-- behind its four letters nothing is left
word_over : (k : ℕ) → 4 ≤ k → drop k slot_word ≡ []
word_over zero h = absurd (omega arith)
word_over (suc zero) h = absurd (omega arith)
word_over (suc (suc zero)) h = absurd (omega arith)
word_over (suc (suc (suc zero))) h = absurd (omega arith)
word_over (suc (suc (suc (suc k)))) h = none k
  where
    none : (k : ℕ) → drop {A = ℕ} k [] ≡ []
    none zero = refl
    none (suc k) = refl

pub word_tab_here : (k b : ℕ) → 4 ≤ k → b ≡ tab_byte → field_byte (word_at k) b ≡ in_time 0 0
word_tab_here k b h q = word_step k b ∙ rw (word_over k h, q)

pub word_too_long : (k b : ℕ) → 4 ≤ k → (b ≡ tab_byte → ⊥) → field_byte (word_at k) b ≡ wrong
word_too_long k b h q = word_step k b ∙ rw (word_over k h, ne_eqb b tab_byte q)

-- ---- by the phase
-- neither a time nor a task ends here, and no return stands
word_ended : (k : ℕ) → heard_bad ≡ line_end (word_at k)
unfolding line_end
word_ended zero = refl
word_ended (suc k) = refl

pub none_ended : (p : Phase) (k v t low : ℕ) (rises names : Bool) (s : TaskSet) → (p ≡ Phase·.Word) ⊎ (p ≡ Phase·.Wrong)
    → heard_bad ≡ line_end (phase_as p k v t low rises names s)
unfolding line_end
none_ended p k v t low rises names s (inl e) = rw e (word_ended k)
none_ended p k v t low rises names s (inr e) = rw e

-- what is wrong stays wrong, and what a return ended becomes so
pub wrong_on : (p : Phase) (k v t low : ℕ) (rises names : Bool) (s : TaskSet) (b : ℕ) → (p ≡ Phase·.Wrong) ⊎ (p ≡ Phase·.Returned)
    → wrong ≡ field_byte (phase_as p k v t low rises names s) b
unfolding field_byte
wrong_on p k v t low rises names s b (inl e) = rw e
wrong_on p k v t low rises names s b (inr e) = rw e

-- ---- a return
pub scan_other : (x : LineScan) (b : ℕ) → (b ≡ return_byte → ⊥) → field_byte x b ≡ scan_byte x b
unfolding scan_byte
scan_other x b h = rw (ne_eqb b return_byte h)

-- behind what was heard so far
return_once : (p : Phase) (k v t low : ℕ) (rises names : Bool) (s : TaskSet) → (p ≡ Phase·.Returned → ⊥)
    → after_return (line_end (phase_as p k v t low rises names s)) ≡ scan_byte (phase_as p k v t low rises names s) return_byte
unfolding scan_byte at_return line_end
return_once Phase·.Word zero v t low rises names s h = refl
return_once Phase·.Word (suc k) v t low rises names s h = refl
return_once Phase·.Time k v t low rises names s h = refl
return_once Phase·.Task k v t low rises names s h = refl
return_once Phase·.Wrong k v t low rises names s h = refl
return_once Phase·.Returned k v t low rises names s h = absurd (h refl)

-- what the line says before the return is what it is heard as
pub return_heard : (s : Scan) (xs : List Bool) (x : Heard) → (s.phase ≡ Phase·.Returned → ⊥) → x ≡ line_end (scan_as s xs)
    → after_return x ≡ scan_byte (scan_as s xs) return_byte
return_heard s xs x h e =
    ap after_return e ∙ return_once s.phase s.digits s.value s.time s.low s.rises s.names (members xs) h

-- the word goes on, or not
pub in_word_lem : (p : Phase) (k v t low : ℕ) (rises names : Bool) (s : TaskSet) (b : ℕ) (x : LineScan) → p ≡ Phase·.Word
    → field_byte (word_at k) b ≡ x → x ≡ field_byte (phase_as p k v t low rises names s) b
in_word_lem p k v t low rises names s b x e q = rw e (sym q)

pub word_next : (p : Phase) (k v t low : ℕ) (rises names : Bool) (s : TaskSet) → p ≡ Phase·.Word
    → phase_as p k v t low rises names s ≡ word_at k
word_next p k v t low rises names s e = rw e

-- a tab or not, it is wrong
either : (e : Bool) {x : LineScan} → x ≡ wrong → pick e wrong x ≡ wrong
either true q = refl
either false q = q

-- the four letters, one by one
pub word_on : (k b : ℕ) → k < 4 → b ≡ get_or slot_word k 0 → field_byte (word_at k) b ≡ word_at (k + 1)
word_on zero b l e = rw e (word_step 0 _)
word_on (suc zero) b l e = rw e (word_step 1 _)
word_on (suc (suc zero)) b l e = rw e (word_step 2 _)
word_on (suc (suc (suc zero))) b l e = rw e (word_step 3 _)
word_on (suc (suc (suc (suc k)))) b l e = absurd (omega arith)

pub word_other : (k b : ℕ) → k < 4 → (b ≡ get_or slot_word k 0 → ⊥) → field_byte (word_at k) b ≡ wrong
word_other zero b l h = word_step 0 b ∙ either (eqb b tab_byte) (rw (ne_eqb b 115 h))
word_other (suc zero) b l h = word_step 1 b ∙ either (eqb b tab_byte) (rw (ne_eqb b 108 h))
word_other (suc (suc zero)) b l h = word_step 2 b ∙ either (eqb b tab_byte) (rw (ne_eqb b 111 h))
word_other (suc (suc (suc zero))) b l h = word_step 3 b ∙ either (eqb b tab_byte) (rw (ne_eqb b 116 h))
word_other (suc (suc (suc (suc k)))) b l h = absurd (omega arith)
