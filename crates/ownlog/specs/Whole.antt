-- The pieces of our own log, written one after the other from the start until the clock is the end, are our own log (rules, Log).
use Rattle.std.specs.Prelude.{◌≡◌, refl, List, [], ◌++◌, ℕ, suc, ◌+◌, ◌-◌, ◌≤◌, length, take, drop}
use Rattle.std.proofs.Common.{sym, ap, ◌∙◌, append-nil, zero-add, add-one, arith, take_at}
use Rattle.rules.specs.Words.{tab}
use Rattle.rules.specs.Case.{Case}
use Rattle.rules.specs.Writer.{joined_text}
use Rattle.rules.specs.Log.{log_text, own_log}
use Rattle.lists.specs.Lists.{tab-append, joined-append}
use Rattle.puts.proofs.Puts.{laid_front}
use Rattle.ownlog.specs.declared.Play.{Play}
use Rattle.ownlog.specs.Pieces.{slot_line_at, slots_text, Wrote}

-- ---- lines of slots that follow one another
-- those of m slots, and behind them those of the next n
pub slots_join : (c : Case) (a m n : ℕ) → slots_text c a (m + n) ≡ slots_text c a m ++ slots_text c (a + m) n
unfolding slots_text
slots_join c a m n = ap joined_text (tab-append (slot_line_at c) a m n)
    ∙ joined-append (tab (slot_line_at c) a m) (tab (slot_line_at c) (a + m) n)

pub slots_none : (c : Case) (a : ℕ) → slots_text c a 0 ≡ []
unfolding slots_text tab joined_text
slots_none c a = refl

-- a slot more
pub slots_more : (c : Case) (a n : ℕ) → slots_text c a (suc n) ≡ slots_text c a n ++ slot_line_at c (a + n)
unfolding slots_text tab joined_text
slots_more c a n =
    rw (add-one n) at (slots_join c a n 1) ∙ ap (λ (l : List ℕ). slots_text c a n ++ l) (append-nil (slot_line_at c (a + n)))

-- those of all slots
pub slots_all : (c : Case) → slots_text c 0 c.end ≡ own_log c
unfolding slots_text own_log log_text
slots_all c = refl

-- ---- a caller that writes piece after piece
-- what has been written when the replay has come to the time: the lines of the slots before it
pub record Told (c : Case) (clock : ℕ) (text : List ℕ) : Type 0 where
  pub lines : text ≡ slots_text c 0 clock

-- nothing, at the start
pub told_none : (c : Case) → Told c 0 []
told_none c = record { lines = sym (slots_none c 0) }

-- a piece more: the bytes that its writer says are written
pub told_more : (c : Case) (a : ℕ) (q : Play) (old new : List ℕ) (n : ℕ) → Wrote c a q old new n → (text : List ℕ)
    → Told c a text → Told c q.clock (text ++ take n new)
told_more c a q old new n w text t =
    let piece = slots_text c a (q.clock - a) in
    let long : length piece ≡ n = omega (arith, w.laid.behind) in
    let fits : length piece ≤ length old = omega (arith, w.fits) in
    let front : take n new ≡ piece = ap (take n) (laid_front w.laid fits) ∙ take_at piece (drop (length piece) old) n long in
    let whole : a + (q.clock - a) ≡ q.clock = omega (arith, w.onward) in
    record { lines = rw (front, t.lines) (sym (rw (whole, zero-add a) at (slots_join c 0 a (q.clock - a)))) }

-- once the clock is the end, our own log has been written
pub told_all : (c : Case) (clock : ℕ) (text : List ℕ) → Told c clock text → clock ≡ c.end → text ≡ own_log c
told_all c clock text t e = t.lines ∙ ap (slots_text c 0) e ∙ slots_all c
