-- A time at which no release is due, in a trace in order: nothing is released then, and the next time finds the trace as this one does.
-- Cited by whoever leaves out steps of such a slot.
use Rattle.std.specs.Prelude.{◌≡◌, false, ◌⊎◌, List, ℕ, suc, ◌≤◌, ◌<◌}
use Rattle.std.proofs.Common.{sym, true≢false, inl, inr, eq-or-lt_of_le, arith, eq-eqb, lt-ltb}
use Rattle.std.proofs.Math.Decide.{dec_le}
use Rattle.rules.specs.Case.{release_count, time_of}
use Rattle.rules.specs.Replay.{released_in}
use Rattle.bridge.specs.Records.{released_no}
use Rattle.bridge.specs.Turn.{Reached}
use Rattle.traces.specs.Traces.{Orderly, due}

module _ (rs : List ℕ) (o : Orderly rs) (next t : ℕ) (w : Reached rs next t) (d : due rs next t ≡ false) where
  not_now : next < release_count rs → time_of rs next ≡ t → ⊥
  not_now h e = true≢false (rw (lt-ltb next (release_count rs) h, eq-eqb (time_of rs next) t e) at d)

  after_now : (j : ℕ) → next ≤ j → j < release_count rs → suc t ≤ time_of rs j
  after_now j h l =
      let first : next < release_count rs = omega arith in
      let x = w.behind next (omega arith) first in
      let y : suc t ≤ time_of rs next = go (eq-or-lt_of_le {n = t} {m = time_of rs next} x) first in
      omega (arith, o.sorted next j h l)
    where
      go : (t ≡ time_of rs next) ⊎ (t < time_of rs next) → next < release_count rs → suc t ≤ time_of rs next
      go (inl e) f = absurd (not_now f (sym e))
      go (inr h) f = h

  pub reached_next : Reached rs next (suc t)
  reached_next = record { within = w.within; before = λ j h. omega (arith, w.before j h); behind = after_now }

  pub none_now : (i : ℕ) → released_in rs (release_count rs) t i ≡ false
  none_now i = released_no rs (release_count rs) t i (λ j h e f. none j h e (dec_le next j))
    where
      none : (j : ℕ) → j < release_count rs → time_of rs j ≡ t → Dec (next ≤ j) → ⊥
      none j h e (yes p) = omega (arith, after_now j p h)
      none j h e (no p) = omega (arith, w.before j (omega arith))
