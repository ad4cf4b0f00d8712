-- What one slot writes: the record of a task's job (`record_by` of rules, Replay) changes only where the job finishes or is demoted in the
-- slot, or is to be removed as missed right after it; and what it is then. The proofs of the replay cite it: it writes nothing else.
use Rattle.std.specs.Prelude.{◌≡◌, refl, Bool, true, false, ◌&&◌, ◌||◌, ℕ, suc, ◌<◌, eqb, leb}
use Rattle.std.proofs.Math.Path.{ap}
use Rattle.std.proofs.Common.{sym, ◌∙◌, true≢false, arith, eqb-true, le-leb}
use Rattle.std.proofs.Math.Bool.{and-false}
use Rattle.std.proofs.lemmas.Bool.{eqb-false, lt-leb}
use Rattle.rules.specs.Words.{pick}
use Rattle.rules.specs.Limits.{max_tasks}
use Rattle.rules.specs.Case.{Case, release_count, name_of}
use Rattle.rules.specs.Policies.{demoting}
use Rattle.rules.specs.Slot.{is_present, is_last, due_of, is_missed, worked_job, missed}
use Rattle.rules.specs.Replay.{ran_at, finished_at, missed_at, demoted_at, verdict_of, Record, record_of, record_by}
use Rattle.rules.specs.declared.Job.{Job}
use Rattle.bridge.specs.Jobs.{goes_on, absent-demotes}
use Rattle.bridge.specs.Stands.{ready_at, open_at, kept_at, finished_at_lem, demoted_at_lem, ran-present, next_at}
use Rattle.legal.specs.Legal.{Legal}
use Rattle.bridge.specs.Records.{noted}
use Rattle.bridge.specs.Turn.{last_place, Reached, Lives, turn_idle, turn_live}

-- whether anything is written
abbrev pub event : Bool → Bool → Bool → Bool
event fin dem missed = fin || dem || missed

-- what is written: finished at t + 1, demoted at t, or removed as missed at t + 1; d is the demotion so far
abbrev pub entry : ℕ → Bool → Bool → Bool → ℕ → Record
entry t fin dem missed d = record_of (pick fin 1 (pick missed 2 3)) (pick fin (suc t) 0) (pick dem (suc t) d)

-- ---- one job
-- a job that is there and does not finish is there after the slot, with its deadline
pub record Stays (o n : Job) : Type 0 where
  pub there : is_present n ≡ true
  pub due : due_of n ≡ due_of o

stays : (o : Job) (ran : Bool) → is_present o ≡ true → (ran && is_last o) ≡ false → Stays o (pick ran (worked_job o) o)
stays o false p e = record { there = p; due = refl }
stays o true p e = let g = goes_on o e in record { there = g.there ∙ p; due = g.due }

-- a deadline that is still to come has come after one slot more just where it is then
just_come : (t due : ℕ) → t < due → leb due (suc t) ≡ eqb due (suc t)
just_come t due h = go (eqb due (suc t)) refl
  where
    go : (b : Bool) → eqb due (suc t) ≡ b → leb due (suc t) ≡ b
    go true e = le-leb due (suc t) (omega (arith, eqb-true due (suc t) e))
    go false e = lt-leb due (suc t) (strict (eqb-false due (suc t) e))
      where
        strict : (due ≡ suc t → ⊥) → suc t < due
        strict n = omega (arith, n)

noted-entry : (t due d : ℕ) (fin dem missed : Bool) → (fin ≡ false → leb due (suc t) ≡ missed)
    → noted t fin dem due d ≡ entry t fin dem missed d
noted-entry t due d true dem missed h = refl
noted-entry t due d false dem missed h = rw (h refl) (go missed)
  where
    go : (b : Bool) → record_of (verdict_of 0 b) 0 (pick dem (suc t) d) ≡ record_of (pick b 2 3) 0 (pick dem (suc t) d)
    go true = refl
    go false = refl

-- ---- the job of task i in the slot at t
module _ (c : Case) (t i : ℕ) (l : i < max_tasks) where
  abbrev fin : Bool
  fin = finished_at c t i

  abbrev dem : Bool
  dem = demoted_at c t i

  abbrev missed_next : Bool
  missed_next = missed_at c (suc t) i

  missed_here : missed_next ≡ is_missed (suc t) (pick (ran_at c t i) (worked_job (open_at c t i)) (open_at c t i))
  unfolding missed_at missed
  missed_here = ap (is_missed (suc t)) (next_at c i l t)

  -- of a task that is not there nothing is written
  absent : is_present (open_at c t i) ≡ false → event fin dem missed_next ≡ false
  absent e =
      let r = ran-present c i l t e in
      let a : fin ≡ false = finished_at_lem c i l t ∙ rw r in
      let b : dem ≡ false =
      demoted_at_lem c i l t ∙ rw (absent-demotes (ready_at c t i) (sym (kept_at c t i).there ∙ e)) (and-false (demoting c.policy)) in
      let d : missed_next ≡ false = missed_here ∙ rw (r, e) in
      rw (a, b, d)

  -- one that is there and does not finish is missed at t + 1 where its deadline is then
  missed-due : is_present (open_at c t i) ≡ true → fin ≡ false → t < due_of (open_at c t i)
      → leb (due_of (open_at c t i)) (suc t) ≡ missed_next
  missed-due p e h =
      let s = stays (open_at c t i) (ran_at c t i) p (sym (finished_at_lem c i l t) ∙ e) in
      just_come t (due_of (open_at c t i)) h ∙ sym (missed_here ∙ rw (s.there, s.due))

  module _ (g : Legal c) (k : ℕ) (w : Reached c.trace k (suc t)) where
    abbrev p : ℕ
    p = last_place c.trace k (suc i)

    -- what the slot writes, as the record of the task's last release, and that no other record of the task changes
    pub record Entered : Type 0 where
      pub within : p < release_count c.trace
      pub its : name_of c.trace p ≡ suc i
      pub new : record_by c (suc t) p ≡ entry t fin dem missed_next (record_by c t p).demotion
      pub others : (j : ℕ) → j < release_count c.trace → name_of c.trace j ≡ suc i → (j ≡ p → ⊥)
          → record_by c (suc t) j ≡ record_by c t j

    there : is_present (open_at c t i) ≡ true → Lives c g t k w i l → Entered
    there e v = record {
      within = v.within;
      its = v.its;
      new = v.new ∙ noted-entry t (due_of (open_at c t i))
          (record_by c t p).demotion fin dem missed_next (λ f. missed-due e f v.early);
      others = v.others;
    }

    -- where something is written, it is written of the task's last release
    pub turn-event : event fin dem missed_next ≡ true → Entered
    turn-event e = go (is_present (open_at c t i)) refl
      where
        go : (b : Bool) → is_present (open_at c t i) ≡ b → Entered
        go true q = there q (turn_live c g t k w i l q)
        go false q = absurd (true≢false (sym e ∙ absent q))

    -- where nothing is, no record of the task changes
    pub turn_quiet : event fin dem missed_next ≡ false
        → (j : ℕ) → j < release_count c.trace → name_of c.trace j ≡ suc i → record_by c (suc t) j ≡ record_by c t j
    turn_quiet e j h q = go (is_present (open_at c t i)) refl
      where
        none : (a b d : Bool) → event a b d ≡ false → (x : ℕ) → entry t a b d x ≡ record_of 3 0 x
        none true b d e x = absurd (true≢false e)
        none false true d e x = absurd (true≢false e)
        none false false true e x = absurd (true≢false e)
        none false false false e x = refl

        last : Lives c g t k w i l → Entered → (b : Bool) → eqb j p ≡ b → record_by c (suc t) j ≡ record_by c t j
        last v u true z =
            let y : j ≡ p = eqb-true j p z in
            rw y (u.new ∙ none fin dem missed_next e (record_by c t p).demotion ∙ sym v.old)
        last v u false z = u.others j h q (eqb-false j p z)

        go : (b : Bool) → is_present (open_at c t i) ≡ b → record_by c (suc t) j ≡ record_by c t j
        go false z = turn_idle c g t k w i l z j h q
        go true z = let v = turn_live c g t k w i l z in last v (there z v) (eqb j p) refl
