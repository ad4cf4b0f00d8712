-- What is released from a time on changes nothing before it: two traces with the same sets released before e have the same states up to e,
-- and the same records (rules, Replay) of the jobs whose deadline is not after e. For `later_releases` in Laws.
use Rattle.std.specs.Prelude.{◌≡◌, List}
use Rattle.std.proofs.Math.Path.{refl, ap, ap₂, sym, fun_ext}
use Rattle.std.proofs.Common.{◌∙◌, arith}
use Prim.Native.Nat.{ℕ, zero, suc, ◌+◌, ◌-◌, min, ◌≤◌, ◌<◌}
use Rattle.rules.specs.Case.{Case, case_of, deadline}
use Rattle.rules.specs.Slot.{TaskSet, after, finished, demoted_now}
use Rattle.rules.specs.Replay.{setup_in, released_at, state_from, state_at, finished_at, demoted_at, slots_by, finish_by, demotion_by}
use Rattle.rules.specs.Replay.{verdict_by}
use Rattle.rules.specs.Replay.{job_record}
use Rattle.bridge.specs.Stands.{state_next}
use Rattle.theory.specs.Counting.{first_cong}

-- the same case with another trace
abbrev pub retraced : List ℕ → Case → Case
retraced rs c = case_of c.procs c.policy c.table c.end rs

module _ (c : Case) (rs : List ℕ) (e : ℕ) (same : (t i : ℕ) → t < e → released_at c t i ≡ released_at (retraced rs c) t i) where
  abbrev d : Case
  d = retraced rs c

  set_same : (t : ℕ) → t < e → released_at c t ≡ released_at d t
  set_same t h = fun_ext (λ i. same t i h)

  state_same : (t : ℕ) → t ≤ e → state_at c t ≡ state_at d t
  unfolding state_at state_from
  state_same zero h = refl
  state_same (suc t) h = state_next c t ∙ ap₂ (after (setup_in c) t) (set_same t h) (state_same t (omega arith)) ∙ sym (state_next d t)

  finished-same : (i t : ℕ) → t < e → finished_at c t i ≡ finished_at d t i
  unfolding finished_at
  finished-same i t h = ap (λ (s : TaskSet). s i) (ap₂ (finished (setup_in c) t) (set_same t h) (state_same t (omega arith)))

  demoted-same : (i t : ℕ) → t < e → demoted_at c t i ≡ demoted_at d t i
  unfolding demoted_at
  demoted-same i t h = ap (λ (s : TaskSet). s i) (ap₂ (demoted_now (setup_in c) t) (set_same t h) (state_same t (omega arith)))

  pub job_same : (i a u : ℕ) → a + deadline c.table i ≤ e → job_record d i a u ≡ job_record c i a u
  unfolding verdict_by finish_by demotion_by slots_by
  job_same i a u h =
      let n = min (deadline c.table i) (u - a) in
      rw (
        first_cong (λ t. finished_at d t i) (λ t. finished_at c t i) a n (λ t x y. sym (finished-same i t (omega arith))),
        first_cong (λ t. demoted_at d t i) (λ t. demoted_at c t i) a n (λ t x y. sym (demoted-same i t (omega arith))),
      )
