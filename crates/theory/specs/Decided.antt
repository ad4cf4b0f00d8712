-- Only one answer fits (document 01, "How tight the statements are"): two answers, each with what it leaves in lent memory, that both
-- keep the promise of a public call (rules, Calls: the very name that its contract cites) are the same. One law for each of the seven
-- calls; there is no exception.
use Rattle.std.specs.Prelude.{◌≡◌, List, ℕ}
use Rattle.std.proofs.Common.{sym, ◌∙◌}
use Rattle.rules.specs.declared.Taken.{Taken}
use Rattle.rules.specs.Case.{Case}
use Rattle.rules.specs.Calls.{CountsPromise, ReplayPromise, RunningPromise, ReadPromise, WritePromise, ConvertPromise, LogPromise}
use Rattle.legal.specs.Settled.{counted_once, replayed_once, running_once, taken_once, written_once, logged_once}
use Rattle.rules.specs.declared.Totals.{Totals}
use Rattle.std.specs.Prelude.{Result}
use Rattle.rules.specs.declared.Fault.{Fault}

-- two values that a definition decides are the same
both : {A : Type 0} {x y a : A} → x ≡ a → y ≡ a → x ≡ y
both p q = p ∙ sym q

-- ---- only one fits
pub counts_decided : (m : ℕ) (ts room : List ℕ) (x y : Result ℕ Fault) (xs ys : List ℕ)
    → CountsPromise m ts room x xs → CountsPromise m ts room y ys → (x ≡ y) × (xs ≡ ys)
counts_decided m ts room x y xs ys a b = (counted_once x y (both a.answer b.answer), both a.left b.left)

pub replay_decided : (c : Case) (room : List ℕ) (x y : Result Totals Fault) (xs ys : List ℕ)
    → ReplayPromise c room x xs → ReplayPromise c room y ys → (x ≡ y) × (xs ≡ ys)
replay_decided c room x y xs ys a b = (replayed_once x y (both a.answer b.answer), both a.left b.left)

pub running_decided : (c : Case) (s : ℕ) (x y : Result ℕ Fault) → RunningPromise c s x → RunningPromise c s y → x ≡ y
running_decided c s x y a b = running_once x y (both a.answer b.answer)

pub read_decided : (text tasks releases : List ℕ) (x y : Result Taken Fault) (xs ys us vs : List ℕ)
    → ReadPromise text tasks releases x xs us → ReadPromise text tasks releases y ys vs
    → (x ≡ y) × (xs ≡ ys) × (us ≡ vs)
read_decided text tasks releases x y xs ys us vs a b =
    (taken_once x y (both a.answer b.answer), both a.left_tasks b.left_tasks, both a.left_releases b.left_releases)

pub write_decided : (c : Case) (room : List ℕ) (x y : Result ℕ Fault) (xs ys : List ℕ)
    → WritePromise c room x xs → WritePromise c room y ys → (x ≡ y) × (xs ≡ ys)
write_decided c room x y xs ys a b = (written_once x y (both a.answer b.answer), both a.left b.left)

pub convert_decided : (text room : List ℕ) (x y : Result ℕ Fault) (xs ys : List ℕ)
    → ConvertPromise text room x xs → ConvertPromise text room y ys → (x ≡ y) × (xs ≡ ys)
convert_decided text room x y xs ys a b = (written_once x y (both a.answer b.answer), both a.left b.left)

pub log_decided : (c : Case) (log : List ℕ) (x y : Result (Unit {0}) Fault) → LogPromise c log x → LogPromise c log y → x ≡ y
log_decided c log x y a b = logged_once x y (both a.answer b.answer)
