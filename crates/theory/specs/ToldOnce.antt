-- What the promises of the calls for C and Rust decide (rules, Told): from the same lent memory only one number, place and values can be
-- seen, and only one later content of every lent room (document 01, "How tight the statements are"). One law for each of the seven calls,
-- about the very name that its contract cites. And what is told: 0 is returned for a result alone, and values are kept as a room is.
use Rattle.std.specs.Prelude.{ℕ, ◌≡◌, refl, List, Bool, true, false, eqb}
use Rattle.std.proofs.Common.{sym, ap, ◌∙◌, eqb-true}
use Rattle.rules.specs.declared.Fault.{Fault}
use Rattle.rules.specs.Words.{pick}
use Rattle.rules.specs.Case.{Case}
use Rattle.rules.specs.Answers.{Answer, refusal, result, settled, kept, counted_as, replayed_as, running_as, taken_as, written_as}
use Rattle.rules.specs.Answers.{logged_as}
use Rattle.rules.specs.Told.{Told, seen, number_of, place_or, values_or, CountsTold, ReplayTold, RunningTold, ReadTold, WriteTold}
use Rattle.rules.specs.Told.{ConvertTold, LogTold}
use Rattle.theory.specs.Decided.{counts_decided, replay_decided, running_decided, read_decided, write_decided, convert_decided}
use Rattle.theory.specs.Decided.{log_decided}

-- the number returned is that of the fault that was found, which is 0 where there is none
pub number_found : (f : Fault) (vs : List ℕ) → number_of (settled f vs) ≡ f.number
unfolding settled
number_found f vs = go (eqb f.number 0) refl
  where
    go : (b : Bool) → eqb f.number 0 ≡ b → number_of (pick b (result vs) (refusal f.number f.place)) ≡ f.number
    go true e = sym (eqb-true f.number 0 e)
    go false e = refl

-- the lent values are kept as a lent room is
pub values_kept : (f : Fault) (vs old : List ℕ) → values_or (settled f vs) old ≡ kept f vs old
unfolding settled kept
values_kept f vs old = go (eqb f.number 0)
  where
    go : (b : Bool) → values_or (pick b (result vs) (refusal f.number f.place)) old ≡ pick b vs old
    go true = refl
    go false = refl

-- ---- only one telling fits
-- what two calls show that were lent the same place p and values vs
pub record SeenOnce (n k q u : ℕ) (ws us : List ℕ) : Type 0 where
  pub number : n ≡ k
  pub place : q ≡ u
  pub values : ws ≡ us

module _ (p : ℕ) (vs : List ℕ) (n k q u : ℕ) (ws us : List ℕ) where
  told_once : {a b : Answer} → a ≡ b → Told a (seen n p q vs ws) → Told b (seen k p u vs us) → SeenOnce n k q u ws us
  told_once e s t =
      record {
        number = s.returned ∙ ap number_of e ∙ sym t.returned;
        place = s.placed ∙ ap (λ (a : Answer). place_or a p) e ∙ sym t.placed;
        values = s.valued ∙ ap (λ (a : Answer). values_or a vs) e ∙ sym t.valued;
      }

  pub counts_told_once : (m : ℕ) (ts room xs ys : List ℕ)
      → CountsTold m ts room xs (seen n p q vs ws) → CountsTold m ts room ys (seen k p u vs us)
      → SeenOnce n k q u ws us × (xs ≡ ys)
  counts_told_once m ts room xs ys s t =
      let d = counts_decided m ts room s.call t.call xs ys s.kept t.kept in
      (told_once (ap counted_as d.0) s.told t.told, d.1)

  pub replay_told_once : (c : Case) (room xs ys : List ℕ)
      → ReplayTold c room xs (seen n p q vs ws) → ReplayTold c room ys (seen k p u vs us)
      → SeenOnce n k q u ws us × (xs ≡ ys)
  replay_told_once c room xs ys s t =
      let d = replay_decided c room s.call t.call xs ys s.kept t.kept in
      (told_once (ap replayed_as d.0) s.told t.told, d.1)

  pub running_told_once : (c : Case) (slot : ℕ)
      → RunningTold c slot (seen n p q vs ws) → RunningTold c slot (seen k p u vs us)
      → SeenOnce n k q u ws us
  running_told_once c slot s t =
      told_once (ap running_as (running_decided c slot s.call t.call s.kept t.kept)) s.told t.told

  pub read_told_once : (text tasks xs ys releases zs rs : List ℕ)
      → ReadTold text tasks xs releases zs (seen n p q vs ws) → ReadTold text tasks ys releases rs (seen k p u vs us)
      → SeenOnce n k q u ws us × (xs ≡ ys) × (zs ≡ rs)
  read_told_once text tasks xs ys releases zs rs s t =
      let d = read_decided text tasks releases s.call t.call xs ys zs rs s.kept t.kept in
      (told_once (ap taken_as d.0) s.told t.told, d.1, d.2)

  pub write_told_once : (c : Case) (bytes xs ys : List ℕ)
      → WriteTold c bytes xs (seen n p q vs ws) → WriteTold c bytes ys (seen k p u vs us)
      → SeenOnce n k q u ws us × (xs ≡ ys)
  write_told_once c bytes xs ys s t =
      let d = write_decided c bytes s.call t.call xs ys s.kept t.kept in
      (told_once (ap written_as d.0) s.told t.told, d.1)

  pub convert_told_once : (text bytes xs ys : List ℕ)
      → ConvertTold text bytes xs (seen n p q vs ws) → ConvertTold text bytes ys (seen k p u vs us)
      → SeenOnce n k q u ws us × (xs ≡ ys)
  convert_told_once text bytes xs ys s t =
      let d = convert_decided text bytes s.call t.call xs ys s.kept t.kept in
      (told_once (ap written_as d.0) s.told t.told, d.1)

  pub log_told_once : (c : Case) (log : List ℕ) → LogTold c log (seen n p q vs ws) → LogTold c log (seen k p u vs us)
      → SeenOnce n k q u ws us
  log_told_once c log s t =
      told_once (ap logged_as (log_decided c log s.call t.call s.kept t.kept)) s.told t.told
