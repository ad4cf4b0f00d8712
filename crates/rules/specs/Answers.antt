-- What a public call answers, in document 01's own numbers ("Refusals by number"): a refusal with number and place, or the results;
-- and, for each call, the number and values of each case of what it answers ("Which form each place takes"). Every contract of a public
-- call is an equation with these.
use Rattle.std.specs.Prelude.{ℕ, List, [], ◌∷◌, eqb, Result, Ok, Err}
use Rattle.rules.specs.Words.{pick}
use Rattle.rules.specs.declared.Fault.{Fault}
use Rattle.rules.specs.declared.Totals.{Totals}
use Rattle.rules.specs.declared.Taken.{Taken}

-- a refusal with its number and place, or the results
pub data Answer : Type 0 where
  refusal : ℕ → ℕ → Answer
  result : List ℕ → Answer

-- a refusal returns number and place and no other result
unfoldable pub settled : Fault → List ℕ → Answer
settled f vs = pick (eqb f.number 0) (result vs) (refusal f.number f.place)

-- and every lent number and byte keeps the content it had
unfoldable pub kept : Fault → List ℕ → List ℕ → List ℕ
kept f new old = pick (eqb f.number 0) new old

-- ---- the cases of what each call answers: `Ok` with its results, or `Err` with the fault for which it refuses
abbrev pub answer_as : {A : Type 0} → (A → List ℕ) → Result A Fault → Answer
answer_as values (Ok x) = result (values x)
answer_as values (Err f) = refusal f.number f.place

-- the counts: the number of tasks
abbrev pub counted_as : Result ℕ Fault → Answer
counted_as r = answer_as (λ tasks. tasks ∷ []) r

-- the replay: the totals of met, missed and open
abbrev pub total_values : Totals → List ℕ
total_values t = t.met ∷ t.missed ∷ t.«open» ∷ []

abbrev pub replayed_as : Result Totals Fault → Answer
replayed_as r = answer_as total_values r

-- the running set
abbrev pub running_as : Result ℕ Fault → Answer
running_as r = answer_as (λ set. set ∷ []) r

-- the reader: processors, policy, end, how many tasks and releases
abbrev pub taken_values : Taken → List ℕ
taken_values t = t.procs ∷ t.policy ∷ t.end ∷ t.tasks ∷ t.releases ∷ []

abbrev pub taken_as : Result Taken Fault → Answer
taken_as r = answer_as taken_values r

-- the writer and the converter: the text's length
abbrev pub written_as : Result ℕ Fault → Answer
written_as r = answer_as (λ length. length ∷ []) r

-- the log check: acceptance has no further result
abbrev pub logged_as : Result (Unit {0}) Fault → Answer
logged_as r = answer_as (λ accepted. []) r
