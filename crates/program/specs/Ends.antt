-- How the program ends, as its exit status tells it.
use Rattle.std.specs.Prelude.{ℕ, eqb}
use Rattle.rules.specs.Words.{pick}
use Rattle.program.specs.declared.Outcome.{Outcome}
use Rattle.program.specs.declared.Outcome.TheVariants.{Done, Failed, Refused, Unknown}

abbrev pub status_of : Outcome → ℕ
status_of Done = 0
status_of Failed = 1
status_of Refused = 2
status_of Unknown = 64

-- where the answer is written: the number of what is at fault, 0 where nothing is
abbrev pub answered : ℕ → Outcome
answered number = pick (eqb number 0) Done Refused
