-- What the program prints (document 01, "The case text", from "The program reads a case" on): the lines run, job, total and refused, byte
-- for byte, and what is printed of a whole text. The contracts of the crates prints, report and answers are equations with these.
use Rattle.std.specs.Prelude.{ℕ, zero, suc, ◌+◌, ◌-◌, List, [], ◌∷◌, ◌++◌, eqb}
use Rattle.rules.specs.Words.{pick, tab}
use Rattle.rules.specs.Case.{Case, task_count, deadline, release_count, time_of, name_of}
use Rattle.rules.specs.Replay.{Record, record_by, met_jobs, missed_jobs, open_jobs}
use Rattle.rules.specs.Text.{digits_of}
use Rattle.rules.specs.Policies.{policy_name}
use Rattle.rules.specs.Reader.{text_fault, case_in}
use Rattle.rules.specs.Writer.{joined_text, line_text}

-- printed fields are parted by one space
abbrev pub space_byte : ℕ
space_byte = 32

abbrev pub run_word : List ℕ
run_word = 114 ∷ 117 ∷ 110 ∷ []

abbrev pub job_word : List ℕ
job_word = 106 ∷ 111 ∷ 98 ∷ []

abbrev pub total_word : List ℕ
total_word = 116 ∷ 111 ∷ 116 ∷ 97 ∷ 108 ∷ []

abbrev pub refused_word : List ℕ
refused_word = 114 ∷ 101 ∷ 102 ∷ 117 ∷ 115 ∷ 101 ∷ 100 ∷ []

abbrev pub met_word : List ℕ
met_word = 109 ∷ 101 ∷ 116 ∷ []

abbrev pub missed_word : List ℕ
missed_word = 109 ∷ 105 ∷ 115 ∷ 115 ∷ 101 ∷ 100 ∷ []

abbrev pub open_word : List ℕ
open_word = 111 ∷ 112 ∷ 101 ∷ 110 ∷ []

-- the verdict's word by its number: met (1), missed (2), open (3)
unfoldable pub verdict_name : ℕ → List ℕ
verdict_name v = pick (eqb v 1) met_word (pick (eqb v 2) missed_word open_word)

-- a finish time, or `-` where there is none
abbrev pub finish_field : ℕ → List ℕ
finish_field zero = 45 ∷ []
finish_field (suc f) = digits_of (suc f)

-- a demotion time, which a record holds as one more, or `-` where never demoted
abbrev pub demotion_field : ℕ → List ℕ
demotion_field zero = 45 ∷ []
demotion_field (suc d) = digits_of d

-- `run`: policy, processors, tasks, end
unfoldable pub run_line : Case → List ℕ
run_line c =
    line_text space_byte run_word
    (policy_name c.policy ∷ digits_of c.procs ∷ digits_of (task_count c.table) ∷ digits_of c.end ∷ [])

-- `job`: release time, task, absolute deadline, verdict, finish, demotion time
unfoldable pub job_line : ℕ → ℕ → ℕ → Record → List ℕ
job_line time task due r =
    line_text space_byte job_word
    (digits_of time ∷ digits_of task ∷ digits_of due ∷
    verdict_name r.verdict ∷ finish_field r.finish ∷ demotion_field r.demotion ∷ [])

-- the job line of release j
unfoldable pub release_line : Case → ℕ → List ℕ
release_line c j =
    job_line (time_of c.trace j) (name_of c.trace j)
    (time_of c.trace j + deadline c.table (name_of c.trace j - 1)) (record_by c c.end j)

-- `total`: releases, met, missed, open
unfoldable pub total_line : Case → List ℕ
total_line c =
    line_text space_byte total_word
    (digits_of (release_count c.trace) ∷ digits_of (met_jobs c) ∷ digits_of (missed_jobs c) ∷ digits_of (open_jobs c) ∷ [])

-- a refusal prints only one line: `refused`, number, place
unfoldable pub refused_line : ℕ → ℕ → List ℕ
refused_line n p = line_text space_byte refused_word (digits_of n ∷ digits_of p ∷ [])

-- what is printed of an accepted case
unfoldable pub report : Case → List ℕ
report c = run_line c ++ (joined_text (tab (release_line c) 0 (release_count c.trace)) ++ total_line c)

-- what the program prints of a text: a refused case is parted from an accepted one before any line
unfoldable pub printed : List ℕ → List ℕ
printed s = pick (eqb (text_fault s).number 0) (report (case_in s)) (refused_line (text_fault s).number (text_fault s).place)
