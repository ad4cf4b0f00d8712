-- The parts that lines are made of: fields with their parting byte in front, and the words that a number chooses (document 01, "The case
-- text", and "Which form each place takes" for the choice by number). Lines of the case text and printed lines are both made of them.
use Rattle.std.specs.Prelude.{ℕ, List, [], ◌∷◌, ◌++◌, map, get_or}
use Rattle.rules.specs.Text.{digits_of, procs_word, policy_word, task_word, end_word, release_word}
use Rattle.rules.specs.Writer.{line_text}
use Rattle.rules.specs.Report.{run_word, job_word, total_word, refused_word}
use Rattle.rules.specs.Log.{slot_word}

-- fields, each with the byte `between` in front
unfoldable pub fields_text : ℕ → List (List ℕ) → List ℕ
fields_text between [] = []
fields_text between (s ∷ ss) = (between ∷ s) ++ fields_text between ss

-- numbers as fields
abbrev pub number_fields : ℕ → List ℕ → List ℕ
number_fields between vs = fields_text between (map digits_of vs)

-- `count` and `running`, the words of the lines of a table's free counts and of a slot's running set
abbrev pub count_word : List ℕ
count_word = 99 ∷ 111 ∷ 117 ∷ 110 ∷ 116 ∷ []

abbrev pub running_word : List ℕ
running_word = 114 ∷ 117 ∷ 110 ∷ 110 ∷ 105 ∷ 110 ∷ 103 ∷ []

-- the words of lines in their order: 1 to 5 in the case text, as `word_kind` of rules has them, 6 to 10 in what is printed, 11 in a slot
-- log
abbrev pub line_words : List (List ℕ)
line_words =
    run_word ∷ procs_word ∷ policy_word ∷ task_word ∷ end_word ∷ release_word ∷
    job_word ∷ total_word ∷ refused_word ∷ count_word ∷ running_word ∷ slot_word ∷ []

-- the word of a line by its number; it is `run` for 12 and every other
unfoldable pub word_of : ℕ → List ℕ
word_of w = get_or line_words w run_word

-- a line of a word and numbers
abbrev pub number_line : ℕ → ℕ → List ℕ → List ℕ
number_line between word vs = line_text between (word_of word) (map digits_of vs)
