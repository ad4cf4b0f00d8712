-- The text of a case (`case_text` of rules, Writer) in three parts: the lines before the tasks, those of rows of lent numbers (three a
-- task, two a release), and those from the end line on. The contracts of the functions that write these parts name them.
use Rattle.std.specs.Prelude.{ℕ, ◌*◌, ◌≤◌, ◌≡◌, List, ◌++◌, length, take, drop}
use Rattle.rules.specs.Words.{tab}
use Rattle.rules.specs.Limits.{max_tasks, max_releases, task_width, release_width}
use Rattle.rules.specs.Case.{task_count, release_count}
use Rattle.rules.specs.Text.{tab_byte}
use Rattle.rules.specs.Writer.{joined_text, procs_text, policy_text, end_text}
use Rattle.puts.specs.Fields.{number_line}

-- the line of row i, of `width` numbers
unfoldable pub row_text : ℕ → ℕ → List ℕ → ℕ → List ℕ
row_text word width vs i = number_line tab_byte word (take width (drop (i * width) vs))

-- the lines of the first n rows
unfoldable pub rows_text : ℕ → ℕ → List ℕ → ℕ → List ℕ
rows_text word width vs n = joined_text (tab (row_text word width vs) 0 n)

-- the lines of processors and policy
unfoldable pub head_text : ℕ → ℕ → List ℕ
head_text m p = procs_text m ++ policy_text p

-- the end line and the lines of the releases
unfoldable pub tail_text : ℕ → List ℕ → List ℕ
tail_text e rs = end_text e ++ rows_text 5 release_width rs (release_count rs)

-- a table and a trace of whole rows, and of no more than a case may have
pub record WholeRows (ts rs : List ℕ) : Type 0 where
  pub tasks : length ts ≡ task_count ts * task_width
  pub releases : length rs ≡ release_count rs * release_width
  pub few : task_count ts ≤ max_tasks
  pub few' : release_count rs ≤ max_releases
