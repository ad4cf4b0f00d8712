-- How long what is written of an accepted case can be: each kind of line has a bound of its own, made of its word, the digits that its
-- numbers can have and a tab for each, and a newline; and the text has the sum of them. So the text of every accepted case fits into 60,000
-- bytes (document 01, "The model"), which reading it back needs.
use Rattle.std.specs.Prelude.{◌≡◌, List, [], ◌∷◌, ◌++◌, ℕ, zero, suc, ◌+◌, ◌*◌, ◌≤◌, ◌<◌, length}
use Rattle.std.proofs.Common.{suc-mul}
use native.Mathlib.Omega.{arith}
use Rattle.std.proofs.Math.ListN.{length-append}
use Rattle.rules.specs.Words.{tab}
use Rattle.rules.specs.Limits.{max_tasks, max_releases}
use Rattle.rules.specs.Case.{Case, task_count, period, execution, deadline, release_count, time_of, name_of}
use Rattle.rules.specs.Text.{tab_byte, digits_of, procs_word, policy_word, task_word, end_word, release_word}
use Rattle.rules.specs.Policies.{policy_name}
use Rattle.rules.specs.Writer.{joined_text, more_fields, line_text, procs_text, policy_text, task_text, end_text, release_text, case_text}
use Rattle.legal.specs.Legal.{Legal}
use Rattle.texts.specs.Digits.{digits_few}
use Rattle.texts.specs.PolicyNames.{name_short}

-- ---- the bounds: how many digits processors and task numbers, T, C and D, and the end and times have at most
abbrev few_digits : ℕ
few_digits = 2

abbrev task_digits : ℕ
task_digits = 5

abbrev time_digits : ℕ
time_digits = 6

-- and how many bytes a policy's word
abbrev name_bytes : ℕ
name_bytes = 6

-- a line of each kind: its word, its fields with a tab each, its newline
abbrev pub procs_long : ℕ
procs_long = length procs_word + (1 + few_digits) + 1

abbrev pub policy_long : ℕ
policy_long = length policy_word + (1 + name_bytes) + 1

abbrev pub task_long : ℕ
task_long = length task_word + (1 + task_digits) + (1 + task_digits) + (1 + task_digits) + 1

abbrev pub end_long : ℕ
end_long = length end_word + (1 + time_digits) + 1

abbrev pub release_long : ℕ
release_long = length release_word + (1 + time_digits) + (1 + few_digits) + 1

-- ---- lines of one field, two and three
line_one : (w f : List ℕ) → length (line_text tab_byte w (f ∷ [])) ≡ length w + (1 + length f) + 1
unfolding line_text more_fields
line_one w f = omega (arith, length-append w (more_fields tab_byte (f ∷ [])), length-append f (more_fields tab_byte []))

line_two : (w f g : List ℕ) → length (line_text tab_byte w (f ∷ g ∷ [])) ≡ length w + (1 + length f) + (1 + length g) + 1
unfolding line_text more_fields
line_two w f g =
    omega (
      arith,
      length-append w (more_fields tab_byte (f ∷ g ∷ [])),
      length-append f (more_fields tab_byte (g ∷ [])),
      length-append g
          (more_fields tab_byte []),
    )

line_three : (w f g h : List ℕ)
    → length (line_text tab_byte w (f ∷ g ∷ h ∷ [])) ≡ length w + (1 + length f) + (1 + length g) + (1 + length h) + 1
unfolding line_text more_fields
line_three w f g h =
    omega (
      arith,
      length-append w (more_fields tab_byte (f ∷ g ∷ h ∷ [])),
      length-append f (more_fields tab_byte (g ∷ h ∷ [])),
      length-append g (more_fields tab_byte (h ∷ [])),
      length-append h (more_fields tab_byte []),
    )

-- lines of at most b bytes each
lines_long : (f : ℕ → List ℕ) (b k n : ℕ) → ((i : ℕ) → i < k + n → length (f i) ≤ b)
    → length (joined_text (tab f k n)) ≤ n * b
unfolding joined_text tab
lines_long f b k zero h = omega arith
lines_long f b k (suc n) h =
    omega (
      arith,
      h k (omega arith),
      lines_long f b (suc k) n (λ i l. h i (omega arith)),
      length-append (f k)
          (joined_text (tab f (suc k) n)),
      suc-mul n b,
    )

-- ---- the lines of a case, and its text
module _ (c : Case) (g : Legal c) where
  procs_long_lem : length (procs_text c.procs) ≤ procs_long
  unfolding procs_text
  procs_long_lem = omega (arith, line_one procs_word (digits_of c.procs), digits_few 1 c.procs (omega arith) (omega (arith, g.procs_few)))

  policy_long_lem : length (policy_text c.policy) ≤ policy_long
  unfolding policy_text
  policy_long_lem = omega (arith, line_one policy_word (policy_name c.policy), name_short c.policy)

  task_long_lem : (i : ℕ) → i < task_count c.table → length (task_text c.table i) ≤ task_long
  unfolding task_text
  task_long_lem i h =
      let d = g.good i h in
      let T = period c.table i in
      let C = execution c.table i in
      let D = deadline c.table i in
      omega (
        arith,
        line_three task_word (digits_of T) (digits_of C) (digits_of D),
        digits_few 4 T (omega arith) (omega (arith, d.small)),
        digits_few 4 C (omega arith) (omega (arith, d.small, d.within, d.fits)),
        digits_few 4 D (omega arith) (omega (arith, d.small, d.within)),
      )

  end_long_lem : length (end_text c.end) ≤ end_long
  unfolding end_text
  end_long_lem = omega (arith, line_one end_word (digits_of c.end), digits_few 5 c.end (omega arith) (omega (arith, g.end_small)))

  release_long_lem : (j : ℕ) → j < release_count c.trace → length (release_text c.trace j) ≤ release_long
  unfolding release_text
  release_long_lem j h =
      let time = time_of c.trace j in
      let name = name_of c.trace j in
      omega (
        arith,
        line_two release_word (digits_of time) (digits_of name),
        digits_few 5 time (omega arith) (omega (arith, g.before_end j h, g.end_small)),
        digits_few 1 name (omega arith) (omega (arith, g.named j h, g.tasks_few)),
      )

  -- the sum: one line of processors, one policy, at most 32 tasks, one end, at most 2,000 releases
  pub text_long : length (case_text c) ≤ procs_long + (policy_long + (max_tasks * task_long + (end_long + max_releases * release_long)))
  unfolding case_text
  text_long =
      let tasks = joined_text (tab (task_text c.table) 0 (task_count c.table)) in
      let releases = joined_text (tab (release_text c.trace) 0 (release_count c.trace)) in
      let m = procs_text c.procs in
      let p = policy_text c.policy in
      let e = end_text c.end in
      omega (
        arith,
        length-append m (p ++ (tasks ++ (e ++ releases))),
        length-append p (tasks ++ (e ++ releases)),
        length-append tasks (e ++ releases),
        length-append e releases,
        procs_long_lem,
        policy_long_lem,
        end_long_lem,
        lines_long (task_text c.table) task_long 0 (task_count c.table) (λ i h. task_long_lem i (omega arith)),
        lines_long (release_text c.trace) release_long 0 (release_count c.trace) (λ j h. release_long_lem j (omega arith)),
        g.tasks_few,
        g.releases_few,
      )
