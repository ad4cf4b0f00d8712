-- The numbers of a task and of a release, as the part of a table or a trace that they take up (rules, Case). For the lines that are made
-- of them: the writer's rows, and the lines of a case.
use Rattle.std.specs.Prelude.{◌≡◌, refl, List, [], ◌∷◌, ◌++◌, ℕ, suc, ◌+◌, ◌*◌, ◌≤◌, ◌<◌, length, get_or, take, drop}
use Rattle.std.proofs.Common.{sym, ap, ◌∙◌, arith, take-append-drop, drop-cons, drop-drop}
use Rattle.rules.specs.Limits.{task_width, release_width}
use Rattle.rules.specs.Case.{period, execution, deadline, time_of, name_of}

-- w numbers from place k on, and those behind them
pub parted : (w k : ℕ) (xs : List ℕ) → drop k xs ≡ take w (drop k xs) ++ drop (k + w) xs
parted w k xs = sym (take-append-drop w (drop k xs)) ∙ ap (λ (l : List ℕ). take w (drop k xs) ++ l) (drop-drop w k xs)

-- the first of them, and those after it
part_cons : (xs : List ℕ) (n k : ℕ) → k < length xs → take (suc n) (drop k xs) ≡ get_or xs k 0 ∷ take n (drop (suc k) xs)
part_cons xs n k h = rw (drop-cons xs k 0 h)

pub task_numbers : (ts : List ℕ) (i : ℕ) → i * task_width + task_width ≤ length ts
    → take task_width (drop (i * task_width) ts) ≡ period ts i ∷ execution ts i ∷ deadline ts i ∷ []
task_numbers ts i h =
    let k = i * task_width in
    let one : k + 1 ≡ suc k = omega arith in
    let two : k + 2 ≡ suc (suc k) = omega arith in
    rw (one, two, part_cons ts 2 k (omega arith), part_cons ts 1 (suc k) (omega arith), part_cons ts 0 (suc (suc k)) (omega arith)) refl

pub release_numbers_lem : (rs : List ℕ) (j : ℕ) → j * release_width + release_width ≤ length rs
    → take release_width (drop (j * release_width) rs) ≡ time_of rs j ∷ name_of rs j ∷ []
release_numbers_lem rs j h =
    let k = j * release_width in
    let one : k + 1 ≡ suc k = omega arith in
    rw (one, part_cons rs 1 k (omega arith), part_cons rs 0 (suc k) (omega arith)) refl
