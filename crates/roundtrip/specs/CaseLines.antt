-- The lines of a case: they are what the writer writes (`case_text`), they hold the case (`with_lines`), and of an accepted case they are
-- in
-- order, read as they are written and fit into 60,000 bytes. RoundTrip puts these together; the program cites the last.
use Rattle.std.specs.Prelude.{◌≡◌, refl, List, [], ◌∷◌, ◌++◌, ℕ, zero, suc, ◌+◌, ◌^◌, ◌≤◌, ◌<◌, length}
use Rattle.std.proofs.Common.{sym, ap, ap₂, ◌∙◌, arith}
use Rattle.rules.specs.Words.{tab}
use Rattle.rules.specs.declared.Line.{Line}
use Rattle.rules.specs.declared.Line.TheVariants.{Procs, Policy, End}
use Rattle.rules.specs.Limits.{max_text, task_width, release_width}
use Rattle.rules.specs.Case.{Case, case_of, task_count, release_count}
use Rattle.rules.specs.Refusals.{no_fault, Accepted}
use Rattle.rules.specs.Reader.{case_order, lines_fault, no_case, with_line, with_lines}
use Rattle.rules.specs.Writer.{joined_text, procs_text, policy_text, task_text, end_text, release_text, case_text}
use Rattle.legal.specs.Legal.{Legal, legal}
use Rattle.texts.specs.Fields.{All}
use Rattle.roundtrip.specs.LineTrip.{word_in, fields_in, line_bytes, Below}
use Rattle.roundtrip.specs.Lines.{text_of, text_of-append, text_of-tab}
use Rattle.roundtrip.specs.Lengths.{text_long}
use Rattle.roundtrip.specs.Listed.{row_at, release_at, all_listed, Kind, rows_list, releases_list, listed_back, lines_back}
use Rattle.roundtrip.specs.Listed.{listed_long}
use Rattle.roundtrip.specs.Listed.{kinds_tab, lines_taken}
use Rattle.roundtrip.specs.Orders.{Tail, Body, ordered_clear}

-- the task lines of a table, the release lines of a trace
abbrev pub row_lines : List ℕ → List Line
row_lines ts = tab (row_at ts) 0 (task_count ts)

abbrev pub release_lines : List ℕ → List Line
release_lines rs = tab (release_at rs) 0 (release_count rs)

unfoldable pub case_lines : Case → List Line
case_lines c = Procs c.procs ∷ Policy c.policy ∷ (row_lines c.table ++ (End c.end ∷ release_lines c.trace))

-- the text of a case is the text of its lines
pub case_text_lem : (c : Case) → case_text c ≡ text_of (case_lines c)
unfolding case_text case_lines text_of joined_text procs_text policy_text task_text end_text release_text line_bytes word_in fields_in
    row_at release_at
case_text_lem c =
    let rows = row_lines c.table in
    let releases = release_lines c.trace in
    ap (λ (t : List ℕ). procs_text c.procs ++ (policy_text c.policy ++ t))
    (ap₂ (λ (a b : List ℕ). a ++ (end_text c.end ++ b)) (text_of-tab (row_at c.table) 0 (task_count c.table))
    (text_of-tab (release_at c.trace) 0 (release_count c.trace))
    ∙ sym (text_of-append rows (End c.end ∷ releases)))

-- ---- the lines of a case hold the case
rows_kind : (ts : List ℕ) → All (Kind 3) (row_lines ts)
rows_kind ts = kinds_tab 3 task_width row_at rows_list ts 0 (task_count ts)

releases-kind : (rs : List ℕ) → All (Kind 5) (release_lines rs)
releases-kind rs = kinds_tab 5 release_width release_at releases_list rs 0 (release_count rs)

pub lines_hold : (p : ℕ) (c : Case) → Legal c → with_lines (no_case p) (case_lines c) ≡ c
unfolding with_lines with_line case_lines
lines_hold p c w =
    lines_taken c.procs c.policy (row_lines c.table) c.end (release_lines c.trace) (rows_kind c.table)
    (releases-kind c.trace)
    ∙ ap₂ (λ ts rs. case_of c.procs c.policy ts c.end rs)
    (listed_back 3 task_width row_at rows_list (task_count c.table) c.table (omega (arith, w.threes)))
    (listed_back 5 release_width release_at releases_list (release_count c.trace) c.trace (omega (arith, w.twos)))

-- and lines in order are the lines of the case that they hold
pub lines_held : (m p : ℕ) (ls : List Line) → Tail ls → case_lines (with_lines (case_of m p [] 0 []) ls) ≡ Procs m ∷ Policy p ∷ ls
unfolding case_lines
lines_held m p ls t =
    let ts = all_listed t.rows in
    let rs = all_listed t.releases in
    let k : task_count ts ≡ length t.rows = omega (arith, listed_long 3 task_width row_at rows_list t.rows t.are_rows) in
    let n : release_count rs ≡ length t.releases =
    omega (arith, listed_long 5 release_width release_at releases_list t.releases t.are_releases) in
    let a : row_lines ts ≡ t.rows = ap (tab (row_at ts) 0) k ∙ lines_back 3 task_width row_at rows_list t.rows t.are_rows in
    let b : release_lines rs ≡ t.releases = ap (tab (release_at rs) 0) n
    ∙ lines_back 5 release_width release_at releases_list t.releases t.are_releases in
    rw t.whole
    (ap case_lines (lines_taken m p t.rows t.end t.releases t.are_rows t.are_releases)
    ∙ ap₂ (λ xs ys. Procs m ∷ Policy p ∷ (xs ++ (End t.end ∷ ys))) a b)

-- ---- an accepted case
all_append : (P : Line → Type 0) (ls ms : List Line) → All P ls → All P ms → All P (ls ++ ms)
unfolding All
all_append P [] ms a b = b
all_append P (l ∷ ls) ms a b = (a.0, all_append P ls ms a.1 b)

all_tab : (P : Line → Type 0) (f : ℕ → Line) (k n : ℕ) → ((i : ℕ) → i < k + n → P (f i)) → All P (tab f k n)
unfolding All tab
all_tab P f k zero h = tt
all_tab P f k (suc n) h = (h k (omega arith), all_tab P f (suc k) n (λ i l. h i (omega arith)))

-- every number of it is below a million
row_below : (c : Case) → Legal c → (i : ℕ) → i < task_count c.table → Below (10 ^ 6) (row_at c.table i)
unfolding Below row_at
row_below c g i h = let d = g.good i h in
    (omega (arith, d.small), omega (arith, d.small, d.within, d.fits), omega (arith, d.small, d.within))

release_below : (c : Case) → Legal c → (j : ℕ) → j < release_count c.trace → Below (10 ^ 6) (release_at c.trace j)
unfolding Below release_at
release_below c g j h = (omega (arith, g.before_end j h, g.end_small), omega (arith, g.named j h, g.tasks_few))

pub lines_below : (c : Case) → Legal c → All (Below (10 ^ 6)) (case_lines c)
unfolding case_lines All Below
lines_below c g =
    let rows = all_tab (Below (10 ^ 6)) (row_at c.table) 0 (task_count c.table) (λ i h. row_below c g i (omega arith)) in
    let releases =
    all_tab (Below (10 ^ 6)) (release_at c.trace) 0 (release_count c.trace) (λ j h. release_below c g j (omega arith)) in
    let below = Below (10 ^ 6) in
    (omega (arith, g.procs_few), (g.policy_known, all_append below (row_lines c.table) _ rows (omega (arith, g.end_small), releases)))

-- its lines are in order
lines_body : (c : Case) → Legal c → Body (row_lines c.table ++ (End c.end ∷ release_lines c.trace))
unfolding tab
lines_body c w = go (task_count c.table) w.tasks_some
  where
    go : (n : ℕ) → 1 ≤ n → Body (tab (row_at c.table) 0 n ++ (End c.end ∷ release_lines c.trace))
    go zero h = absurd (omega arith)
    go (suc n) h = record {
      task = row_at c.table 0;
      others = tab (row_at c.table) 1 n ++ (End c.end ∷ release_lines c.trace);
      is_task = rows_list.kind c.table 0;
      tail = record {
        rows = tab (row_at c.table) 1 n;
        end = c.end;
        releases = release_lines c.trace;
        are_rows = kinds_tab 3 task_width row_at rows_list c.table 1 n;
        are_releases = releases-kind c.trace;
        whole = refl;
      };
      whole = refl;
    }

pub lines_clear : (c : Case) → Legal c → lines_fault case_order 0 1 (case_lines c) ≡ no_fault
unfolding case_lines
lines_clear c w = ordered_clear c.procs c.policy _ (lines_body c w)

-- its text fits
pub text_fits : (c : Case) → Accepted c → length (case_text c) ≤ max_text
text_fits c e = omega (arith, text_long c (legal c e))
