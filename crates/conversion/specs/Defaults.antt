-- The default policy of a text (request P6; `case_with_default` of rules, Reader): under two defaults a text is the same case but for its
-- policy, so what is at fault with it does not depend on the default. An old text was refused just as it is now.
use Rattle.std.specs.Prelude.{◌≡◌, refl, List, [], ◌∷◌, ◌++◌, ℕ, ◌≤◌}
use Rattle.std.proofs.Common.{ap, arith}
use Rattle.rules.specs.declared.Line.{Line}
use Rattle.rules.specs.declared.Line.TheVariants.{Bad, Procs, Policy, Row, End, Release}
use Rattle.rules.specs.Case.{Case}
use Rattle.rules.specs.Refusals.{first, case_fault}
use Rattle.rules.specs.Policies.{max_policy}
use Rattle.rules.specs.Reader.{lines_of, case_order, lines_fault, policy_when_absent, no_case, with_line, with_lines, case_with_default}
use Rattle.rules.specs.Reader.{case_in}
use Rattle.rules.specs.Reader.{length_fault, text_fault}
use Rattle.rules.specs.Convert.{old_policy_when_absent, old_case_in}
use Rattle.legal.specs.Passing.{policy_none}
use Rattle.roundtrip.specs.Policies.{policy_under}

-- ---- the same case but for its policy
record Alike (c d : Case) : Type 0 where
  pub processors : c.procs ≡ d.procs
  pub tasks : c.table ≡ d.table
  pub ends : c.end ≡ d.end
  pub releases : c.trace ≡ d.trace

line_alike : (c d : Case) (l : Line) → Alike c d → Alike (with_line c l) (with_line d l)
unfolding with_line
line_alike c d Bad w = w
line_alike c d (Procs m) w = record { processors = refl; tasks = w.tasks; ends = w.ends; releases = w.releases }
line_alike c d (Policy p) w = record { processors = w.processors; tasks = w.tasks; ends = w.ends; releases = w.releases }
line_alike c d (Row T C D) w =
    record {
      processors = w.processors;
      tasks = ap (λ (ts : List ℕ). ts ++ (T ∷ C ∷ D ∷ [])) w.tasks;
      ends = w.ends;
      releases = w.releases;
    }
line_alike c d (End e) w = record { processors = w.processors; tasks = w.tasks; ends = refl; releases = w.releases }
line_alike c d (Release t n) w =
    record {
      processors = w.processors;
      tasks = w.tasks;
      ends = w.ends;
      releases = ap (λ (rs : List ℕ). rs ++ (t ∷ n ∷ [])) w.releases;
    }

lines_alike : (c d : Case) (ls : List Line) → Alike c d → Alike (with_lines c ls) (with_lines d ls)
unfolding with_lines
lines_alike c d [] w = w
lines_alike c d (l ∷ ls) w = lines_alike (with_line c l) (with_line d l) ls (line_alike c d l w)

-- has the same fault, where both policies are policies
fault_alike : (c d : Case) → Alike c d → c.policy ≤ max_policy → d.policy ≤ max_policy → case_fault c ≡ case_fault d
unfolding case_fault
fault_alike c d w h k =
    rw (policy_none c.policy h, policy_none d.policy k, w.processors, w.tasks, w.ends, w.releases)

-- ---- a text under two defaults
pub fault_under : (p q : ℕ) → p ≤ max_policy → q ≤ max_policy → (s : List ℕ)
    → case_fault (case_with_default p s) ≡ case_fault (case_with_default q s)
unfolding case_with_default
fault_under p q h k s =
    fault_alike (with_lines (no_case p) (lines_of s)) (with_lines (no_case q) (lines_of s))
    (lines_alike (no_case p) (no_case q) (lines_of s) (record { processors = refl; tasks = refl; ends = refl; releases = refl }))
    (policy_under p h s) (policy_under q k s)

-- what is at fault with an old text, its absent policy line meaning EDF, is what is at fault with it now
pub old_fault : (s : List ℕ)
    → first (length_fault s ∷ lines_fault case_order 0 1 (lines_of s) ∷ case_fault (old_case_in s) ∷ []) ≡ text_fault s
unfolding text_fault case_in old_case_in
old_fault s = rw (fault_under old_policy_when_absent policy_when_absent (omega arith) (omega arith) s)
