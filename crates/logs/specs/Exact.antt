-- Acceptance is exact, both ways: an accepted log is, byte for byte but for its returns, the lines of its own sets, one line a slot before
-- the end, and these keep the rule with the state following them; and the lines of any such sets, with or without returns before their
-- newlines, are an accepted log.
use Rattle.std.specs.Prelude.{◌≡◌, refl, true, ℕ, ◌<◌, eqb}
use Rattle.std.proofs.Math.Path.{sym, ap}
use Rattle.std.proofs.Common.{◌∙◌, arith, eqb-true, eq-eqb}
use Rattle.std.proofs.lemmas.Bool.{false≢true}
use mathlib.Core.List.{List}
use Rattle.rules.specs.Limits.{max_tasks}
use Rattle.rules.specs.Words.{tab}
use Rattle.rules.specs.Text.{without_returns}
use Rattle.rules.specs.Writer.{joined_text}
use Rattle.rules.specs.Case.{Case}
use Rattle.rules.specs.Refusals.{Accepted}
use Rattle.rules.specs.Slot.{TaskSet}
use Rattle.rules.specs.Replay.{setup_in}
use Rattle.rules.specs.Log.{LogLine, bad_line, slot_line, tasks_of, rising, well_formed, set_named, name_tasks, slot_stands}
use Rattle.rules.specs.Log.{opened_by, line_at, sets_of, log_lines, LogAccepted, slot_line_text, log_text}
use Rattle.rules.specs.Slot.{tasks_in}
use Rattle.legal.specs.Legal.{legal}
use Rattle.lists.specs.Tests.{and_left, and_right}
use Rattle.lists.specs.Lists.{tab_at, tab_long}
use Rattle.texts.specs.Fields.{All}
use Rattle.lists.specs.Tests.{and_both}
use Rattle.logs.specs.Rule.{rule_obeyed, obeys_rule, obeys_same}
use Rattle.logs.specs.Follow.{Follows, opened-same}
use Rattle.logs.specs.Named.{named_tasks, tasks_rise, tasks_named, tasks_back, tasks_small}
use Rattle.logs.specs.LogLines.{Says, log_written, log_back, all_at, list_tab, bytes_of_all}
use Rattle.logs.specs.LogLines.{bytes_tab}
use Rattle.logs.specs.Clear.{Lined, accepted_lined, lined_accepted}

-- ---- the lines of sets that keep the rule are accepted
module _ (c : Case) (works : ℕ → TaskSet) where
  abbrev lines : List LogLine
  lines = tab (λ t. slot_line t (tasks_in (works t))) 0 c.end

  line_is : (t : ℕ) → t < c.end → line_at lines t ≡ slot_line t (tasks_in (works t))
  line_is t h = tab_at (λ t. slot_line t (tasks_in (works t))) c.end t bad_line h

  sets_are : (t i : ℕ) → t < c.end → i < max_tasks → sets_of lines t i ≡ works t i
  unfolding sets_of
  sets_are t i h l = ap (λ (x : LogLine). set_named (tasks_of x) i) (line_is t h) ∙ named_tasks (works t) i l

  follows_stands : Follows c works c.end → (t : ℕ) → t < c.end
      → slot_stands (setup_in c) t (opened_by c (sets_of lines) t) (tasks_in (works t)) ≡ true
  unfolding slot_stands
  follows_stands f t h =
      let z : opened_by c (sets_of lines) t ≡ opened_by c works t = opened-same c (sets_of lines) works t
      (λ u i x y. sets_are u i (omega arith) y) in
      and_both (name_tasks (tasks_in (works t))) _ (tasks_named (works t))
      (rw z (obeys_rule (setup_in c) t (opened_by c works t) (set_named (tasks_in (works t)))
      (obeys_same (setup_in c) t (opened_by c works t) (works t) (set_named (tasks_in (works t))) (λ i x. sym (named_tasks (works t) i x))
      (f t h))))

  follows_lined : Follows c works c.end → Lined c lines
  unfolding well_formed
  follows_lined f = record {
    long = tab_long _ 0 c.end;
    formed = λ t h. rw (line_is t h) (and_both (eqb t t) _ (eq-eqb t t refl) (tasks_rise (works t)));
    stands = λ t h. rw (line_is t h) (follows_stands f t h);
  }

  -- sets that keep the rule slot by slot make an accepted log
  pub follows_accepted : Accepted c → Follows c works c.end → LogAccepted c (log_text works c.end)
  unfolding log_text
  follows_accepted ok f =
      let e : log_lines (joined_text (tab (λ t. slot_line_text t (tasks_in (works t))) 0 c.end)) ≡ lines =
      log_written (λ t. tasks_in (works t)) c.end 0 (omega (arith, (legal c ok).end_small)) (λ t. tasks_small (works t))
      in
      lined_accepted c _ ok (rw e (follows_lined f))

-- the log of sets names these sets
pub text_sets : (c : Case) (works : ℕ → TaskSet) → Accepted c → (t i : ℕ) → t < c.end → i < max_tasks
    → sets_of (log_lines (log_text works c.end)) t i ≡ works t i
unfolding log_text
text_sets c works ok t i h l =
    ap (λ (ls : List LogLine). sets_of ls t i)
    (log_written (λ t. tasks_in (works t)) c.end 0 (omega (arith, (legal c ok).end_small)) (λ t. tasks_small (works t)))
    ∙ sets_are c works t i h l

-- ---- an accepted log is such lines
formed_line : (n : ℕ) (l : LogLine) → well_formed n l ≡ true → (l ≡ slot_line n (tasks_of l)) × (rising (tasks_of l) ≡ true)
unfolding well_formed
formed_line n bad_line e = absurd (false≢true e)
formed_line n (slot_line t ns) e = (ap (λ (u : ℕ). slot_line u ns) (eqb-true t n (and_left (eqb t n) _ e)), and_right (eqb t n) _ e)

line_says_lem : (n : ℕ) (l : LogLine) → well_formed n l ≡ true → Says l
unfolding well_formed
line_says_lem n bad_line e = false≢true e
line_says_lem n (slot_line t ns) e = tt

module _ (c : Case) (ls : List LogLine) (l : Lined c ls) where
  names_at : (n : ℕ) → n < c.end → name_tasks (tasks_of (line_at ls n)) ≡ true
  unfolding slot_stands
  names_at n h = and_left (name_tasks (tasks_of (line_at ls n))) _ (l.stands n h)

  -- the sets named keep the rule, the state following them
  pub lined_follows : Follows c (sets_of ls) c.end
  unfolding slot_stands
  lined_follows n h = unfold sets_of in
      rule_obeyed (setup_in c) n (opened_by c (sets_of ls) n) (set_named (tasks_of (line_at ls n)))
      (and_right (name_tasks (tasks_of (line_at ls n))) _ (l.stands n h))

  -- a line is written of its time and its set
  line_set : (n : ℕ) → n < c.end → line_at ls n ≡ slot_line n (tasks_in (sets_of ls n))
  unfolding sets_of
  line_set n h =
      let f = formed_line n (line_at ls n) (l.formed n h) in
      f.0 ∙ ap (λ (ns : List ℕ). slot_line n ns) (sym (tasks_back (tasks_of (line_at ls n)) f.1 (names_at n h)))

  lined_lines : ls ≡ tab (λ t. slot_line t (tasks_in (sets_of ls t))) 0 c.end
  lined_lines =
      list_tab ls (λ t. slot_line t (tasks_in (sets_of ls t))) (λ n h. line_set n (omega (arith, l.long)))
      ∙ ap (λ (e : ℕ). tab (λ t. slot_line t (tasks_in (sets_of ls t))) 0 e) l.long

  pub lined_bytes : bytes_of_all ls ≡ log_text (sets_of ls) c.end
  unfolding log_text
  lined_bytes = ap bytes_of_all lined_lines ∙ bytes_tab (λ t. tasks_in (sets_of ls t)) 0 c.end

  pub lined_says : All Says ls
  lined_says = all_at Says ls (λ n h. line_says_lem n (line_at ls n) (l.formed n (omega (arith, l.long))))

-- an accepted log is of an accepted case; its sets keep the rule; and without its returns it is their lines, byte for byte
pub accepted_follows : (c : Case) (s : List ℕ) → LogAccepted c s → Follows c (sets_of (log_lines s)) c.end
accepted_follows c s e = lined_follows c (log_lines s) (accepted_lined c s e).1

pub accepted_bytes : (c : Case) (s : List ℕ) → LogAccepted c s → without_returns s ≡ log_text (sets_of (log_lines s)) c.end
accepted_bytes c s e =
    let l = (accepted_lined c s e).1 in
    sym (log_back s (lined_says c (log_lines s) l)) ∙ lined_bytes c (log_lines s) l

-- ---- both ways
-- the log is, line by line and but for its returns, the lines of some sets, one for each slot before the end, each keeping the rule with
-- the state following them
pub record LogOf (c : Case) (s : List ℕ) : Type 0 where
  pub works : ℕ → TaskSet
  pub follows : Follows c works c.end
  pub bytes : without_returns s ≡ log_text works c.end

-- an accepted log is so written
pub accepted_written : (c : Case) (s : List ℕ) → LogAccepted c s → Accepted c × LogOf c s
accepted_written c s e =
    ((accepted_lined c s e).0, record { works = sets_of (log_lines s); follows = accepted_follows c s e; bytes = accepted_bytes c s e })
