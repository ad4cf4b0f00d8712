-- The check of a log fed in pieces of any length: a state by value that does not grow with the log, a step for a byte, the law that two
-- pieces one after the other are their join, and that the answer read off the state is `log_answer` of rules, Log.
use Rattle.std.specs.Prelude.{◌≡◌, Bool, true, false, ℕ, zero, suc, ◌≤◌, eqb, length}
use Rattle.std.proofs.Math.Path.{refl, ap, ap₂}
use Rattle.std.proofs.Common.{sym, ◌∙◌, arith}
use mathlib.Core.List.{List, [], ◌∷◌, ◌++◌, append_assoc, append-nil}
use Rattle.rules.specs.declared.Fault.{Fault}
use Rattle.rules.specs.declared.Run.{Run}
use Rattle.rules.specs.Words.{pick}
use Rattle.rules.specs.Case.{Case}
use Rattle.rules.specs.Slot.{TaskSet, opened, worked}
use Rattle.rules.specs.Replay.{setup_in, released_at}
use Rattle.rules.specs.Refusals.{no_fault, fault_of, unless, or_next, first_of}
use Rattle.rules.specs.Writer.{joined_text}
use Rattle.rules.specs.Text.{newline_byte, up_to, has, line_of, after_line, lines_by}
use Rattle.rules.specs.Log.{LogLine, bad_line, slot_line, tasks_of, slot_says, log_lines, well_formed, set_named}
use Rattle.rules.specs.Log.{name_tasks, slot_stands, followed, opened_by, sets_of, line_fault, lines_fault_in, log_fault, log_answer}
use Rattle.lists.specs.Lists.{picked}
use Rattle.legal.specs.Firsts.{next_some}
use Rattle.bridge.specs.Steps.{Full, opened_full, worked_same}
use Rattle.feeds.specs.Alike.{within, within_same, keeps_same, followed_full}
use Rattle.texts.specs.Fields.{without_head, up_to_without}
use Rattle.texts.specs.LinesOf.{line_cut, after_line_less, by_ended, by_unended}
use Rattle.feeds.specs.LineScan.{LineScan, unread, at_start, scan_byte, scan_all, Heard, line_end, hears}
use Rattle.feeds.proofs.LineScan.{begun}
use Rattle.feeds.proofs.LineScan.{begun_all}
use Rattle.feeds.proofs.Returned.{line_heard}
use Rattle.feeds.specs.Front.{line_next, long_next, state_front, first_front}
use Rattle.feeds.specs.Feed.{Feed, feed_of, opening, formed_heard, names_heard, set_heard, heard_fault, closed_by, closed, feed_byte, feed}
use Rattle.feeds.specs.Feed.{fed_fault, fed_answer, fed_of, feed_pieces}

-- ---- two pieces one after the other are their join
pub feed-append : (c : Case) (f : Feed) (a b : List ℕ) → feed c f (a ++ b) ≡ feed c (feed c f a) b
unfolding feed
feed-append c f [] b = refl
feed-append c f (x ∷ a) b = feed-append c (feed_byte c f x) a b

-- ---- within a line
pub feed-within : (c : Case) (l : List ℕ) (x : LineScan) (n : ℕ) (r : Run) (f : Fault) → has newline_byte l ≡ false
    → feed c (feed_of x n r f) l ≡ feed_of (scan_all x l) n r f
unfolding feed feed_byte scan_all
feed-within c [] x n r f h = refl
feed-within c (b ∷ l) x n r f h = let w = without_head newline_byte b l h in rw w.0 (feed-within c l (scan_byte x b) n r f w.1)

-- ---- what is heard is tested as what is said
formed_heard_lem : (n : ℕ) (l : LogLine) → formed_heard n (hears l) ≡ well_formed n l
unfolding hears well_formed
formed_heard_lem n bad_line = refl
formed_heard_lem n (slot_line t ns) = refl

set_heard_lem : (l : LogLine) → set_heard (hears l) ≡ within (set_named (tasks_of l))
unfolding hears set_named
set_heard_lem bad_line = refl
set_heard_lem (slot_line t ns) = refl

names_heard_lem : (l : LogLine) → names_heard (hears l) ≡ name_tasks (tasks_of l)
unfolding hears name_tasks
names_heard_lem bad_line = refl
names_heard_lem (slot_line t ns) = refl

feed-same : (m n : ℕ) (q r : Run) (f g : Fault) → m ≡ n → q ≡ r → f ≡ g → feed_of unread m q f ≡ feed_of unread n r g
feed-same m n q r f g x y z = rw (x, y, z)

module _ (c : Case) (ls : List LogLine) (x : LogLine) where
  abbrev n : ℕ
  n = length ls

  abbrev more : List LogLine
  more = ls ++ (x ∷ [])

  abbrev o : Run
  o = opened_by c (sets_of ls) n

  full : Full o
  full = opened_full (setup_in c) n (released_at c n) _ (followed_full (setup_in c) (released_at c) (sets_of ls) n)

  next_run : worked (set_heard (hears x)) o ≡ followed (setup_in c) (released_at c) (sets_of more) (length more)
  unfolding followed sets_of
  next_run =
      rw (long_next ls x, set_heard_lem x)
      (worked_same (within (set_named (tasks_of x))) (set_named (tasks_of x)) o full (within_same (set_named (tasks_of x)))
      ∙ ap₂ (λ (s : TaskSet) (r : Run). worked s (opened (setup_in c) n (released_at c n) r))
      (ap (λ (l : LogLine). set_named (tasks_of l)) (sym (line_next ls x []))) (sym (state_front c ls (x ∷ []) n (omega arith))))

  next_fault_line : heard_fault c n o (hears x) ≡ line_fault c more n
  unfolding heard_fault line_fault slot_stands
  next_fault_line =
      rw (
        formed_heard_lem n x,
        names_heard_lem x,
        set_heard_lem x,
        line_next ls x [],
        state_front c ls (x ∷ []) n (omega arith),
        keeps_same (setup_in c) n o (within (set_named (tasks_of x))) (set_named (tasks_of x)) (within_same (set_named (tasks_of x))),
      )

  next_fault : or_next (first_of (line_fault c ls) n) (heard_fault c n o (hears x)) ≡ first_of (line_fault c more) (length more)
  unfolding first_of
  next_fault = rw (long_next ls x) (ap₂ or_next (sym (first_front c ls (x ∷ []))) next_fault_line)

  -- a line more
  fed_next : closed_by c (hears x) n o (first_of (line_fault c ls) n) ≡ fed_of c (ls ++ (x ∷ []))
  unfolding fed_of
  fed_next = feed-same _ _ _ _ _ _ (sym (long_next ls x)) next_run next_fault

fed_line : (c : Case) (ls : List LogLine) (l rest : List ℕ) → has newline_byte l ≡ false
    → feed c (fed_of c ls) (l ++ (newline_byte ∷ rest))
    ≡ feed c (fed_of c (ls ++ (slot_says (line_of (l ++ (newline_byte ∷ rest))) ∷ []))) rest
unfolding fed_of
fed_line c ls l rest h =
    feed-append c (fed_of c ls) l (newline_byte ∷ rest)
    ∙ ap (λ (f : Feed). feed c f (newline_byte ∷ rest)) (feed-within c l unread (length ls) _ _ h)
    ∙ closes
    ∙ ap (λ (x : Heard). feed c
    (closed_by c x (length ls) (opened_by c (sets_of ls) (length ls)) (first_of (line_fault c ls) (length ls))) rest) (line_heard l rest h)
    ∙ ap (λ (f : Feed). feed c f rest) (fed_next c ls (slot_says (line_of (l ++ (newline_byte ∷ rest)))))
  where
    closes : feed c (feed_of (scan_all unread l) (length ls) (followed (setup_in c) (released_at c) (sets_of ls) (length ls))
        (first_of (line_fault c ls) (length ls))) (newline_byte ∷ rest)
        ≡ feed c (closed_by c (line_end (scan_all unread l)) (length ls) (opened_by c (sets_of ls) (length ls))
        (first_of (line_fault c ls) (length ls))) rest
    closes = unfold feed feed_byte closed in refl

-- ---- the fault at the end
next_assoc : (a b d : Fault) → or_next (or_next a b) d ≡ or_next a (or_next b d)
unfolding or_next
next_assoc a b d = go (eqb a.number 0) refl
  where
    go : (e : Bool) → eqb a.number 0 ≡ e → pick (eqb (pick e b a).number 0) d (pick e b a)
        ≡ pick e (pick (eqb b.number 0) d b) a
    go true q = refl
    go false q = rw q

-- after whole lines
fed_over : (c : Case) (ls : List LogLine) → fed_fault c (fed_of c ls) ≡ lines_fault_in c ls
unfolding fed_fault fed_of lines_fault_in or_next
fed_over c ls = refl

-- and after the beginning of one more
fed_broken : (c : Case) (ls : List LogLine) (x : LineScan) (n : ℕ) (r : Run) → n ≡ length ls → at_start x ≡ false
    → fed_fault c (feed_of x n r (first_of (line_fault c ls) (length ls))) ≡ lines_fault_in c (ls ++ (bad_line ∷ []))
unfolding lines_fault_in
fed_broken c ls x n r z e =
    asked ∙ rw (z, e, long_next ls bad_line) (both ∙ sym (whole))
  where
    -- the fault so far, then whether a line is unfinished, then how many lines there are
    asked : fed_fault c (feed_of x n r (first_of (line_fault c ls) (length ls)))
        ≡ or_next (first_of (line_fault c ls) (length ls))
        (or_next (unless (at_start x) 17 (suc n)) (or_next (unless (eqb n c.end) 19 0) no_fault))
    asked = unfold fed_fault in refl

    last : Fault
    last = or_next (unless (eqb (suc (length ls)) c.end) 19 0) no_fault

    both : or_next (first_of (line_fault c ls) (length ls))
        (or_next (fault_of 17 (suc (length ls))) (or_next (unless (eqb (length ls) c.end) 19 0) no_fault))
        ≡ or_next (first_of (line_fault c ls) (length ls)) (fault_of 17 (suc (length ls)))
    both = ap (or_next (first_of (line_fault c ls) (length ls))) (unfold or_next in refl)

    bad : line_fault c (ls ++ (bad_line ∷ [])) (length ls) ≡ fault_of 17 (suc (length ls))
    bad = unfold line_fault well_formed or_next in rw (line_next ls bad_line [])

    whole : or_next (first_of (line_fault c (ls ++ (bad_line ∷ []))) (suc (length ls))) last
        ≡ or_next (first_of (line_fault c ls) (length ls)) (fault_of 17 (suc (length ls)))
    whole =
        unfold first_of in
        (ap (λ (f : Fault). or_next f last) (ap₂ or_next (first_front c ls (bad_line ∷ [])) bad)
        ∙ next_assoc (first_of (line_fault c ls) (length ls)) (fault_of 17 (suc (length ls))) last
        ∙ ap (or_next (first_of (line_fault c ls) (length ls))) (unfold or_next in refl))

-- no more bytes
fed_none : (c : Case) (ls : List LogLine) → fed_fault c (feed c (fed_of c ls) []) ≡ lines_fault_in c (ls ++ [])
unfolding feed
fed_none c ls = fed_over c ls ∙ ap (lines_fault_in c) (sym (append-nil ls))

-- bytes without a newline
fed_unended : (c : Case) (ls : List LogLine) (b : ℕ) (s : List ℕ) → has newline_byte (b ∷ s) ≡ false
    → fed_fault c (feed c (fed_of c ls) (b ∷ s)) ≡ lines_fault_in c (ls ++ (bad_line ∷ []))
unfolding fed_of
fed_unended c ls b s e =
    ap (fed_fault c) (feed-within c (b ∷ s) unread (length ls) _ _ e)
    ∙ fed_broken c ls (scan_all unread (b ∷ s)) (length ls) _ refl started
  where
    started : at_start (scan_all unread (b ∷ s)) ≡ false
    started = unfold scan_all in begun_all s (scan_byte unread b) (begun unread b)

-- ---- the whole log
fed_lines : (c : Case) (k : ℕ) (s : List ℕ) (ls : List LogLine) → length s ≤ k → fed_fault c (feed c (fed_of c ls) s)
    ≡ lines_fault_in c (ls ++ lines_by slot_says bad_line k s)
unfolding lines_by
fed_lines c zero [] ls h = fed_none c ls
fed_lines c zero (b ∷ s) ls h = absurd (omega arith)
fed_lines c (suc k) [] ls h = fed_none c ls
fed_lines c (suc k) (b ∷ s) ls h =
    let m = after_line_less b s in
    go (has newline_byte (b ∷ s)) refl (fed_lines c k (after_line (b ∷ s)) (ls ++ (slot_says (line_of (b ∷ s)) ∷ [])) (omega arith))
  where
    go : (e : Bool) → has newline_byte (b ∷ s) ≡ e
        → fed_fault c (feed c (fed_of c (ls ++ (slot_says (line_of (b ∷ s)) ∷ []))) (after_line (b ∷ s)))
        ≡ lines_fault_in c ((ls ++ (slot_says (line_of (b ∷ s)) ∷ [])) ++ lines_by slot_says bad_line k (after_line (b ∷ s)))
        → fed_fault c (feed c (fed_of c ls) (b ∷ s)) ≡ lines_fault_in c (ls ++ lines_by slot_says bad_line (suc k) (b ∷ s))
    go true e ih =
        ap (λ (t : List ℕ). fed_fault c (feed c (fed_of c ls) t)) (sym (line_cut (b ∷ s) e))
        ∙ ap (fed_fault c) (fed_line c ls (up_to newline_byte (b ∷ s)) (after_line (b ∷ s)) (up_to_without newline_byte (b ∷ s)))
        ∙ ap (λ (t : List ℕ). fed_fault c (feed c (fed_of c (ls ++ (slot_says (line_of t) ∷ []))) (after_line (b ∷ s)))) (line_cut (b ∷ s)
        e)
        ∙ ih
        ∙ ap (lines_fault_in c) (append_assoc ls (slot_says (line_of (b ∷ s)) ∷ []) (lines_by slot_says bad_line k (after_line (b ∷ s)))
        ∙ ap (λ (ms : List LogLine). ls ++ ms) (sym (by_ended slot_says bad_line k b s e)))
    go false e ih =
        fed_unended c ls b s e ∙ ap (λ (ms : List LogLine). lines_fault_in c (ls ++ ms)) (sym (by_unended slot_says bad_line k b s e))

-- the answer read off the state that a whole log was fed to is the answer
pub fed_fault_lem : (c : Case) (s : List ℕ) → fed_fault c (feed c opening s) ≡ lines_fault_in c (log_lines s)
unfolding log_lines
fed_fault_lem c s = ap (λ (f : Feed). fed_fault c (feed c f s)) start ∙ fed_lines c (length s) s [] (omega arith)
  where
    start : opening ≡ fed_of c []
    start = unfold fed_of followed first_of in refl

pub fed_answer_lem : (c : Case) (s : List ℕ) → fed_answer c (feed c opening s) ≡ log_answer c s
unfolding fed_answer log_answer log_fault
fed_answer_lem c s = rw (fed_fault_lem c s)

-- fed in two pieces, and so in any number
pub fed_pieces : (c : Case) (a b : List ℕ) → fed_answer c (feed c (feed c opening a) b) ≡ log_answer c (a ++ b)
fed_pieces c a b = ap (fed_answer c) (sym (feed-append c opening a b)) ∙ fed_answer_lem c (a ++ b)

pieces_join : (c : Case) (ps : List (List ℕ)) (f : Feed) → feed_pieces c f ps ≡ feed c f (joined_text ps)
unfolding feed_pieces joined_text
pieces_join c [] f = unfold feed in refl
pieces_join c (p ∷ ps) f = pieces_join c ps (feed c f p) ∙ sym (feed-append c f p (joined_text ps))

-- a log cut anywhere, any number of times, has the answer of the whole
pub fed_any_pieces : (c : Case) (ps : List (List ℕ)) → fed_answer c (feed_pieces c opening ps) ≡ log_answer c (joined_text ps)
fed_any_pieces c ps = ap (fed_answer c) (pieces_join c ps opening) ∙ fed_answer_lem c (joined_text ps)

-- ---- once at fault, what is fed does not matter
pub byte_stays : (c : Case) (f : Feed) (b : ℕ) → (f.fault.number ≡ 0 → ⊥) → (feed_byte c f b).fault ≡ f.fault
unfolding feed_byte closed
byte_stays c f b h = picked (λ (g : Feed). g.fault ≡ f.fault) (eqb b newline_byte) _ _ (λ e. next_some f.fault _ h) (λ e. refl)

pub fault_stays : (c : Case) (s : List ℕ) (f : Feed) → (f.fault.number ≡ 0 → ⊥) → fed_fault c (feed c f s) ≡ f.fault
unfolding feed fed_fault
fault_stays c [] f h = next_some f.fault _ h
fault_stays c (b ∷ s) f h =
    let e = byte_stays c f b h in
    fault_stays c s (feed_byte c f b) (λ q. h (ap (λ (x : Fault). x.number) (sym e) ∙ q)) ∙ e
