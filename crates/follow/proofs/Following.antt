-- How the state of the check goes on: what a line at its end says of the fault, the run and the releases, and that the bytes of a line and
-- its newline bring the state to what stands for the next fed state.
use mathlib.Core.Path.{◌≡◌, refl, sym, ap, ◌∙◌}
use mathlib.Core.Bool.{Bool, true, false, ◌&&◌, ◌||◌, not, false≢true, true≢false}
use mathlib.Core.List.{List, [], ◌∷◌, ◌++◌}
use Prim.Native.Nat.{ℕ, zero, suc, ◌+◌, ◌≤◌, ◌<◌}
use native.Mathlib.Numerals.{add-one}
use native.Mathlib.Decide.{dec_lt}
use native.Mathlib.Omega.{arith}
use lib.Dec.{eqb, ltb}
use Rattle.std.specs.Prelude.{Err}
use lib.ListN.{length, get_or, take, drop, take-append-drop, length-drop}
use lib.Seq.{take-suc, take_all, take-add, get_or-drop}
use borrow.Author.Tests.{eq-eqb, ne_eqb, eqb-true, eqb-false, le-leb, lt-leb, lt-ltb, ltb-true}
use Rattle.rules.specs.declared.Fault.{Fault}
use Rattle.rules.specs.declared.Run.{Run}
use Rattle.rules.specs.Words.{pick, tab}
use Rattle.rules.specs.Limits.{max_tasks}
use Rattle.rules.specs.Case.{Case, release_count}
use Rattle.rules.specs.Slot.{Setup, TaskSet, job_at, jobs_now, demoted, lowered, opened, worked}
use Rattle.rules.specs.Replay.{setup_in, released_at, idle_task, fresh}
use Rattle.rules.specs.Refusals.{no_fault, fault_of, unless_fault, unless, or_next, first_of, case_fault, Accepted}
use Rattle.rules.specs.Answers.{Answer, refusal, result, settled}
use Rattle.rules.specs.Text.{newline_byte, up_to, has}
use Rattle.rules.specs.Log.{LogLine, keeps_rule, log_lines, line_fault, lines_fault_in, log_fault, log_answer}
use Rattle.lists.specs.Lists.{tab_long, members}
use Rattle.lists.specs.Tests.{and_left, and_right, or_left, or_right}
use Rattle.legal.specs.Legal.{legal}
use Rattle.legal.specs.Firsts.{next_none, next_clear, given_fault, checked_stop}
use Rattle.legal.specs.Settled.{refuses_with}
use Rattle.texts.specs.Passing.{next_last}
use Rattle.texts.specs.Fields.{up_to_without, up_to-take, up_to_short, up_to_stop}
use Rattle.bridge.specs.Steps.{Full, demoted_full, readied_full, lowered_full, worked_full}
use Rattle.bridge.specs.Turn.{Reached}
use Rattle.bridge.specs.Course.{fresh_idle}
use Rattle.bridge.specs.Quiet.{Jobless, no_jobs, jobless, jobless_calm, calm_settled, still_closed}
use Rattle.rule.specs.Same.{keeps-lowered}
use Rattle.slot.specs.Stepped.{settled_run}
use Rattle.slot.specs.Calm.{Ahead}
use Rattle.traces.specs.Traces.{releases, due}
use Rattle.traces.specs.Given.{orderly, rel_at, readied-same}
use Rattle.traces.specs.NoneDue.{reached_next, none_now}
use Rattle.feeds.specs.LineScan.{LineScan, unread, at_start, scan_all, Heard, line_end}
use Rattle.feeds.specs.Feed.{Feed, feed_of, opening, formed_heard, names_heard, set_heard, heard_fault, closed, feed_byte, feed, fed_fault}
use Rattle.feeds.proofs.Feed.{feed-append, feed-within, fed_fault_lem, byte_stays}
use Rattle.feeds.specs.Bounds.{LineSmall, FeedSmall}
use Rattle.feeds.proofs.Bounds.{feed_small, opening_small, past_fault}
use Rattle.heard.specs.declared.Scan.{Scan}
use Rattle.heard.specs.declared.Ended.{Ended}
use Rattle.heard.specs.declared.Ended.TheVariants as Ended·
use Rattle.heard.specs.Scans.{start_of, scan_as, ended_as}
use Rattle.heard.specs.Lines.{HeardLine}
use Rattle.follow.specs.declared.Log.{Log}
use Rattle.follow.specs.Follows.{log_of, fault_at, Going, Follows, Followed, Opens, Closed}

-- a test turned round that fails
pub not_left : (b : Bool) → not b ≡ false → b ≡ true
not_left true e = refl
not_left false e = absurd (false≢true (sym e))

-- ---- what is heard of a line with n before it
module _ (c : Case) (n : ℕ) (o : Run) (h : Heard) where
  heard_bad_lem : formed_heard n h ≡ false → heard_fault c n o h ≡ fault_at 17 n
  unfolding heard_fault or_next
  heard_bad_lem e = rw e

  heard_past : formed_heard n h ≡ true → c.end ≤ n → heard_fault c n o h ≡ fault_at 0 n
  unfolding heard_fault or_next
  heard_past e l = rw (e, le-leb c.end n l)

  heard_slot : formed_heard n h ≡ true → n < c.end → (b : Bool) → (names_heard h && keeps_rule (setup_in c) n o (set_heard h)) ≡ b
      → heard_fault c n o h ≡ fault_at (pick b 0 18) n
  unfolding heard_fault or_next
  heard_slot e l true q = rw (e, lt-leb c.end n l, q)
  heard_slot e l false q = rw (e, lt-leb c.end n l, q)

-- the set of a line that is well formed is the one in the array
set_formed : (n : ℕ) (e : Ended) (ys : List Bool) → formed_heard n (ended_as e ys) ≡ true → set_heard (ended_as e ys) ≡ members ys
set_formed n Ended·.Bad ys h = absurd (false≢true h)
set_formed n (Ended·.Slot t rises names) ys h = refl

-- ---- one slot
-- a run of which steps 1 and 3 change no job, where no release is due, is open already
pub opens_calm : (c : Case) → Accepted c → (t : ℕ) (r : Run) (next jobs : ℕ) (calm : Bool) → Full r → Reached c.trace next t
    → Ahead c.policy t r jobs calm → (not calm || due c.trace next t) ≡ false → Opens (setup_in c) c.trace t r r next jobs
opens_calm c ok t r next jobs calm full w a e =
    let none : due c.trace next t ≡ false = or_right (not calm) _ e in
    let o = orderly c (legal c ok) in
    record {
      run = sym (calm_settled (setup_in c) t (released_at c t) r full (λ i l. none_now c.trace o next t w none i)
          (a.stays (not_left calm (or_left (not calm) _ e))));
      reached = reached_next c.trace o next t w none;
      counted = a.jobs;
    }

-- a slot is open, and what the end of its line left of the set that it names still stands
abbrev pub Opened : Case → ℕ → LineScan → Ended → Run → Run → List Bool → ℕ → ℕ → Type 0
Opened c t x e r s ys next jobs =
    Opens (setup_in c) c.trace t r s next jobs × ((length ys ≡ max_tasks) × (ended_as e ys ≡ line_end x))

-- a slot that is opened by its steps
pub opens-settled : (c : Case) (t : ℕ) (r s : Run) (next jobs : ℕ) (rel : List Bool) → Full r
    → rel ≡ releases c.trace (release_count c.trace) t → Reached c.trace next (suc t)
    → s ≡ settled_run (setup_in c) t (members rel) r → jobs ≡ jobs_now s → Opens (setup_in c) c.trace t r s next jobs
opens-settled c t r s next jobs rel full re w e n = record {
  run = e ∙ ap (demoted (setup_in c)) (readied-same (setup_in c) t (members rel) (released_at c t) r full (rel_at c t rel re));
  reached = w;
  counted = n;
}

-- where there is no job any set leaves the run as it is, and the next slot finds it so
pub worked_none : (g : Setup) (t : ℕ) (r : Run) (jobs : ℕ) (calm : Bool) (runs : TaskSet) → Full r → jobs ≡ jobs_now r
    → jobs ≡ 0
    → (r ≡ worked runs (lowered g r)) × Ahead g.policy (suc t) r jobs calm
worked_none g t r jobs calm runs full n z =
    let idle = jobless r (sym n ∙ z) in
    (sym (still_closed g r full idle runs), record { jobs = n; stays = λ e. jobless_calm g.policy (suc t) r idle })

module _ (c : Case) (t : ℕ) (r s : Run) (next jobs : ℕ) (full : Full r) (o : Opens (setup_in c) c.trace t r s next jobs) where
  opened_run : opened (setup_in c) t (released_at c t) r ≡ lowered (setup_in c) s
  unfolding opened
  opened_run = ap (lowered (setup_in c)) (sym o.run)

  pub opened_whole : Full s
  opened_whole = rw o.run (demoted_full (setup_in c) _ (readied_full (setup_in c) t (released_at c t) r full))

  -- the rule may be asked of the run before step 4
  same_test : (runs : TaskSet) → keeps_rule (setup_in c) t (opened (setup_in c) t (released_at c t) r) runs
      ≡ keeps_rule (setup_in c) t s runs
  same_test runs = rw opened_run (keeps-lowered (setup_in c) t s runs opened_whole)

-- ---- one line
module _ (c : Case) (n : ℕ) (x : LineScan) (e : Ended) (ys : List Bool) (r : Run) (long : length ys ≡ max_tasks)
    (said : ended_as e ys ≡ line_end x) where
  -- a line badly formed
  closed_bad : (s : Run) (next jobs : ℕ) (calm : Bool) → formed_heard n (ended_as e ys) ≡ false
      → Closed c n x r s ys next jobs calm 17
  closed_bad s next jobs calm b = record {
    long = long;
    fault = rw (← said) (heard_bad_lem c n _ (ended_as e ys) b);
    run = λ z. absurd (omega arith);
    full = λ z. absurd (omega arith);
    reached = λ z. absurd (omega arith);
    ahead = λ z. absurd (omega arith);
  }

  -- a line at or past the end
  closed-past : (s : Run) (next jobs : ℕ) (calm : Bool) → formed_heard n (ended_as e ys) ≡ true → c.end ≤ n
      → Closed c n x r s ys next jobs calm 0
  closed-past s next jobs calm b l = record {
    long = long;
    fault = rw (← said) (heard_past c n _ (ended_as e ys) b l);
    run = λ z m. absurd (omega arith);
    full = λ z m. absurd (omega arith);
    reached = λ z m. absurd (omega arith);
    ahead = λ z m. absurd (omega arith);
  }

  -- one of the two: no slot is followed
  pub closed_none : (s : Run) (next jobs : ℕ) (calm : Bool) (number : ℕ) → number ≡ pick (formed_heard n (ended_as e ys)) 0 17
      → (eqb number 0 && ltb n c.end) ≡ false → Closed c n x r s ys next jobs calm number
  closed_none s next jobs calm number q f = go (formed_heard n (ended_as e ys)) refl (dec_lt n c.end)
    where
      go : (b : Bool) → formed_heard n (ended_as e ys) ≡ b → Dec (n < c.end) → Closed c n x r s ys next jobs calm number
      go false b l = let z : number ≡ 17 = q ∙ rw b in rw z (closed_bad s next jobs calm b)
      go true b (no l) = let z : number ≡ 0 = q ∙ rw b in rw z (closed-past s next jobs calm b (omega arith))
      go true b (yes l) = let z : number ≡ 0 = q ∙ rw b in absurd (true≢false (rw (z, lt-ltb n c.end l) at f))

  -- the line of a slot that is followed
  pub closed_slot : (first : ℕ) → first ≡ pick (formed_heard n (ended_as e ys)) 0 17 → (eqb first 0 && ltb n c.end) ≡ true
      → (o s : Run) (next there jobs : ℕ) (calm : Bool) (number : ℕ) → Full r → Opens (setup_in c) c.trace n r o next there
      → number ≡ pick (names_heard (ended_as e ys) && keeps_rule (setup_in c) n o (members ys)) 0 18
      → (number ≡ 0 → (s ≡ worked (members ys) (lowered (setup_in c) o)) × Ahead c.policy (suc n) s jobs calm)
      → Closed c n x r s ys next jobs calm number
  closed_slot first q f o s next there jobs calm number full op told works = go (formed_heard n (ended_as e ys)) refl
    where
      go : (b : Bool) → formed_heard n (ended_as e ys) ≡ b → Closed c n x r s ys next jobs calm number
      go false b = let z : first ≡ 17 = q ∙ rw b in absurd (omega (arith, z, eqb-true first 0 (and_left (eqb first 0) _ f)))
      go true b =
          let l : n < c.end = ltb-true n c.end (and_right (eqb first 0) _ f) in
          let set = set_formed n e ys b in
          let k : (names_heard (ended_as e ys)
          && keeps_rule (setup_in c) n (opened (setup_in c) n (released_at c n) r) (set_heard (ended_as e ys)))
          ≡ (names_heard (ended_as e ys) && keeps_rule (setup_in c) n o (members ys)) =
          rw (set, same_test c n r o next there full op (members ys)) in
          record {
            long = long;
            fault = rw (← said, told) (heard_slot c n _ (ended_as e ys) b l _ k);
            run = λ z m. rw (← said, set, opened_run c n r o next there full op) (works z).0;
            full = λ z m. rw (works z).0
                (worked_full (members ys) _ (lowered_full (setup_in c) o (opened_whole c n r o next there full op)));
            reached = λ z m. op.reached;
            ahead = λ z m. (works z).1;
          }

-- ---- the bytes of a line, and its newline
small_byte : (c : Case) (f : Feed) (b : ℕ) → FeedSmall f → FeedSmall (feed_byte c f b)
unfolding feed
small_byte c f b s = feed_small c (b ∷ []) f s

module _ (c : Case) (f : Feed) (r : Run) (xs : List Bool) (scan : Scan) (lines next jobs : ℕ) (calm : Bool)
    (w : Follows c f (log_of r xs scan lines next jobs calm 0)) where
  g : Going c f (log_of r xs scan lines next jobs calm 0)
  g = w.going refl

  opens : lines < c.end → opened (setup_in c) lines (released_at c lines) r
      ≡ opened (setup_in c) f.count (released_at c f.count) f.run
  opens l =
      let z = g in
      rw (z.run (omega arith), z.count)

  -- bytes within a line
  pub line_within : (l : List ℕ) (s : Scan) (ys : List Bool) → has newline_byte l ≡ false → length ys ≡ max_tasks
      → scan_as s ys ≡ scan_all (scan_as scan xs) l → Follows c (feed c f l) (log_of r ys s lines next jobs calm 0)
  line_within l s ys h long e =
      let z = g in
      let q : feed c f l ≡ feed_of (scan_all f.line l) f.count f.run f.fault =
      feed-within c l f.line f.count f.run f.fault h in
      rw q (record {
        small = rw q at (feed_small c l f w.small);
        few = w.few;
        fault = w.fault;
        going = λ _. record {
          long = long;
          line = e ∙ ap (λ (x : LineScan). scan_all x l) z.line;
          count = z.count;
          run = z.run;
          full = z.full;
          reached = z.reached;
          ahead = z.ahead;
        };
      })

  -- a newline: the fault of the line, and the line behind it
  fault_next : (s : Run) (ys : List Bool) (next' jobs' : ℕ) (calm' : Bool) (number b : ℕ) → b ≡ newline_byte
      → Closed c lines (scan_as scan xs) r s ys next' jobs' calm' number → (feed_byte c f b).fault ≡ fault_at number lines
  unfolding feed_byte closed
  fault_next s ys next' jobs' calm' number b e k =
      let z = g in
      rw (eq-eqb b newline_byte e)
      (next_none f.fault _ (ap (λ (x : Fault). x.number) w.fault) ∙
      ap (λ (x : LineScan). heard_fault c f.count (opened (setup_in c) f.count (released_at c f.count) f.run) (line_end x))
      (sym z.line) ∙
      same_fault (dec_lt lines c.end) ∙ k.fault)
    where
      same_fault : Dec (lines < c.end)
          → heard_fault c f.count (opened (setup_in c) f.count (released_at c f.count) f.run) (line_end (scan_as scan xs))
          ≡ heard_fault c lines (opened (setup_in c) lines (released_at c lines) r) (line_end (scan_as scan xs))
      same_fault (yes l) = rw (← (opens l), ← (w.going refl).count)
      same_fault (no l) =
          rw (← (w.going refl).count) (past_fault c lines _ _ (line_end (scan_as scan xs)) (omega arith))

  module _ (s : Run) (ys : List Bool) (next' jobs' : ℕ) (calm' : Bool) (number b : ℕ) (e : b ≡ newline_byte)
      (k : Closed c lines (scan_as scan xs) r s ys next' jobs' calm' number) where
    -- it ends a line at fault: the state stays
    pub line_stopped : (number ≡ 0 → ⊥) → Follows c (feed_byte c f b) (log_of s ys scan lines next' jobs' calm' number)
    line_stopped bad = record {
      small = small_byte c f b w.small;
      few = w.few;
      fault = fault_next s ys next' jobs' calm' number b e k;
      going = λ z. absurd (bad z);
    }

    counted_next : (feed_byte c f b).count ≡ lines + 1
    unfolding feed_byte closed
    counted_next = rw (eq-eqb b newline_byte e, (w.going refl).count, add-one)

    line_next : unread ≡ (feed_byte c f b).line
    unfolding feed_byte closed
    line_next = rw (eq-eqb b newline_byte e)

    run_next : number ≡ 0 → lines < c.end → s ≡ (feed_byte c f b).run
    unfolding feed_byte closed
    run_next none l = rw (eq-eqb b newline_byte e) (k.run none l ∙ rw (opens l, (w.going refl).line))

    -- it ends a line without fault: the next one begins
    pub line_over : number ≡ 0 → Follows c (feed_byte c f b) (log_of s ys start_of (lines + 1) next' jobs' calm' number)
    line_over none =
        let small = small_byte c f b w.small in
        let fault : (feed_byte c f b).fault ≡ no_fault = fault_next s ys next' jobs' calm' number b e k ∙ rw none in
        record {
          small = small;
          few = omega (arith, counted_next, small.count (ap (λ (x : Fault). x.number) fault));
          fault = fault ∙ rw none;
          going = λ q. record {
            long = k.long;
            line = line_next;
            count = sym counted_next;
            run = λ l. run_next none (omega arith);
            full = λ l. k.full none (omega arith);
            reached = λ l. rw (add-one lines) (k.reached none (omega arith));
            ahead = λ l. rw (add-one lines) (k.ahead none (omega arith));
          };
        }

-- ---- once at fault
pub stays : (c : Case) (f : Feed) (d : Log) (b : ℕ) → Follows c f d → (d.number ≡ 0 → ⊥) → Follows c (feed_byte c f b) d
stays c f d b w bad = record {
  small = small_byte c f b w.small;
  few = w.few;
  fault = byte_stays c f b (λ z. bad (at_fault d.number d.lines (ap (λ (x : Fault). x.number) (sym w.fault) ∙ z)))
      ∙ w.fault;
  going = λ z. absurd (bad z);
}
  where
    at_fault : (n l : ℕ) → (fault_at n l).number ≡ 0 → n ≡ 0
    at_fault zero l e = refl
    at_fault (suc n) l e = rw (ne_eqb (suc n) 0 (λ z. omega arith)) at e

-- ---- the same of any state whose number says that nothing is at fault
module _ (c : Case) (r : Run) (xs : List Bool) (scan : Scan) (lines next jobs : ℕ) (calm : Bool) (number : ℕ)
    (none : number ≡ 0) where
  pub step_within : (l : List ℕ) (s : Scan) (ys : List Bool) → has newline_byte l ≡ false → length ys ≡ max_tasks
      → scan_as s ys ≡ scan_all (scan_as scan xs) l → (f : Feed) → Follows c f (log_of r xs scan lines next jobs calm number)
      → Follows c (feed c f l) (log_of r ys s lines next jobs calm number)
  step_within l s ys h long e f w = rw none (line_within c f r xs scan lines next jobs calm (rw none at w) l s ys h long e)

  module _ (s : Run) (ys : List Bool) (next' jobs' : ℕ) (calm' : Bool) (number' b : ℕ) (e : b ≡ newline_byte)
      (k : Closed c lines (scan_as scan xs) r s ys next' jobs' calm' number') (f : Feed)
      (w : Follows c f (log_of r xs scan lines next jobs calm number)) where
    pub step_over : number' ≡ 0 → Follows c (feed_byte c f b) (log_of s ys start_of (lines + 1) next' jobs' calm' number')
    step_over = line_over c f r xs scan lines next jobs calm (rw none at w) s ys next' jobs' calm' number' b e k

    pub step_stopped : (number' ≡ 0 → ⊥) → Follows c (feed_byte c f b) (log_of s ys scan lines next' jobs' calm' number')
    step_stopped = line_stopped c f r xs scan lines next jobs calm (rw none at w) s ys next' jobs' calm' number' b e k

  -- both: what stands behind the line
  pub step_line : (s : Run) (ys : List Bool) (next' jobs' : ℕ) (calm' : Bool) (number' b : ℕ) → b ≡ newline_byte
      → Closed c lines (scan_as scan xs) r s ys next' jobs' calm' number'
      → (sc : Scan) (ln : ℕ) → sc ≡ pick (eqb number' 0) start_of scan → ln ≡ pick (eqb number' 0) (lines + 1) lines
      → (f : Feed) → Follows c f (log_of r xs scan lines next jobs calm number)
      → Follows c (feed_byte c f b) (log_of s ys sc ln next' jobs' calm' number')
  step_line s ys next' jobs' calm' number' b e k sc ln p q f w = rw (p, q) (go (eqb number' 0) refl)
    where
      go : (t : Bool) → eqb number' 0 ≡ t
          → Follows c (feed_byte c f b) (log_of s ys (pick t start_of scan) (pick t (lines + 1) lines) next' jobs' calm' number')
      go true z = step_over s ys next' jobs' calm' number' b e k f w (eqb-true number' 0 z)
      go false z = step_stopped s ys next' jobs' calm' number' b e k f w (eqb-false number' 0 z)

  -- what the code that goes on asks for
  pub asks : Followed c (log_of r xs scan lines next jobs calm number) → (length xs ≡ max_tasks) × LineSmall (scan_as scan xs)
      × (lines < c.end → Full r × Reached c.trace next lines × Ahead c.policy lines r jobs calm)
  asks v =
      let g = v.follows.going none in
      (g.long, rw g.line v.follows.small.line, λ l. (g.full (omega arith), g.reached (omega arith), g.ahead (omega arith)))

pub stays_all : (c : Case) (d : Log) (s : List ℕ) (f : Feed) → Follows c f d → (d.number ≡ 0 → ⊥) → Follows c (feed c f s) d
unfolding feed
stays_all c d [] f w bad = w
stays_all c d (b ∷ s) f w bad = stays_all c d s (feed_byte c f b) (stays c f d b w bad) bad

-- ---- a piece, line after line
-- whatever the state stood for before the piece, it stands for that fed with the first i bytes
abbrev pub Feeding : Case → List ℕ → Log → ℕ → Log → Type 0
Feeding c piece first i d = (f : Feed) → Follows c f first → Follows c (feed c f (take i piece)) d

pub feeding_none : (c : Case) (piece : List ℕ) (d : Log) → Feeding c piece d 0 d
unfolding feed
feeding_none c piece d f w = w

fed_more : (c : Case) (piece : List ℕ) (i : ℕ) → i < length piece → (f : Feed)
    → feed_byte c (feed c f (take i piece)) (get_or piece i 0) ≡ feed c f (take (i + 1) piece)
fed_more c piece i l f =
    rw (add-one i, take-suc piece i 0 l, feed-append c f (take i piece) (get_or piece i 0 ∷ [])) (unfold feed in refl)

-- the bytes of a line, up to its newline or the end of the piece
pub feeding_line : (c : Case) (piece : List ℕ) (first : Log) (i j : ℕ) (r : Run) (xs ys : List Bool) (scan s : Scan)
    (lines next jobs : ℕ) (calm : Bool) (number : ℕ)
    → number ≡ 0 → Feeding c piece first i (log_of r xs scan lines next jobs calm number)
    → HeardLine piece i j (scan_as scan xs) (scan_as s ys) ys → Feeding c piece first j (log_of r ys s lines next jobs calm number)
feeding_line c piece first i j r xs ys scan s lines next jobs calm number none w h f v =
    let l = up_to newline_byte (drop i piece) in
    let e : feed c (feed c f (take i piece)) l ≡ feed c f (take j piece) =
    sym (feed-append c f (take i piece) l) ∙ ap (feed c f)
    (ap (λ (k : List ℕ). take i piece ++ k) (sym (up_to-take newline_byte (drop i piece))) ∙ sym (take-add i (length l) piece)
    ∙ ap (λ (k : ℕ). take k piece) (sym h.place)) in
    rw e at (step_within c r xs scan lines next jobs calm number none l s ys (up_to_without newline_byte (drop i piece)) h.long h.state
    (feed c f (take i piece)) (w f v))

-- where the piece goes on behind it a newline stands
pub newline_there : (piece : List ℕ) (i j : ℕ) (x y : LineScan) (ys : List Bool) → i ≤ length piece → HeardLine piece i j x y ys
    → j ≤ length piece × (j < length piece → get_or piece j 0 ≡ newline_byte)
newline_there piece i j x y ys within h =
    let l = length (up_to newline_byte (drop i piece)) in
    let few : l ≤ length (drop i piece) = up_to_short newline_byte (drop i piece) in (
      omega (arith, h.place, few, length-drop i piece),
      λ m. ap (λ (k : ℕ). get_or piece k 0) h.place ∙ sym (get_or-drop i piece l 0) ∙
          up_to_stop newline_byte (drop i piece) 0 (omega (arith, h.place, few, length-drop i piece, m)),
    )

pub feeding_more : (c : Case) (piece : List ℕ) (first d e : Log) (i : ℕ) → i < length piece → Feeding c piece first i d
    → ((f : Feed) → Follows c f d → Follows c (feed_byte c f (get_or piece i 0)) e) → Feeding c piece first (i + 1) e
feeding_more c piece first d e i l w step f v =
    rw (← (fed_more c piece i l f)) (step (feed c f (take i piece)) (w f v))

pub feeding_all : (c : Case) (piece : List ℕ) (first d : Log) (i : ℕ) → length piece ≤ i → Feeding c piece first i d
    → (f : Feed) → Follows c f first → Follows c (feed c f piece) d
feeding_all c piece first d i l w f v = rw (take_all i piece l) at (w f v)

-- a fault ends it early
pub feeding_stopped : (c : Case) (piece : List ℕ) (first d : Log) (i : ℕ) → (d.number ≡ 0 → ⊥) → Feeding c piece first i d
    → (f : Feed) → Follows c f first → Follows c (feed c f piece) d
feeding_stopped c piece first d i bad w f v =
    let e : feed c (feed c f (take i piece)) (drop i piece) ≡ feed c f piece =
    sym (feed-append c f (take i piece) (drop i piece)) ∙ ap (feed c f) (take-append-drop i piece) in
    rw e at (stays_all c d (drop i piece) (feed c f (take i piece)) (w f v) bad)

-- the state stands for something all along
pub feeding_some : (c : Case) (piece : List ℕ) (first d : Log) (i : ℕ) → Feeding c piece first i d → Followed c first
    → Followed c d
feeding_some c piece first d i w v = record { fed = feed c v.fed (take i piece); follows = w v.fed v.follows }

-- ---- the ends of a log
pub opens_at : (c : Case) (r : Run) (s : Scan) → r ≡ fresh → s ≡ start_of
    → Follows c opening (log_of r (tab (λ i. false) 0 max_tasks) s 0 0 0 true 0)
opens_at c r s e z = record {
  small = opening_small;
  few = omega arith;
  fault = refl;
  going = λ q. record {
    long = tab_long (λ i. false) 0 max_tasks;
    line = ap (λ (x : Scan). scan_as x (tab (λ i. false) 0 max_tasks)) z;
    count = refl;
    run = λ l. e;
    full = λ l. rw e (tab_long idle_task 0 max_tasks);
    reached = λ l. record { within = omega arith; before = λ j h. absurd (omega arith); behind = λ j p q. omega arith };
    ahead = λ l. record { jobs = sym (no_jobs r (idle_first r e)); stays = λ _. jobless_calm c.policy 0 r (idle_first r e) };
  };
}
  where
    idle_first : (r : Run) → r ≡ fresh → Jobless r
    idle_first r e i m = ap (λ (x : Run). job_at x i) e ∙ fresh_idle i m

module _ (c : Case) (f : Feed) (d : Log) (w : Follows c f d) where
  -- a fault that was found
  pub over_fault : (d.number ≡ 0 → ⊥) → refusal d.number (d.lines + 1) ≡ settled (fed_fault c f) []
  unfolding fed_fault settled or_next
  over_fault h =
      let e : f.fault ≡ fault_of d.number (suc d.lines) = w.fault ∙ rw (ne_eqb d.number 0 h) in
      rw (e, add-one d.lines) (rw (ne_eqb d.number 0 h) (rw (ne_eqb d.number 0 h)))

  none_yet : d.number ≡ 0 → f.fault ≡ no_fault
  none_yet e = w.fault ∙ rw (eq-eqb d.number 0 e)

  start_as : (b : Bool) → d.number ≡ 0 → b ≡ at_start (scan_as d.scan d.named) → at_start f.line ≡ b
  start_as b e q = ap at_start (sym (w.going e).line) ∙ sym q

  -- a last line without its newline
  pub over_unended : (b : Bool) → d.number ≡ 0 → b ≡ at_start (scan_as d.scan d.named) → b ≡ false
      → refusal 17 (d.lines + 1) ≡ settled (fed_fault c f) []
  unfolding fed_fault settled or_next
  over_unended b e q z = rw (none_yet e, start_as b e q, z, ← (w.going e).count, add-one d.lines)

  -- another number of lines than the end
  pub over_number : (b : Bool) → d.number ≡ 0 → b ≡ at_start (scan_as d.scan d.named) → b ≡ true
      → (d.lines ≡ c.end → ⊥)
      → refusal 19 0 ≡ settled (fed_fault c f) []
  unfolding fed_fault settled or_next
  over_number b e q z h = rw (none_yet e, start_as b e q, z, ← (w.going e).count, ne_eqb d.lines c.end h)

  -- nothing at fault
  pub over_none : (b : Bool) → d.number ≡ 0 → b ≡ at_start (scan_as d.scan d.named) → b ≡ true → d.lines ≡ c.end
      → result [] ≡ settled (fed_fault c f) []
  unfolding fed_fault settled or_next
  over_none b e q z h = rw (none_yet e, start_as b e q, z, ← (w.going e).count, eq-eqb d.lines c.end h)

-- lines without a fault have none
lines_none : (c : Case) (ls : List LogLine) → (lines_fault_in c ls).number ≡ 0 → lines_fault_in c ls ≡ no_fault
unfolding lines_fault_in
lines_none c ls e =
    let x = next_clear (first_of (line_fault c ls) (length ls)) _ e in
    let y = next_clear (unless (eqb (length ls) c.end) 19 0) no_fault x.1 in
    next_none (first_of (line_fault c ls) (length ls)) _ x.0 ∙
    next_none (unless (eqb (length ls) c.end) 19 0) no_fault y.0

-- the answer of the whole call, for a case without fault
pub log_told : (c : Case) (s : List ℕ) (a : Answer) → Accepted c → a ≡ settled (fed_fault c (feed c opening s)) [] → a
    ≡ log_answer c s
unfolding Accepted log_answer log_fault
log_told c s a ok e =
    e ∙ ap (λ (x : Fault). settled x [])
    (fed_fault_lem c s ∙ sym (next_none (case_fault c) _ ok ∙ next_last (lines_fault_in c (log_lines s)) none))
  where
    none : (lines_fault_in c (log_lines s)).number ≡ 0 → lines_fault_in c (log_lines s) ≡ no_fault
    none = lines_none c (log_lines s)

-- a case at fault: its refusal is the answer
pub case_refused : (c : Case) (s : List ℕ) (x : Fault) → unless_fault (case_fault c) c ≡ Err x
    → refusal x.number x.place ≡ log_answer c s
unfolding log_answer log_fault
case_refused c s x e = refuses_with _ x [] (checked_stop (case_fault c) _ x (given_fault (case_fault c) x c e))

-- where no set works there is no job
pub none_left : (number jobs : ℕ) → number ≡ 0 → (eqb number 0 && not (eqb jobs 0)) ≡ false → jobs ≡ 0
none_left number jobs n e = eqb-true jobs 0 (not_left (eqb jobs 0) (rw (eq-eqb number 0 n) at e))
