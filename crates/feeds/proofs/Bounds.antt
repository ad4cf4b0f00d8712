-- The state of a log that is fed (Feed) does not grow: every number in it fits 32 bits, and the lines are counted no further than any time
-- can name unless a fault was found. And from the end on the state of the run does not matter. For the code that keeps it.
use Rattle.std.specs.Prelude.{Option, Some, None}
use Rattle.std.specs.Prelude.{◌≡◌, Bool, false, ◌&&◌, List, [], ◌∷◌, ℕ, zero, suc, ◌^◌, ◌≤◌, ◌<◌, eqb, leb, length}
use Rattle.std.proofs.Math.Path.{refl}
use Rattle.std.proofs.Common.{ap, ◌∙◌, pow-suc, arith, eqb-true, leb-true, le-leb}
use Rattle.std.proofs.Math.Bool.{true}
use Rattle.std.proofs.lemmas.Bool.{false≢true}
use Rattle.std.proofs.Math.Nat.{pow-le-pow_right}
use Rattle.rules.specs.declared.Fault.{Fault}
use Rattle.rules.specs.declared.Run.{Run}
use Rattle.rules.specs.Words.{pick}
use Rattle.rules.specs.Case.{Case}
use Rattle.rules.specs.Slot.{TaskSet, opened, worked}
use Rattle.rules.specs.Replay.{setup_in, released_at}
use Rattle.rules.specs.Refusals.{unless, or_next}
use Rattle.rules.specs.Text.{newline_byte, return_byte, tab_byte, is_digit}
use Rattle.rules.specs.Log.{slot_word}
use Rattle.lists.specs.Lists.{picked}
use Rattle.lists.specs.Tests.{and_left, and_right}
use Rattle.legal.specs.Firsts.{unless_clear, next_clear}
use Rattle.feeds.specs.NumScan.{NumScan, num_bad, num_so_far, fits, num_byte, num_end}
use Rattle.feeds.specs.LineScan.{LineScan, unread, wrong, in_word, in_time, in_task, returned, after_time, after_task, time_at, task_at}
use Rattle.feeds.specs.LineScan.{word_tab, word_byte, field_byte, Heard, heard_bad, heard, heard_time}
use Rattle.feeds.specs.LineScan.{heard_task, line_end, after_return, at_return, scan_byte}
use Rattle.feeds.specs.Feed.{Feed, feed_of, opening, formed_heard, set_heard, heard_fault, closed, feed_byte}
use Rattle.feeds.specs.Feed.{feed, fed_fault}
use Rattle.feeds.specs.Bounds.{NumSmall, ValueSmall, LineSmall, HeardSmall, FeedSmall}

small_byte : (x : NumScan) (b : ℕ) → NumSmall x → NumSmall (num_byte x b)
unfolding num_byte
small_byte num_bad b h = tt
small_byte (num_so_far k v) b h = picked NumSmall (fits k v b) _ _ (λ e.
    let a = and_left (is_digit b && leb k 8) _ e in
    let d = and_left (is_digit b) (leb k 8) a in
    let l : b ≤ 57 = leb-true b 57 (and_right (leb 48 b) (leb b 57) d) in
    let m : k ≤ 8 = leb-true k 8 (and_right (is_digit b) (leb k 8) a) in
    (omega arith, omega (arith, h.1, pow-suc 10 k))) (λ e. tt)

small_end : (x : NumScan) → NumSmall x → ValueSmall (num_end x)
unfolding num_end
small_end num_bad h = tt
small_end (num_so_far zero v) h = tt
small_end (num_so_far (suc k) v) h = omega (arith, h.1, pow-le-pow_right {n = 10} (omega arith) {i = suc k} {j = 9} h.0)

small_word : (ws : List ℕ) (b : ℕ) → length ws ≤ 4 → LineSmall (pick (eqb b tab_byte) (word_tab ws) (word_byte ws b))
small_word [] b h = picked LineSmall (eqb b tab_byte) _ _ (λ e. (omega arith, omega arith)) (λ e. tt)
small_word (x ∷ xs) b h = picked LineSmall (eqb b tab_byte) _ _ (λ e. tt)
    (λ e. picked LineSmall (eqb b x) _ _ (λ q. omega arith) (λ q. tt))

small_time : (n : Option ℕ) → ValueSmall n → LineSmall (after_time n)
small_time None h = tt
small_time (Some v) h = (h, omega arith, (omega arith, omega arith))

small_task : (t low : ℕ) (rises names : Bool) (set : TaskSet) (n : Option ℕ) → t < 10 ^ 9 → ValueSmall n
    → LineSmall (after_task t low rises names set n)
small_task t low rises names set None l h = tt
small_task t low rises names set (Some v) l h = (l, omega arith, (omega arith, omega arith))

pub small_field : (x : LineScan) (b : ℕ) → LineSmall x → LineSmall (field_byte x b)
unfolding field_byte
small_field unread b h = small_word slot_word b (omega arith)
small_field wrong b h = tt
small_field (in_word ws) b h = small_word ws b h
small_field (in_time k v) b h =
    picked LineSmall (eqb b tab_byte) _ _ (λ e. small_time (num_end (num_so_far k v)) (small_end (num_so_far k v) h))
    (λ e. small_at (num_byte (num_so_far k v) b) (small_byte (num_so_far k v) b h))
  where
    small_at : (x : NumScan) → NumSmall x → LineSmall (time_at x)
    small_at num_bad h = tt
    small_at (num_so_far k v) h = h
small_field (in_task t low rises names set k v) b h =
    picked LineSmall (eqb b tab_byte) _ _
    (λ e. small_task t low rises names set (num_end (num_so_far k v)) h.0 (small_end (num_so_far k v) h.2))
    (λ e. small_at (num_byte (num_so_far k v) b) (small_byte (num_so_far k v) b h.2))
  where
    small_at : (x : NumScan) → NumSmall x → LineSmall (task_at t low rises names set x)
    small_at num_bad z = tt
    small_at (num_so_far k v) z = (h.0, h.1, z)
small_field (returned t rises names set) b h = tt

small_heard : (x : LineScan) → LineSmall x → HeardSmall (line_end x)
unfolding line_end
small_heard unread h = tt
small_heard wrong h = tt
small_heard (in_word ws) h = tt
small_heard (in_time k v) h = go (num_end (num_so_far k v)) (small_end (num_so_far k v) h)
  where
    go : (n : Option ℕ) → ValueSmall n → HeardSmall (heard_time n)
    go None h = tt
    go (Some v) h = h
small_heard (in_task t low rises names set k v) h = go (num_end (num_so_far k v))
  where
    go : (n : Option ℕ) → HeardSmall (heard_task t low rises names set n)
    go None = tt
    go (Some v) = h.0
small_heard (returned t rises names set) h = h

small_after : (h : Heard) → HeardSmall h → LineSmall (after_return h)
small_after heard_bad s = tt
small_after (heard t rises names set) s = s

small_return : (x : LineScan) → LineSmall x → LineSmall (at_return x)
unfolding at_return line_end
small_return unread h = tt
small_return wrong h = tt
small_return (in_word ws) h = tt
small_return (in_time k v) h = small_after (heard_time (num_end (num_so_far k v))) (small_heard (in_time k v) h)
small_return (in_task t low rises names set k v) h =
    small_after (heard_task t low rises names set (num_end (num_so_far k v))) (small_heard (in_task t low rises names set k v) h)
small_return (returned t rises names set) h = tt

pub small_scan : (x : LineScan) (b : ℕ) → LineSmall x → LineSmall (scan_byte x b)
unfolding scan_byte
small_scan x b h = picked LineSmall (eqb b return_byte) _ _ (λ e. small_return x h) (λ e. small_field x b h)

-- a line that is well formed names a time, so there are no more lines before it than that
formed_small : (n : ℕ) (h : Heard) → HeardSmall h → formed_heard n h ≡ true → n < 10 ^ 9
formed_small n heard_bad s e = absurd (false≢true e)
formed_small n (heard t rises names set) s e = omega (arith, eqb-true t n (and_left (eqb t n) rises e))

closed_small : (c : Case) (f : Feed) → FeedSmall f → FeedSmall (closed c f)
unfolding closed heard_fault
closed_small c f s = record {
  line = tt;
  count = λ e.
      let h = line_end f.line in
      let x = (next_clear f.fault _ e).1 in
      let y = (next_clear (unless (formed_heard f.count h) 17 (suc f.count)) _ x).0 in
      formed_small f.count h (small_heard f.line s.line)
      (unless_clear (formed_heard f.count h) 17 (suc f.count) (omega arith) y);
}

byte_small : (c : Case) (f : Feed) (b : ℕ) → FeedSmall f → FeedSmall (feed_byte c f b)
unfolding feed_byte
byte_small c f b s =
    picked FeedSmall (eqb b newline_byte) _ _ (λ e. closed_small c f s)
    (λ e. record { line = small_scan f.line b s.line; count = s.count })

-- whatever is fed, the state stays small
pub feed_small : (c : Case) (s : List ℕ) (f : Feed) → FeedSmall f → FeedSmall (feed c f s)
unfolding feed
feed_small c [] f h = h
feed_small c (b ∷ s) f h = feed_small c s (feed_byte c f b) (byte_small c f b h)

pub opening_small : FeedSmall opening
opening_small = record { line = tt; count = λ e. omega arith }

-- ---- from the end on
-- the fault of a line at or past the end does not depend on the run
pub past_fault : (c : Case) (n : ℕ) (q r : Run) (h : Heard) → c.end ≤ n → heard_fault c n q h ≡ heard_fault c n r h
unfolding heard_fault
past_fault c n q r h l = rw (le-leb c.end n l)

pub run_past : (c : Case) (s : List ℕ) (x : LineScan) (n : ℕ) (q r : Run) (f : Fault) → c.end ≤ n
    → fed_fault c (feed c (feed_of x n q f) s) ≡ fed_fault c (feed c (feed_of x n r f) s)
unfolding feed
run_past c [] x n q r f l = unfold fed_fault in refl
run_past c (b ∷ s) x n q r f l = go (eqb b newline_byte) refl
    (λ u v e. run_past c s unread (suc n) u v e (omega arith)) (run_past c s (scan_byte x b) n q r f l)
  where
    go : (e : Bool) → eqb b newline_byte ≡ e
        → ((u v : Run) (g : Fault) → fed_fault c (feed c (feed_of unread (suc n) u g) s)
        ≡ fed_fault c (feed c (feed_of unread (suc n) v g) s))
        → fed_fault c (feed c (feed_of (scan_byte x b) n q f) s) ≡ fed_fault c (feed c (feed_of (scan_byte x b) n r f) s)
        → fed_fault c (feed c (feed_byte c (feed_of x n q f) b) s) ≡ fed_fault c (feed c (feed_byte c (feed_of x n r f) b) s)
    go false e ends within = unfold feed_byte in rw e within
    go true e ends within = unfold feed_byte closed in rw e
        (ap (λ (g : Fault). fed_fault c
        (feed c (feed_of unread (suc n) (worked (set_heard (line_end x)) (opened (setup_in c) n (released_at c n) q)) (or_next f g)) s))
        (past_fault c n (opened (setup_in c) n (released_at c n) q) (opened (setup_in c) n (released_at c n) r) (line_end x) l)
        ∙ ends (worked (set_heard (line_end x)) (opened (setup_in c) n (released_at c n) q))
        (worked (set_heard (line_end x)) (opened (setup_in c) n (released_at c n) r))
        (or_next f (heard_fault c n (opened (setup_in c) n (released_at c n) r) (line_end x))))
