-- What the state of the check stands for: a fed state (feeds, Feed), as long as nothing is at fault, and its first fault from then on;
-- and what one slot and one line of the log make of it.
use Rattle.std.specs.Prelude.{ℕ, suc, ◌≤◌, ◌<◌, ◌^◌, ◌≡◌, Bool, List, eqb, length}
use Rattle.rules.specs.declared.Fault.{Fault}
use Rattle.rules.specs.declared.Run.{Run}
use Rattle.rules.specs.Words.{pick}
use Rattle.rules.specs.Limits.{max_tasks}
use Rattle.rules.specs.Case.{Case, release_count}
use Rattle.rules.specs.Slot.{Setup, jobs_now, opened, worked}
use Rattle.rules.specs.Replay.{setup_in, released_in, released_at}
use Rattle.rules.specs.Refusals.{no_fault, fault_of}
use Rattle.bridge.specs.Steps.{Full}
use Rattle.bridge.specs.Turn.{Reached}
use Rattle.counts.specs.Needs.{Counts}
use Rattle.feeds.specs.LineScan.{LineScan, line_end}
use Rattle.feeds.specs.Feed.{Feed, heard_fault, set_heard}
use Rattle.feeds.specs.Bounds.{FeedSmall}
use Rattle.slot.specs.Stepped.{settled_run}
use Rattle.slot.specs.Calm.{Ahead}
use Rattle.heard.specs.declared.Scan.{Scan}
use Rattle.heard.specs.Scans.{scan_as}
use Rattle.follow.specs.declared.Log.{Log}

-- the state, from its parts
abbrev pub log_of : Run → List Bool → Scan → ℕ → ℕ → ℕ → Bool → ℕ → Log
log_of r xs scan lines next jobs calm number =
    record { run = r; named = xs; scan = scan; lines = lines; next = next; jobs = jobs; calm = calm; number = number }

-- a fault of the line with n lines before it, by its number
abbrev pub fault_at : ℕ → ℕ → Fault
fault_at number n = pick (eqb number 0) no_fault (fault_of number (suc n))

-- nothing is at fault: line, count and, up to the end, the run, the releases and what is known of the next slot are those of the fed state
pub record Going (c : Case) (f : Feed) (d : Log) : Type 0 where
  pub long : length d.named ≡ max_tasks
  pub line : scan_as d.scan d.named ≡ f.line
  pub count : d.lines ≡ f.count
  pub run : d.lines ≤ c.end → d.run ≡ f.run
  pub full : d.lines ≤ c.end → Full d.run
  pub reached : d.lines ≤ c.end → Reached c.trace d.next d.lines
  pub ahead : d.lines ≤ c.end → Ahead c.policy d.lines d.run d.jobs d.calm

pub record Follows (c : Case) (f : Feed) (d : Log) : Type 0 where
  pub small : FeedSmall f
  pub few : d.lines ≤ 10 ^ 9
  pub fault : f.fault ≡ fault_at d.number d.lines
  pub going : d.number ≡ 0 → Going c f d

-- it stands for some fed state
pub record Followed (c : Case) (d : Log) : Type 0 where
  pub fed : Feed
  pub follows : Follows c fed d

-- ---- one slot is opened
-- what its code asks for: a time before the end of the case, the free counts of its table, and the releases up to that time taken
pub record Openable (c : Case) (counts : List ℕ) (t next : ℕ) : Type 0 where
  pub before : t < c.end
  pub counted : Counts c.procs c.table counts
  pub reached : Reached c.trace next t

-- steps 1 to 3 with what is released at its time: the run, the releases after it, the jobs
pub record Opens (g : Setup) (trace : List ℕ) (t : ℕ) (r s : Run) (next jobs : ℕ) : Type 0 where
  pub run : s ≡ settled_run g t (released_in trace (release_count trace) t) r
  pub reached : Reached trace next (suc t)
  pub counted : jobs ≡ jobs_now s

-- ---- one line with n before it: its fault, and where it has none and stands before the end, the run behind its slot, the releases, and
-- what is known of the slot after it
pub record Closed (c : Case) (n : ℕ) (x : LineScan) (r s : Run) (ys : List Bool) (next jobs : ℕ) (calm : Bool) (number : ℕ) : Type 0
  where
    pub long : length ys ≡ max_tasks
    pub fault : heard_fault c n (opened (setup_in c) n (released_at c n) r) (line_end x) ≡ fault_at number n
    pub run : number ≡ 0 → n < c.end → s ≡ worked (set_heard (line_end x)) (opened (setup_in c) n (released_at c n) r)
    pub full : number ≡ 0 → n < c.end → Full s
    pub reached : number ≡ 0 → n < c.end → Reached c.trace next (suc n)
    pub ahead : number ≡ 0 → n < c.end → Ahead c.policy (suc n) s jobs calm
