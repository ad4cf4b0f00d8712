-- The state of a log that is fed (Feed) does not grow: every number in it fits 32 bits, and the lines are counted no further than any time
-- can name unless a fault was found. And from the end on the state of the run does not matter. For the code that keeps it.
use Rattle.std.specs.Prelude.{ℕ, Option, Some, None}
use Rattle.std.specs.Prelude.{◌≡◌, ◌^◌, ◌≤◌, ◌<◌, length}
use Rattle.feeds.specs.NumScan.{NumScan, num_bad, num_so_far}
use Rattle.feeds.specs.LineScan.{LineScan, unread, wrong, in_word, in_time, in_task, returned}
use Rattle.feeds.specs.LineScan.{Heard, heard_bad, heard}
use Rattle.feeds.specs.Feed.{Feed}

-- ---- numbers
abbrev pub NumSmall : NumScan → Type 0
NumSmall num_bad = Unit {0}
NumSmall (num_so_far k v) = (k ≤ 9) × (v < 10 ^ k)

abbrev pub ValueSmall : Option ℕ → Type 0
ValueSmall None = Unit {0}
ValueSmall (Some v) = v < 10 ^ 9

-- ---- lines
abbrev pub LineSmall : LineScan → Type 0
LineSmall unread = Unit {0}
LineSmall wrong = Unit {0}
LineSmall (in_word ws) = length ws ≤ 4
LineSmall (in_time k v) = NumSmall (num_so_far k v)
LineSmall (in_task t low rises names set k v) = (t < 10 ^ 9) × (low ≤ 10 ^ 9) × NumSmall (num_so_far k v)
LineSmall (returned t rises names set) = t < 10 ^ 9

abbrev pub HeardSmall : Heard → Type 0
HeardSmall heard_bad = Unit {0}
HeardSmall (heard t rises names set) = t < 10 ^ 9

-- ---- the whole state
pub record FeedSmall (f : Feed) : Type 0 where
  pub line : LineSmall f.line
  pub count : f.fault.number ≡ 0 → f.count ≤ 10 ^ 9
