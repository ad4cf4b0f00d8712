-- What the types of this crate stand for, each with the lent set: a state of the line that is read byte by byte (feeds, LineScan), and
-- what is heard of a line at its end.
use Rattle.std.specs.Prelude.{◌≡◌, ◌⊎◌, ℕ, zero, suc, ◌+◌, Bool, true, List, drop}
use Rattle.rules.specs.Slot.{TaskSet}
use Rattle.rules.specs.Log.{slot_word}
use Rattle.lists.specs.Lists.{members}
use Rattle.feeds.specs.NumScan.{num_so_far}
use Rattle.feeds.specs.LineScan.{LineScan, unread, wrong, in_word, in_time, in_task, returned, Heard, heard_bad, heard}
use Rattle.feeds.specs.Bounds.{NumSmall}
use Rattle.heard.specs.declared.Phase.{Phase}
use Rattle.heard.specs.declared.Phase.TheVariants as Phase·
use Rattle.heard.specs.declared.Scan.{Scan}
use Rattle.heard.specs.declared.Ended.{Ended}
use Rattle.heard.specs.declared.Ended.TheVariants as Ended·

-- so many bytes of the word were read
abbrev pub word_at : ℕ → LineScan
word_at zero = unread
word_at (suc k) = in_word (drop (suc k) slot_word)

-- the phase that a number stands for
abbrev pub phase_of : ℕ → Phase
phase_of zero = Phase·.Word
phase_of (suc zero) = Phase·.Time
phase_of (suc (suc zero)) = Phase·.Task
phase_of (suc (suc (suc zero))) = Phase·.Wrong
phase_of (suc (suc (suc (suc n)))) = Phase·.Returned

abbrev pub phase_as : Phase → ℕ → ℕ → ℕ → ℕ → Bool → Bool → TaskSet → LineScan
phase_as Phase·.Word k v t low rises names set = word_at k
phase_as Phase·.Time k v t low rises names set = in_time k v
phase_as Phase·.Task k v t low rises names set = in_task t low rises names set k v
phase_as Phase·.Wrong k v t low rises names set = wrong
phase_as Phase·.Returned k v t low rises names set = returned t rises names set

abbrev pub scan_as : Scan → List Bool → LineScan
scan_as s xs = phase_as s.phase s.digits s.value s.time s.low s.rises s.names (members xs)

-- before the first byte
abbrev pub start_of : Scan
start_of = record { phase = Phase·.Word; digits = 0; value = 0; time = 0; low = 0; rises = true; names = true }

-- within the word
abbrev pub InWord : Scan → Type 0
InWord s = s.phase ≡ Phase·.Word

-- within a number, of the time or of a task
abbrev pub OfNumber : Phase → Type 0
OfNumber p = (p ≡ Phase·.Time) ⊎ (p ≡ Phase·.Task)

-- one that is small
pub record InNumber (s : Scan) : Type 0 where
  pub of : OfNumber s.phase
  pub small : NumSmall (num_so_far s.digits s.value)

-- the least task that rises behind a field
abbrev pub next_low : Phase → ℕ → ℕ
next_low Phase·.Word v = 0
next_low Phase·.Time v = 0
next_low Phase·.Task v = v + 1
next_low Phase·.Wrong v = 0
next_low Phase·.Returned v = 0

abbrev pub ended_as : Ended → List Bool → Heard
ended_as Ended·.Bad xs = heard_bad
ended_as (Ended·.Slot t rises names) xs = heard t rises names (members xs)
