-- A line heard within a piece of bytes (`scan_all` of feeds, LineScan), said by what is left of it: going on in a line changes neither the
-- state at its end nor where that is.
use Rattle.std.specs.Prelude.{◌≡◌, Bool, List, ℕ, ◌+◌, ◌≤◌, length, drop}
use Rattle.rules.specs.Limits.{max_tasks}
use Rattle.rules.specs.Text.{newline_byte, up_to}
use Rattle.feeds.specs.NumScan.{num_so_far}
use Rattle.feeds.specs.LineScan.{LineScan, scan_all}
use Rattle.feeds.specs.Bounds.{NumSmall, LineSmall}
use Rattle.heard.specs.declared.Scan.{Scan}
use Rattle.heard.specs.Scans.{OfNumber}

-- a number that is being read is small
abbrev pub NumberSmall : Scan → Type 0
NumberSmall s = OfNumber s.phase → NumSmall (num_so_far s.digits s.value)

-- from a place of a piece and a state to a place further on and the state there
pub record Goes (bytes : List ℕ) (i : ℕ) (x : LineScan) (j : ℕ) (y : LineScan) : Type 0 where
  pub on : i ≤ j
  pub within : j ≤ length bytes
  pub small : LineSmall x → LineSmall y
  pub state : scan_all y (up_to newline_byte (drop j bytes)) ≡ scan_all x (up_to newline_byte (drop i bytes))
  pub place : j + length (up_to newline_byte (drop j bytes)) ≡ i + length (up_to newline_byte (drop i bytes))

-- a line heard from a place of a piece up to its newline or the end of the piece
pub record HeardLine (bytes : List ℕ) (from at : ℕ) (x y : LineScan) (xs : List Bool) : Type 0 where
  pub long : length xs ≡ max_tasks
  pub state : y ≡ scan_all x (up_to newline_byte (drop from bytes))
  pub place : at ≡ from + length (up_to newline_byte (drop from bytes))
