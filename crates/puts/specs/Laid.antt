-- What every writer of this crate and of those above it promises: a text stands in the lent bytes from an index on, and all else is as
-- it was. So texts may be put one behind the other ("each line goes into the unused end of the output").
use Rattle.std.specs.Prelude.{ℕ, ◌+◌, ◌≡◌, List, length}
use Rattle.std.proofs.lemmas.List.Edits.{sets}

-- the bytes of `text` are stored one by one over `old` from index `at` on, which gives `new`; `end` is the index behind them
pub record Laid (at : ℕ) (text old new : List ℕ) (end : ℕ) : Type 0 where
  pub behind : end ≡ at + length text
  pub bytes : new ≡ sets old at text
