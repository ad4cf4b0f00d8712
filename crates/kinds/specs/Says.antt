-- What one line says, together with the kind that its word opens (rules, Reader): the contract of `line_says`, which looks at the word
-- once. A line that is badly formed has no kind, whatever its word is.
use Rattle.std.specs.Prelude.{ℕ, ◌≡◌, List, ◌∷◌, ◌++◌, drop}
use Rattle.rules.specs.Text.{tab_byte, release_word}
use Rattle.rules.specs.Reader.{line_says, kind_of}
use Rattle.rules.specs.declared.Line.{Line}
use Rattle.kinds.specs.declared.Said.{Said}

-- a line that is not badly formed is of kind k
abbrev pub Opens : ℕ → Line → Type 0
Opens k l = (kind_of l ≡ 0 → ⊥) → kind_of l ≡ k

pub record Says (s : List ℕ) (r : Said) : Type 0 where
  pub line : r.line ≡ line_says s
  pub opens : Opens r.kind r.line

-- a line starts with the word of a release and a tab, behind which its fields are
abbrev pub StartsRelease : List ℕ → Type 0
StartsRelease s = s ≡ release_word ++ (tab_byte ∷ drop 8 s)
