-- The policy line of a case text, which may be absent (document 01, "The case text"): whether a text has one, and the text with one put in.
-- The round trip speaks of it: writing what was read gives the same text but for this line.
use Rattle.std.specs.Prelude.{ℕ, Bool, List, ◌∷◌, ◌++◌, eqb}
use Rattle.rules.specs.Words.{pick}
use Rattle.rules.specs.Text.{newline_byte, up_to, line_of, after_line, field_of}
use Rattle.rules.specs.Reader.{word_kind}
use Rattle.rules.specs.Writer.{policy_text}

-- whether the second line of a text is a policy line
unfoldable pub policy_given : List ℕ → Bool
policy_given s = eqb (word_kind (field_of (line_of (after_line s)))) 2

-- a text with the line of policy p put in after its first line, where it has none; every byte of the text stays
unfoldable pub with_policy : ℕ → List ℕ → List ℕ
with_policy p s = pick (policy_given s) s (up_to newline_byte s ++ (newline_byte ∷ (policy_text p ++ after_line s)))
