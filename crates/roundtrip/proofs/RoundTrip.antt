-- Laws over specs/RoundTrip.
use Rattle.std.specs.Prelude.{◌≡◌, true, false, List, ℕ}
use Rattle.std.proofs.Common.{ap, ◌∙◌}
use Rattle.rules.specs.Text.{return_byte, has, without_returns}
use Rattle.rules.specs.Reader.{case_in, text_fault}
use Rattle.rules.specs.Writer.{case_text}
use Rattle.texts.specs.Returns.{without_none}
use Rattle.roundtrip.specs.RoundTrip.{policy_given, with_policy, text_read}

-- where the policy line was there, just the text without its returns
pub text_read_given : (s : List ℕ) → (text_fault s).number ≡ 0 → policy_given (without_returns s) ≡ true
    → case_text (case_in s) ≡ without_returns s
unfolding with_policy
text_read_given s h g = text_read s h ∙ rw g

-- where there was no return, the same text but for the policy line
pub text_read_before : (s : List ℕ) → (text_fault s).number ≡ 0 → has return_byte s ≡ false → case_text (case_in s) ≡ with_policy s
text_read_before s h r = text_read s h ∙ ap with_policy (without_none s r)
