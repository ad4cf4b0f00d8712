-- The policies (document 01, "The model": policy 0 is EDF, policy 1 is EDF-CF; "What happens at time t" and "The case text"): their
-- numbers, their words, which of them demote and where the free count of each comes from. Nothing else tells one policy from another.
use Rattle.std.specs.Prelude.{Option, Some, None}
use Rattle.std.specs.Prelude.{ℕ, suc, Bool, List, [], ◌∷◌, eqb, get_or}
use Rattle.rules.specs.Words.{pick}
use Rattle.rules.specs.Counts.{free_count}
use Rattle.rules.specs.Text.{same}

-- ---- numbers: policy 0 is EDF, policy 1 is EDF-CF
abbrev pub edf : ℕ
edf = 0

abbrev pub edf_cf : ℕ
edf_cf = 1

-- the last of them
abbrev pub max_policy : ℕ
max_policy = edf_cf

-- ---- words
abbrev pub edf_word : List ℕ
edf_word = 101 ∷ 100 ∷ 102 ∷ []

abbrev pub edf_cf_word : List ℕ
edf_cf_word = 101 ∷ 100 ∷ 102 ∷ 45 ∷ 99 ∷ 102 ∷ []

-- the words of the policies, in the order of their numbers
abbrev pub policy_words : List (List ℕ)
policy_words = edf_word ∷ edf_cf_word ∷ []

-- the word of a policy: that at the place of its number (a number that is no policy has none)
unfoldable pub policy_name : ℕ → List ℕ
policy_name p = get_or policy_words p []

-- the place of a word among words, the first of which is at n
unfoldable pub place_from : ℕ → List (List ℕ) → List ℕ → Option ℕ
place_from n [] s = None
place_from n (w ∷ ws) s = pick (same s w) (Some n) (place_from (suc n) ws s)

-- the policy that a word names: its place among the words
unfoldable pub policy_of : List ℕ → Option ℕ
policy_of s = place_from 0 policy_words s

-- ---- what a policy does
-- whether steps 3 and 4's change take place under it: EDF-CF only
abbrev pub demoting : ℕ → Bool
demoting p = eqb p edf_cf

-- the free count that it gives the jobs of the task at i, on m processors with the table ts: the task's free count
abbrev pub free_count_under : ℕ → ℕ → List ℕ → ℕ → ℕ
free_count_under p m ts i = free_count m ts i
