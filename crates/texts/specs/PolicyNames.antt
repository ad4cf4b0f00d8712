-- The words of the policies (rules, Policies): how long they are, that they stand in a field, and that each is read as the number that
-- it is written for. All by the list of words, computed once: a policy more changes at most `name_room`.
use Rattle.std.specs.Prelude.{Option, Some, None}
use Rattle.std.specs.Prelude.{◌≡◌, refl, true, List, [], ℕ, ◌≤◌, ◌<◌, length}
use Rattle.std.proofs.Common.{◌∙◌, zero-add, arith}
use Rattle.rules.specs.Text.{same, has}
use Rattle.rules.specs.Policies.{max_policy, policy_words, policy_name, policy_of}
use Rattle.texts.specs.Fields.{Plain}
use Rattle.texts.specs.WordLists.{every, every_at, every_all, none_at, is_plain, is_plain_lem, is_long, is_long_lem, distinct, place_found}
use Rattle.texts.specs.WordLists.{place_read}

-- no policy's word is longer
abbrev pub name_room : ℕ
name_room = 6

-- ---- what is computed of the words
plain-words : every is_plain policy_words ≡ true
unfolding every has
plain-words = refl

long_words : every (is_long 1 name_room) policy_words ≡ true
unfolding every
long_words = refl

distinct-words : distinct policy_words ≡ true
unfolding distinct every same
distinct-words = refl

-- ---- what follows of each policy
-- no tab, no newline and no return stands in its word
pub name_plain : (p : ℕ) → Plain (policy_name p)
unfolding policy_name has
name_plain p = is_plain_lem (policy_name p) (every_all is_plain policy_words p plain-words refl)

pub name_some : (p : ℕ) → p ≤ max_policy → 1 ≤ length (policy_name p)
unfolding policy_name
name_some p h = (is_long_lem 1 name_room (policy_name p) (every_at (is_long 1 name_room) policy_words p long_words (omega arith))).0

pub name_short : (p : ℕ) → length (policy_name p) ≤ name_room
unfolding policy_name every
name_short p = (is_long_lem 0 name_room (policy_name p) (every_all (is_long 0 name_room) policy_words p refl refl)).1

-- a number that is no policy has no word
pub name_none : (p : ℕ) → max_policy < p → policy_name p ≡ []
unfolding policy_name
name_none p h = none_at policy_words p (omega arith)

-- its word names it, and no other word does
pub name_found : (p : ℕ) → p ≤ max_policy → policy_of (policy_name p) ≡ Some p
unfolding policy_of policy_name
name_found p h = place_found 0 policy_words p distinct-words (omega arith) ∙ rw (zero-add p)

pub name_read : (P : Option ℕ → Type 0) (s : List ℕ) → P None → ((p : ℕ) → p ≤ max_policy → s ≡ policy_name p → P (Some p))
    → P (policy_of s)
unfolding policy_of policy_name
name_read P s bad good = place_read P 0 policy_words s bad (λ k h e. rw (zero-add k) (good k (omega arith) e))
