-- The kind that a word opens is the kind of what its fields say, unless that is badly formed.
use Rattle.std.specs.Prelude.{Option, Some, None}
use mathlib.Core.Path.{◌≡◌, refl, sym, ap, ap₂, ◌∙◌}
use mathlib.Core.Bool.{true, false}
use mathlib.Core.List.{List, ◌∷◌, ◌++◌}
use Prim.Native.Nat.{ℕ, ◌≤◌}
use native.Mathlib.Omega.{arith}
use lib.Dec.{eqb}
use lib.ListN.{length, get_or, take, drop, take-append-drop, length-append}
use lib.Seq.{drop-cons}
use borrow.Author.Tests.{eqb-true}
use Rattle.rules.specs.declared.Line.{Line}
use Rattle.rules.specs.declared.Line.TheVariants.{Bad, Procs, Policy, Row, End, Release}
use Rattle.rules.specs.Text.{tab_byte, same, has, up_to, past, number_in, field_of, after_field, release_word}
use Rattle.rules.specs.Policies.{policy_of}
use Rattle.rules.specs.Reader.{with_number, one_number, two_numbers, three_numbers, policy_in, word_kind, fields_say, line_says}
use Rattle.lists.specs.Lists.{picked}
use Rattle.texts.specs.Fields.{same_true, up_to_seam, past_seam}
use Rattle.kinds.specs.Says.{Opens, StartsRelease}

bad_opens : (k : ℕ) → Opens k Bad
bad_opens k h = absurd (h refl)

number_opens : (k : ℕ) (n : Option ℕ) (say : ℕ → Line) → ((a : ℕ) → Opens k (say a)) → Opens k (with_number n say)
number_opens k (Some v) say h = h v
number_opens k None say h = bad_opens k

one-opens : (k : ℕ) (s : List ℕ) (say : ℕ → Line) → ((a : ℕ) → Opens k (say a)) → Opens k (one_number s say)
unfolding one_number
one-opens k s say h = number_opens k (number_in s) say h

two-opens : (k : ℕ) (s : List ℕ) (say : ℕ → ℕ → Line) → ((a b : ℕ) → Opens k (say a b)) → Opens k (two_numbers s say)
unfolding two_numbers
two-opens k s say h = number_opens k (number_in (field_of s)) _ (λ a. one-opens k (after_field s) (say a) (h a))

three_opens : (k : ℕ) (s : List ℕ) (say : ℕ → ℕ → ℕ → Line) → ((a b d : ℕ) → Opens k (say a b d))
    → Opens k (three_numbers s say)
unfolding three_numbers
three_opens k s say h = number_opens k (number_in (field_of s)) _ (λ a. two-opens k (after_field s) (say a) (h a))

policy_opens : (s : List ℕ) → Opens 2 (policy_in s)
unfolding policy_in
policy_opens s = number_opens 2 (policy_of s) Policy (λ p _. refl)

-- what the fields of a line of kind k say is of kind k
pub fields_open : (k : ℕ) (s : List ℕ) → Opens k (fields_say k s)
unfolding fields_say
fields_open k s =
    picked (Opens k) (eqb k 1) _ _ (λ e. rw (eqb-true k 1 e) (one-opens 1 s Procs (λ a _. refl)))
    (λ _. picked (Opens k) (eqb k 2) _ _ (λ e. rw (eqb-true k 2 e) (policy_opens s))
    (λ _. picked (Opens k) (eqb k 3) _ _ (λ e. rw (eqb-true k 3 e) (three_opens 3 s Row (λ a b d _. refl)))
    (λ _. picked (Opens k) (eqb k 4) _ _ (λ e. rw (eqb-true k 4 e) (one-opens 4 s End (λ a _. refl)))
    (λ _. picked (Opens k) (eqb k 5) _ _ (λ e. rw (eqb-true k 5 e) (two-opens 5 s Release (λ a b _. refl))) (λ _. bad_opens k)))))

-- a line whose first bytes are the word of a release, with a tab behind them
pub starts : (s : List ℕ) → 8 ≤ length s → get_or s 7 0 ≡ tab_byte → same (take 7 s) release_word ≡ true → StartsRelease s
starts s h t w =
    sym (take-append-drop 7 s) ∙ ap₂ ◌++◌ (same_true (take 7 s) release_word w)
    (drop-cons s 7 0 h ∙ ap (λ (b : ℕ). b ∷ drop 8 s) t)

pub starts_long : (s : List ℕ) → StartsRelease s → 8 ≤ length s
starts_long s e = omega (arith, ap length e ∙ length-append release_word (tab_byte ∷ drop 8 s))

-- such a line has that word, its fields are behind the tab, and it says what two numbers say
pub release_line_lem : (s : List ℕ) → StartsRelease s → line_says s ≡ fields_say 5 (drop 8 s)
unfolding line_says field_of after_field word_kind same has
release_line_lem s e =
    let plain : has tab_byte release_word ≡ false = refl in
    let word : field_of s ≡ release_word = ap (up_to tab_byte) e ∙ up_to_seam tab_byte release_word (drop 8 s) plain in
    let fields : after_field s ≡ drop 8 s = ap (past tab_byte) e ∙ past_seam tab_byte release_word (drop 8 s) plain in
    rw (word, fields)
