-- What is known of an accepted text where its second line starts, and what the converter answers, by where a fault is found: with the
-- text, with the size of the converted one, nowhere.
use Rattle.std.specs.Prelude.{Ok, Err}
use mathlib.Core.Path.{◌≡◌, refl, sym, ap, ◌∙◌}
use mathlib.Core.Bool.{Bool, true, false}
use mathlib.Core.List.{List, [], ◌∷◌, ◌++◌, append_assoc}
use Prim.Native.Nat.{ℕ, suc, ◌+◌, ◌-◌, ◌≤◌, ◌<◌}
use native.Mathlib.Omega.{arith}
use lib.Dec.{eqb, leb}
use lib.ListN.{length, length-append, length-drop, take, drop}
use lib.Seq.{take_all}
use Rattle.rules.specs.declared.Fault.{Fault}
use Rattle.rules.specs.Words.{pick}
use Rattle.rules.specs.Limits.{max_text}
use Rattle.rules.specs.Refusals.{checked, unless, first, room_fault}
use Rattle.rules.specs.Answers.{result}
use Rattle.rules.specs.Policies.{edf, policy_name}
use Rattle.rules.specs.Text.{newline_byte, up_to, line_of, after_line, field_of}
use Rattle.rules.specs.Reader.{word_kind, length_fault, text_fault}
use Rattle.rules.specs.Writer.{more_fields, line_text, policy_text}
use Rattle.rules.specs.PolicyLine.{policy_given, with_policy}
use Rattle.rules.specs.Convert.{converted, convert_fault, convert_answer, convert_bytes}
use Rattle.rules.specs.Calls.{ConvertPromise}
use Rattle.lists.specs.Lists.{take-first}
use Rattle.legal.specs.Firsts.{next_none, checked_stop}
use Rattle.legal.specs.Settled.{refuses, leaves, settles, puts}
use Rattle.texts.specs.LinesOf.{line_cut}
use Rattle.conversion.specs.Conversion.{text_ended, line_long, converted_long}
use Rattle.puts.specs.Laid.{Laid}
use Rattle.puts.proofs.Puts.{laid_front}
use Rattle.scan.proofs.Parts.{drop_past}
use Rattle.reader.proofs.Answered.{told}

-- ---- the line that is put in
-- its bytes
pub line_bytes_lem : policy_text edf ≡ 112 ∷ 111 ∷ 108 ∷ 105 ∷ 99 ∷ 121 ∷ 9 ∷ 101 ∷ 100 ∷ 102 ∷ 10 ∷ []
unfolding policy_text line_text more_fields policy_name
line_bytes_lem = refl

pub line_few : (g : Bool) (n : ℕ) → n ≡ pick g 0 (length (policy_text edf)) → n ≤ max_text
line_few true n e = omega (arith, e)
line_few false n e = omega (arith, e, line_long)

-- a text with it behind the first bytes, as they are lent
pub between : (s : List ℕ) (at : ℕ) → at ≤ length s
    → take (at - 0) (drop 0 s) ++ ((112 ∷ 111 ∷ 108 ∷ 105 ∷ 99 ∷ 121 ∷ 9 ∷ 101 ∷ 100 ∷ 102 ∷ 10 ∷ []) ++ take (length s - at) (drop at s))
    ≡ take at s ++ (policy_text edf ++ drop at s)
between s at h =
    let from : at - 0 ≡ at = omega arith in
    rw (from, line_bytes_lem, take_all (length s - at) (drop at s) (omega (arith, length-drop at s)))

-- ---- the second line of an accepted text starts behind the newline at e
module _ (s : List ℕ) (clear : (text_fault s).number ≡ 0) where
  long : length s ≡ length (up_to newline_byte s) + suc (length (after_line s))
  long = ap length (sym (line_cut s (text_ended s clear))) ∙ length-append (up_to newline_byte s) (newline_byte ∷ after_line s)

  module _ (e : ℕ) (found : e ≡ 0 + length (up_to newline_byte (drop 0 s))) where
    pub within : e + 1 ≤ length s
    within = omega (arith, long, found)

    unread : drop (e + 1) s ≡ after_line s
    unfolding after_line
    unread =
        let n : e + 1 ≡ suc (length (up_to newline_byte s)) = omega (arith, found) in
        let l : length (up_to newline_byte s) < length s = omega (arith, long) in
        rw n (drop_past newline_byte s l)

    before : take (e + 1) s ≡ up_to newline_byte s ++ (newline_byte ∷ [])
    before =
        let u = up_to newline_byte s in
        let whole : s ≡ (u ++ (newline_byte ∷ [])) ++ after_line s =
        sym (line_cut s (text_ended s clear)) ∙ sym (append_assoc u (newline_byte ∷ []) (after_line s)) in
        ap (take (e + 1)) whole
        ∙ take-first (e + 1) (u ++ (newline_byte ∷ [])) (after_line s) (omega (arith, found, length-append u (newline_byte ∷ [])))

    -- whether a policy line is there
    given_there : eqb (word_kind (field_of (line_of (drop (e + 1) s)))) 2 ≡ policy_given s
    unfolding policy_given
    given_there = rw unread

    -- the text that is put
    pub put_there : (g : Bool) → g ≡ policy_given s
        → pick g s (take (e + 1) s ++ (policy_text edf ++ drop (e + 1) s)) ≡ converted s
    unfolding converted with_policy
    put_there g q =
        rw (q, unread, before, append_assoc (up_to newline_byte s) (newline_byte ∷ []) (policy_text edf ++ after_line s))

  -- and how long it is
  pub put_long : (g : Bool) → g ≡ policy_given s → length s + pick g 0 (length (policy_text edf)) ≡ length (converted s)
  put_long g q = rw q (sym (converted_long s clear))

-- ---- what was found at fault
-- with the size of a text
abbrev size_fault : ℕ → ℕ → Fault
size_fault n room = first (unless (leb n max_text) 1 0 ∷ room_fault n room ∷ [])

module _ (s : List ℕ) (room : ℕ) where
  pub text_at_fault : (f : Fault) → checked (text_fault s) ≡ Err f → checked (convert_fault s room) ≡ Err f
  unfolding convert_fault
  text_at_fault f e = checked_stop _ _ f e

-- with a text that is accepted: whether its policy line is given, how long the converted text is, and what is at fault with that
pub record Sized (s : List ℕ) (room : ℕ) (given : Bool) (more : ℕ) : Type 0 where
  pub given_is : given ≡ policy_given s
  pub long : length s + more ≡ length (converted s)
  pub fault : convert_fault s room ≡ size_fault (length s + more) room

pub sized : (s : List ℕ) (room : ℕ) → (text_fault s).number ≡ 0 → (e : ℕ) → e ≡ 0 + length (up_to newline_byte (drop 0 s))
    → (given : Bool) (more : ℕ) → given ≡ eqb (word_kind (field_of (line_of (drop (e + 1) s)))) 2
    → more ≡ pick given 0 (length (policy_text edf)) → Sized s room given more
unfolding convert_fault length_fault
sized s room clear e found given more p q =
    let g = p ∙ given_there s clear e found in
    let l = ap (λ (n : ℕ). length s + n) q ∙ put_long s clear given g in
    record {
      given_is = g;
      long = l;
      fault = next_none (text_fault s) _ clear ∙ ap (λ (k : ℕ). size_fault k room) (sym l);
    }

-- what is answered, and what the bytes are then
pub refusing : (s room : List ℕ) (f : Fault) → checked (convert_fault s (length room)) ≡ Err f → ConvertPromise s room (Err f) room
unfolding convert_answer convert_bytes
refusing s room f e =
    let w = told _ f e in
    record { answer = refuses f _ w.0 _ w.1; left = leaves f _ w.0 _ _ w.1 }

pub converting : (s room new : List ℕ) (n : ℕ) → (convert_fault s (length room)).number ≡ 0
    → length (converted s) ≤ length room
    → Laid 0 (converted s) room new n
    → ConvertPromise s room (Ok n) new
unfolding convert_answer convert_bytes
converting s room new n e h p =
    let l : n ≡ length (converted s) = omega (arith, p.behind) in
    record { answer = ap (λ (k : ℕ). result (k ∷ [])) l ∙ settles _ _ refl _ e; left = laid_front p h ∙ puts _ _ refl _ _ e }
