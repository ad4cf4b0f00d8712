-- A text with the policy line put in (`with_policy` of rules, PolicyLine): its lines are those of the text with that one behind the first,
-- whatever the text is; and the two kinds of text without a fault in their lines, with a policy line and bare. For Conversion.
use Rattle.std.specs.Prelude.{◌≡◌, refl, Bool, true, ◌⊎◌, ℕ, ◌^◌, ◌≤◌, eqb, length}
use Rattle.std.proofs.Common.{sym, ap, ◌∙◌, subst, inl, inr, arith, length-append}
use Rattle.std.proofs.Math.Bool.{false}
use mathlib.Core.List.{List, [], ◌∷◌, ◌++◌, append_assoc, head-eq_of_cons-eq, tail-eq_of_cons-eq}
use Rattle.rules.specs.Words.{pick}
use Rattle.rules.specs.declared.Line.{Line}
use Rattle.rules.specs.declared.Line.TheVariants.{Bad, Procs, Policy}
use Rattle.rules.specs.Policies.{max_policy}
use Rattle.rules.specs.Text.{newline_byte, up_to, has, line_of, after_line}
use Rattle.rules.specs.Reader.{line_says, lines_of, kind_of, case_order, lines_fault}
use Rattle.rules.specs.Writer.{policy_text}
use Rattle.rules.specs.PolicyLine.{policy_given, with_policy}
use Rattle.texts.specs.Fields.{has_seam, up_to_without}
use Rattle.texts.specs.Returns.{line_plain, line_front, line_no_newline}
use Rattle.texts.specs.LinesOf.{line_cut, after_line-cons, lines_of-nil, lines_of_some, lines_of-cons}
use Rattle.roundtrip.specs.LineTrip.{word_in, fields_in, line_body, line_bytes, bytes_body, Said, Below, body_kind, written_says}
use Rattle.roundtrip.specs.LineTrip.{body_no_return}
use Rattle.roundtrip.specs.Lines.{body_no_newline, says_kind}
use Rattle.roundtrip.specs.Orders.{Body, ordered_of}

-- ---- the line that is put in
-- its bytes, and what follows
policy_bytes : (p : ℕ) (t : List ℕ) → policy_text p ++ t ≡ line_body (Policy p) ++ (newline_byte ∷ t)
unfolding policy_text line_bytes word_in fields_in
policy_bytes p t = ap (λ (b : List ℕ). b ++ t) (bytes_body (Policy p)) ∙ append_assoc (line_body (Policy p)) (newline_byte ∷ []) t

policy_lines : (p : ℕ) → p ≤ max_policy → (t : List ℕ) → lines_of (policy_text p ++ t) ≡ Policy p ∷ lines_of t
unfolding Below
policy_lines p h t =
    ap lines_of (policy_bytes p t) ∙ lines_of-cons (line_body (Policy p)) t (body_no_newline (Policy p)) (body_no_return (Policy p))
    ∙ ap (λ (l : Line). l ∷ lines_of t) (written_says (10 ^ 9) (Policy p) (omega arith) h)

-- ---- a text with it put in
abbrev pub put_in : ℕ → List ℕ → List ℕ
put_in p s = up_to newline_byte s ++ (newline_byte ∷ (policy_text p ++ after_line s))

past_put : (p : ℕ) (s : List ℕ) → after_line (put_in p s) ≡ policy_text p ++ after_line s
past_put p s = after_line-cons (up_to newline_byte s) (policy_text p ++ after_line s) (up_to_without newline_byte s)

-- its lines
pub put_lines : (p : ℕ) → p ≤ max_policy → (s : List ℕ)
    → lines_of (put_in p s) ≡ line_says (line_of (put_in p s)) ∷ Policy p ∷ lines_of (after_line s)
put_lines p h s =
    let u = up_to newline_byte s in
    let t = policy_text p ++ after_line s in
    lines_of_some (put_in p s) (omega (arith, length-append u (newline_byte ∷ t))) ∙
    rw (has_seam newline_byte u t, past_put p s, policy_lines p h (after_line s))

-- its first line is the text's
pub put_first : (p : ℕ) (s : List ℕ) → has newline_byte s ≡ true → line_of (put_in p s) ≡ line_of s
put_first p s h = line_front (up_to newline_byte s) (policy_text p ++ after_line s) (after_line s) ∙ ap line_of (line_cut s h)

-- its policy line is given
pub put_given : (p : ℕ) (s : List ℕ) → policy_given (put_in p s) ≡ true
unfolding policy_given
put_given p s =
    rw (
      past_put p s,
      policy_bytes p (after_line s),
      line_plain (line_body (Policy p)) (after_line s) (body_no_newline (Policy p)) (body_no_return (Policy p)),
      body_kind (Policy p),
    )

-- the line is put in once
pub put_once : (p : ℕ) (s : List ℕ) → with_policy p (with_policy p s) ≡ with_policy p s
put_once p s = go (policy_given s) refl
  where
    go : (b : Bool) → policy_given s ≡ b → with_policy p (with_policy p s) ≡ with_policy p s
    go true e = unfold with_policy in rw (e, e)
    go false e = unfold with_policy in rw (e, put_given p s)

-- ---- the lines of a text one by one
-- where the first says something it ends with a newline, and the others are past that
pub first_line : (s : List ℕ) (k : Line) (ls : List Line) → lines_of s ≡ k ∷ ls → Said k
    → (has newline_byte s ≡ true) × (line_says (line_of s) ≡ k) × (lines_of (after_line s) ≡ ls)
unfolding Said
first_line [] k ls e said = absurd (omega (arith, ap length (sym lines_of-nil ∙ e)))
first_line (b ∷ s) k ls e said = go (has newline_byte (b ∷ s)) refl (sym (lines_of_some (b ∷ s) (omega arith)) ∙ e)
  where
    go : (t : Bool) → has newline_byte (b ∷ s) ≡ t
        → pick t (line_says (line_of (b ∷ s))) Bad ∷ lines_of (after_line (b ∷ s)) ≡ k ∷ ls
        → (has newline_byte (b ∷ s) ≡ true) × (line_says (line_of (b ∷ s)) ≡ k) × (lines_of (after_line (b ∷ s)) ≡ ls)
    go true q e = (q, head-eq_of_cons-eq e, tail-eq_of_cons-eq e)
    go false q e = absurd (said (ap kind_of (sym (head-eq_of_cons-eq e))))

-- whether the second line is a policy line, by what it says
second_line : (s : List ℕ) (l : Line) → line_says (line_of (after_line s)) ≡ l → Said l → policy_given s ≡ eqb (kind_of l) 2
unfolding policy_given
second_line s l e said =
    rw (says_kind (line_of (after_line s)) (line_no_newline (after_line s)) (subst Said (sym e) said), e)

-- ---- a text without a fault in its lines: the policy line stands behind the first, or the tasks do
pub record Named (s : List ℕ) : Type 0 where
  pub procs : ℕ
  pub policy : ℕ
  pub after : List Line
  pub given : policy_given s ≡ true
  pub ended : has newline_byte s ≡ true
  pub lines : lines_of s ≡ Procs procs ∷ Policy policy ∷ after

pub record Bare (s : List ℕ) : Type 0 where
  pub procs : ℕ
  pub given : policy_given s ≡ false
  pub ended : has newline_byte s ≡ true
  pub says : line_says (line_of s) ≡ Procs procs
  pub lines : lines_of s ≡ Procs procs ∷ lines_of (after_line s)
  pub body : Body (lines_of (after_line s))

said : (l : Line) (k : ℕ) → kind_of l ≡ k → 1 ≤ k → Said l
unfolding Said
said l k e h z = omega arith

pub named_or_bare : (s : List ℕ) → (lines_fault case_order 0 1 (lines_of s)).number ≡ 0 → Named s ⊎ Bare s
named_or_bare s h =
    let o = ordered_of (lines_of s) h in
    go o.procs o.after o.body o.whole
  where
    go : (m : ℕ) (after : List Line) → Body after
        → ((p : ℕ) × (lines_of s ≡ Procs m ∷ Policy p ∷ after)) ⊎ (lines_of s ≡ Procs m ∷ after) → Named s ⊎ Bare s
    go m after b (inl (p, e)) =
        let one = first_line s (Procs m) (Policy p ∷ after) e (said (Procs m) 1 refl (omega arith)) in
        let policy-said = said (Policy p) 2 refl (omega arith) in
        let two = first_line (after_line s) (Policy p) after one.2 policy-said in
        inl (record {
          procs = m;
          policy = p;
          after = after;
          given = second_line s (Policy p) two.1 policy-said;
          ended = one.0;
          lines = e;
        })
    go m after b (inr e) =
        let one = first_line s (Procs m) after e (said (Procs m) 1 refl (omega arith)) in
        let task-said = said b.task 3 b.is_task (omega arith) in
        let two = first_line (after_line s) b.task b.others (one.2 ∙ b.whole) task-said in
        inr (record {
          procs = m;
          given = second_line s b.task two.1 task-said ∙ ap (λ (k : ℕ). eqb k 2) b.is_task;
          ended = one.0;
          says = one.1;
          lines = e ∙ ap (λ (ls : List Line). Procs m ∷ ls) (sym one.2);
          body = subst Body (sym one.2) b;
        })
