-- `writer::put_policy_line` meets its contract: the word, behind it the policy's, behind that the newline.
use Prim.Native.Nat.{◌+◌, ◌≤◌, ◌<◌}
use mathlib.Core.List.{[], ◌∷◌}
use native.Mathlib.Omega.{arith}
use lib.ListN.{length, length-append}
use Rattle.rules.specs.Policies.{policy_name}
use Rattle.rules.specs.Writer.{policy_text, line_text, more_fields}
use Rattle.puts.specs.Fields.{word_of}
use Rattle.puts.proofs.Puts.{laid_byte, laid_then}
use Rattle.writer.proofs.put_policy_line.Goals as goal

pub put_word-at-requires : goal.put_word-at-requires
unfolding line_text more_fields policy_text word_of
put_word-at-requires c =
    -- the word, the policy with its tab and the newline have room
    let parts : 6 + (1 + length (policy_name c.args.policy)) + 1 ≤ length c.args.out.now =
    omega (arith, length-append (policy_name c.args.policy) (10 ∷ [])) in
    omega (arith, parts)

pub put_policy-end-requires : goal.put_policy-end-requires
unfolding line_text more_fields policy_text word_of
put_policy-end-requires c =
    -- the word, the policy with its tab and the newline have room
    let parts : 6 + (1 + length (policy_name c.args.policy)) + 1 ≤ length c.args.out.now =
    omega (arith, length-append (policy_name c.args.policy) (10 ∷ [])) in
    let put_word = c.put_word-at in
    omega (arith, parts, put_word.auto.out, put_word.ensures.behind)

pub bounds-out-end : goal.bounds-out-end
unfolding line_text more_fields policy_text word_of
bounds-out-end c =
    -- the word, the policy with its tab and the newline have room
    let parts : 6 + (1 + length (policy_name c.args.policy)) + 1 ≤ length c.args.out.now =
    omega (arith, length-append (policy_name c.args.policy) (10 ∷ [])) in
    -- the newline has room
    let last : c.put_policy-end.result < length c.put_policy-end.new.out = let word = c.put_word-at in
    let name = c.put_policy-end in
    omega (
      arith,
      parts,
      word.auto.out,
      word.ensures.behind,
      name.auto.out,
      name.ensures.behind,
    ) in
    last

pub overflow_add-result : goal.overflow_add-result
unfolding line_text more_fields policy_text word_of
overflow_add-result c =
    -- the word, the policy with its tab and the newline have room
    let parts : 6 + (1 + length (policy_name c.args.policy)) + 1 ≤ length c.args.out.now =
    omega (arith, length-append (policy_name c.args.policy) (10 ∷ [])) in
    -- the newline has room
    let last : c.put_policy-end.result < length c.put_policy-end.new.out = let word = c.put_word-at in
    let name = c.put_policy-end in
    omega (
      arith,
      parts,
      word.auto.out,
      word.ensures.behind,
      name.auto.out,
      name.ensures.behind,
    ) in
    omega (arith, last)

pub returns : goal.returns
unfolding policy_text line_text more_fields word_of
returns c =
    let put_word = c.put_word-at in
    laid_then put_word.ensures (laid_then c.put_policy-end.ensures (laid_byte _ 10 _))
