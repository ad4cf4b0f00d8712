-- `writer::put_head` meets its contract: the line of processors, and behind it the policy line in the part from its end on.
use Prim.Native.Nat.{◌+◌, ◌≤◌}
use mathlib.Core.List.{[], ◌∷◌}
use native.Mathlib.Omega.{arith}
use lib.ListN.{length, length-append}
use Rattle.rules.specs.Writer.{procs_text, policy_text}
use Rattle.puts.specs.Fields.{number_line, word_of}
use Rattle.puts.proofs.Puts.{laid_then, laid_part, part_length}
use Rattle.writer.specs.Rows.{head_text}
use Rattle.writer.proofs.put_head.Goals as goal

pub put_line-second-requires : goal.put_line-second-requires
unfolding head_text procs_text word_of
put_line-second-requires c =
    -- both lines have room
    let parts : length (number_line 9 1 (c.args.procs ∷ [])) + length (policy_text c.args.policy) ≤ length c.args.out.now =
    omega (arith, length-append (procs_text c.args.procs) (policy_text c.args.policy)) in
    omega (arith, parts)

pub slice_bounds-put_policy_line-count : goal.slice_bounds-put_policy_line-count
unfolding head_text procs_text word_of
slice_bounds-put_policy_line-count c =
    -- both lines have room
    let parts : length (number_line 9 1 (c.args.procs ∷ [])) + length (policy_text c.args.policy) ≤ length c.args.out.now =
    omega (arith, length-append (procs_text c.args.procs) (policy_text c.args.policy)) in
    -- the line of processors is laid, and the other has room behind it
    let behind : c.put_line-second.result + length (policy_text c.args.policy) ≤ length c.put_line-second.new.out = omega (
      arith,
      parts,
      c.put_line-second.auto.out,
      c.put_line-second.ensures.behind,
    ) in
    omega (arith, behind)

pub slice_bounds-put_policy_line-start : goal.slice_bounds-put_policy_line-start
unfolding head_text procs_text word_of
slice_bounds-put_policy_line-start c =
    -- both lines have room
    let parts : length (number_line 9 1 (c.args.procs ∷ [])) + length (policy_text c.args.policy) ≤ length c.args.out.now =
    omega (arith, length-append (procs_text c.args.procs) (policy_text c.args.policy)) in
    -- the line of processors is laid, and the other has room behind it
    let behind : c.put_line-second.result + length (policy_text c.args.policy) ≤ length c.put_line-second.new.out = omega (
      arith,
      parts,
      c.put_line-second.auto.out,
      c.put_line-second.ensures.behind,
    ) in
    omega (arith, behind)

pub put_policy_line-n-requires : goal.put_policy_line-n-requires
unfolding head_text procs_text word_of
put_policy_line-n-requires c =
    -- both lines have room
    let parts : length (number_line 9 1 (c.args.procs ∷ [])) + length (policy_text c.args.policy) ≤ length c.args.out.now =
    omega (arith, length-append (procs_text c.args.procs) (policy_text c.args.policy)) in
    -- the line of processors is laid, and the other has room behind it
    let behind : c.put_line-second.result + length (policy_text c.args.policy) ≤ length c.put_line-second.new.out = omega (
      arith,
      parts,
      c.put_line-second.auto.out,
      c.put_line-second.ensures.behind,
    ) in
    let put-line = c.put_line-second in
    omega (arith, behind, part_length put-line.result put-line.new.out)

pub overflow_add-result : goal.overflow_add-result
unfolding head_text procs_text word_of
overflow_add-result c =
    -- both lines have room
    let parts : length (number_line 9 1 (c.args.procs ∷ [])) + length (policy_text c.args.policy) ≤ length c.args.out.now =
    omega (arith, length-append (procs_text c.args.procs) (policy_text c.args.policy)) in
    -- the line of processors is laid, and the other has room behind it
    let behind : c.put_line-second.result + length (policy_text c.args.policy) ≤ length c.put_line-second.new.out = omega (
      arith,
      parts,
      c.put_line-second.auto.out,
      c.put_line-second.ensures.behind,
    ) in
    omega (arith, behind, c.put_policy_line-n.ensures.behind)

pub returns : goal.returns
unfolding head_text procs_text word_of
returns c =
    -- both lines have room
    let parts : length (number_line 9 1 (c.args.procs ∷ [])) + length (policy_text c.args.policy) ≤ length c.args.out.now =
    omega (arith, length-append (procs_text c.args.procs) (policy_text c.args.policy)) in
    -- the line of processors is laid, and the other has room behind it
    let behind : c.put_line-second.result + length (policy_text c.args.policy) ≤ length c.put_line-second.new.out = omega (
      arith,
      parts,
      c.put_line-second.auto.out,
      c.put_line-second.ensures.behind,
    ) in
    laid_then c.put_line-second.ensures
    (laid_part _ _ _ _ _ (omega (arith, behind)) c.put_policy_line-n.ensures)
