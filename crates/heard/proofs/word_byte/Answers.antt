-- `heard::word_byte` meets its contract.
use mathlib.Core.Path.{sym, ◌∙◌}
use Prim.Native.Nat.{◌<◌}
use native.Mathlib.Omega.{arith}
use Rattle.heard.proofs.Scanning.{word_tab_here, word_too_long, word_on, word_other, in_word_lem, word_next}
use Rattle.heard.proofs.word_byte.Goals as goal

pub returns-then-b-eq9 : goal.returns-then-b-eq9
returns-then-b-eq9 c =
    let s = c.args.s in
    λ xs. in_word_lem s.phase s.digits s.value s.time s.low s.rises s.names _ c.args.b _ c.requires
    (word_tab_here s.digits c.args.b c.if-read-ge4.true c.if-b-eq9.true)

pub returns-then-read-ge4 : goal.returns-then-read-ge4
returns-then-read-ge4 c =
    let s = c.args.s in
    λ xs. c.lost.ensures xs ∙ in_word_lem s.phase s.digits s.value s.time s.low s.rises s.names _ c.args.b _ c.requires
    (word_too_long s.digits c.args.b c.if-read-ge4.true c.if-b-eq9.false)

pub returns-then-b-letter : goal.returns-then-b-letter
returns-then-b-letter c =
    let s = c.args.s in
    let short : s.digits < 4 = omega (arith, c.if-read-ge4.false) in
    λ xs. word_next s.phase _ s.value s.time s.low s.rises s.names _ c.requires ∙
    in_word_lem s.phase s.digits s.value s.time s.low s.rises s.names _ c.args.b _ c.requires
    (word_on s.digits c.args.b short (c.if-b-letter.true ∙ c.letter.ensures))

pub returns : goal.returns
returns c =
    let s = c.args.s in
    let short : s.digits < 4 = omega (arith, c.if-read-ge4.false) in
    λ xs. c.lost-2.ensures xs ∙ in_word_lem s.phase s.digits s.value s.time s.low s.rises s.names _ c.args.b _ c.requires
    (word_other s.digits c.args.b short (λ e. c.if-b-letter.false (e ∙ sym c.letter.ensures)))
