-- Fronts of lists: what came from an input, what was laid at the start of a room; and what is said of a front of the input.
use Rattle.std.proofs.Common.{◌≡◌, ◌≤◌, ◌+◌, ℕ, List, ◌++◌, None, Some, IfSome, OnOk, Result, Ok, Err, length, take, drop, refl, sym, ap}
use Rattle.std.proofs.Common.{◌∙◌, subst, arith, take-take, take_at}
use Rattle.std.specs.Prelude.{true}
use Rattle.std.specs.Result.{MatchResult, is_ok}
use Rattle.std.proofs.lemmas.List.{length-take-le}
use Rattle.std.proofs.lemmas.Slice.{take-put_mid}
use lib.Seq.{take-append-add}
use borrow.Rule.Slice.PartMut.{put_mid}
use Rattle.std.specs.declared.option.Option.{Option}
use Rattle.std.specs.Io.KnownBytes.{Appends}
use Rattle.puts.specs.Laid.{Laid}
use Rattle.puts.proofs.Puts.{laid_length, laid_front}
use Rattle.answers.specs.Prints.{text_says, wish_fault}
use Rattle.wishes.specs.declared.Wish.{Wish}
use Rattle.program.specs.declared.Outcome.{Outcome}
use Rattle.program.specs.Ends.{answered}

-- a read of k bytes behind the first n
pub read_front : (n m k : ℕ) (old buf : List ℕ) → n ≤ length old → k ≤ length buf → take (n + k) (put_mid n m old buf)
    ≡ take n old ++ take k buf
read_front n m k old buf h few =
    sym (take-take (n + k) (n + length buf) (put_mid n m old buf) (omega arith))
    ∙ ap (take (n + k)) (take-put_mid n m old buf (n + length buf) refl h)
    ∙ (rw (length-take-le n old h) at (take-append-add (take n old) buf k))

pub laid_text : (text old new : List ℕ) (n : ℕ) → Laid 0 text old new n → n ≤ length new → take n new ≡ text
laid_text text old new n laid h =
    let long : length text ≡ n = omega (arith, laid.behind) in
    let fits : length text ≤ length old = omega (arith, laid.behind, laid_length laid) in
    ap (take n) (laid_front laid fits) ∙ take_at text (drop (length text) old) n long

-- what holds holds where a call succeeds
pub on_ok : {A E : Type 0} (r : Result A E) (P : Type 0) → P → OnOk r P
on_ok (Ok x) P p = p
on_ok (Err e) P p = tt

-- a call succeeded with x if it did with its error told in other words
pub ok_before : {A E : Type 0} (F : Type 0) (Q : E → Type 0) (r : Result A E) (x : A) → true ≡ is_ok r
    → MatchResult r (λ y. ◌≡◌ {A = Result A F} (Ok x) (Ok y)) Q → r ≡ Ok x
ok_before F Q (Ok y) x e p = cc
ok_before F Q (Err d) x e p = absurd cc

-- what is said of the text that came is said of the front of the input
pub said_of_front : (a : Option (List ℕ)) (text : List ℕ) (m n : ℕ) (w : Wish) (r : Outcome) (old new : Option (List ℕ))
    → IfSome a (λ xs. text ≡ take m xs) → m ≡ n
    → r ≡ answered (wish_fault w text).number → Appends old new (text_says w text)
    → IfSome a (λ xs. (r ≡ answered (wish_fault w (take n xs)).number) × Appends old new (text_says w (take n xs)))
said_of_front None text m n w r old new came long p q = tt
said_of_front (Some xs) text m n w r old new came long p q =
    subst (λ (s : List ℕ). (r ≡ answered (wish_fault w s).number) × Appends old new (text_says w s))
    (came ∙ ap (λ (k : ℕ). take k xs) long) (p, q)
