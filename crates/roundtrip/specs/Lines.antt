-- All lines of a text: lines that are written and read are the same lines; lines that are read, none of them badly formed, and
-- written are the same text without its returns. LineTrip for a whole text; RoundTrip adds the case that the lines hold.
use Rattle.std.specs.Prelude.{◌≡◌, refl, false, List, [], ◌∷◌, ◌++◌, map, ℕ, ◌^◌, ◌≤◌, length}
use Rattle.std.proofs.Common.{sym, ap, ap₂, ◌∙◌, append_assoc, arith}
use Rattle.std.proofs.lemmas.List.{map-append}
use Rattle.rules.specs.Words.{tab}
use Rattle.rules.specs.declared.Line.{Line}
use Rattle.rules.specs.declared.Line.TheVariants.{Bad}
use Rattle.rules.specs.Text.{newline_byte, return_byte, up_to, has, line_of, without_returns, after_line, field_of}
use Rattle.rules.specs.Reader.{word_kind, line_says, lines_of, kind_of}
use Rattle.rules.specs.Writer.{joined_text}
use Rattle.lists.specs.Lists.{map-tab, joined-append}
use Rattle.texts.specs.Fields.{up_to_seam, All, without_joined, parted_no_newline}
use Rattle.texts.specs.Returns.{line_plain}
use Rattle.texts.specs.LinesOf.{after_line-cons, by_back, lines_of-nil, lines_of-cons}
use Rattle.roundtrip.specs.LineTrip.{word_in, fields_in, line_body, line_bytes, bytes_body, Said, word_plain, fields_plain, Below}
use Rattle.roundtrip.specs.LineTrip.{body_kind, written_says, says_written, body_no_return, bytes_no_return}

-- ---- the text of lines
unfoldable pub text_of : List Line → List ℕ
text_of ls = joined_text (map line_bytes ls)

pub text_of-append : (ls ms : List Line) → text_of (ls ++ ms) ≡ text_of ls ++ text_of ms
unfolding text_of
text_of-append ls ms = ap joined_text (map-append line_bytes ls ms) ∙ joined-append (map line_bytes ls) (map line_bytes ms)

pub text_of-tab : (f : ℕ → Line) (k n : ℕ) → joined_text (tab (λ i. line_bytes (f i)) k n) ≡ text_of (tab f k n)
unfolding text_of
text_of-tab f k n = ap joined_text (sym (map-tab line_bytes f k n))

-- what a line says, without its newline, has none
pub body_no_newline : (l : Line) → has newline_byte (line_body l) ≡ false
unfolding line_body
body_no_newline l = parted_no_newline (word_in l) (fields_in l) (word_plain l) (fields_plain l)

-- no return stands in the text of lines
each_no_return : (ls : List Line) → All (λ s. has return_byte s ≡ false) (map line_bytes ls)
unfolding All
each_no_return [] = tt
each_no_return (l ∷ ls) = (bytes_no_return l, each_no_return ls)

pub text_no_return : (ls : List Line) → has return_byte (text_of ls) ≡ false
unfolding text_of
text_no_return ls = without_joined return_byte (map line_bytes ls) (each_no_return ls)

pub text_of-cons : (l : Line) (ls : List Line) → text_of (l ∷ ls) ≡ line_body l ++ (newline_byte ∷ text_of ls)
unfolding text_of joined_text
text_of-cons l ls = ap (λ (t : List ℕ). t ++ text_of ls) (bytes_body l) ∙ append_assoc (line_body l) (newline_byte ∷ []) (text_of ls)

pub up_to_text : (l : Line) (ls : List Line) → up_to newline_byte (text_of (l ∷ ls)) ≡ line_body l
up_to_text l ls = ap (up_to newline_byte) (text_of-cons l ls) ∙ up_to_seam newline_byte (line_body l) (text_of ls) (body_no_newline l)

pub line_of_text : (l : Line) (ls : List Line) → line_of (text_of (l ∷ ls)) ≡ line_body l
line_of_text l ls = ap line_of (text_of-cons l ls) ∙ line_plain (line_body l) (text_of ls) (body_no_newline l) (body_no_return l)

pub after_line_text : (l : Line) (ls : List Line) → after_line (text_of (l ∷ ls)) ≡ text_of ls
after_line_text l ls = ap after_line (text_of-cons l ls) ∙ after_line-cons (line_body l) (text_of ls) (body_no_newline l)

-- a line that says something is what is written of that, and its word has that kind
pub says_kind : (s : List ℕ) → has newline_byte s ≡ false → Said (line_says s) → word_kind (field_of s) ≡ kind_of (line_says s)
says_kind s h said =
    let l = line_says s in
    let body : s ≡ line_body l = sym (up_to_seam newline_byte s [] h) ∙ ap (up_to newline_byte) (sym (says_written s said) ∙ bytes_body l)
    ∙ up_to_seam newline_byte (line_body l) [] (body_no_newline l) in
    ap (λ (t : List ℕ). word_kind (field_of t)) body ∙ body_kind l

-- lines that are written and read
pub lines-written : (b : ℕ) (ls : List Line) → b ≤ 10 ^ 9 → All (Below b) ls → lines_of (text_of ls) ≡ ls
unfolding All text_of joined_text
lines-written b [] h a = lines_of-nil
lines-written b (l ∷ ls) h a =
    ap lines_of (text_of-cons l ls) ∙ lines_of-cons (line_body l) (text_of ls) (body_no_newline l) (body_no_return l)
    ∙ ap₂ ◌∷◌ (written_says b l h a.0) (lines-written b ls h a.1)

-- lines that are read and written
pub lines_read : (s : List ℕ) → All Said (lines_of s) → text_of (lines_of s) ≡ without_returns s
unfolding lines_of text_of Said
lines_read s a = by_back line_says Bad line_bytes Said (λ said. said refl) says_written (length s) s (omega arith) a
