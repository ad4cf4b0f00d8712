-- What the program prints for what is asked of a text, byte for byte (document 01, "The case text"; the words counts, slot and write are
-- the project's own). The contract of `answer` says `text_says`.
use Rattle.std.specs.Prelude.{◌≡◌, refl, ℕ, List, [], eqb}
use Rattle.rules.specs.Words.{pick}
use Rattle.rules.specs.Case.{Case}
use Rattle.rules.specs.Reader.{text_fault, case_in}
use Rattle.rules.specs.Refusals.{or_next}
use Rattle.rules.specs.Writer.{case_text}
use Rattle.rules.specs.Report.{refused_line, report, printed}
use Rattle.rules.specs.declared.Fault.{Fault}
use Rattle.report.specs.Cases.{counts_text, slot_text}
use Rattle.wishes.specs.Asks.{asked_fault}
use Rattle.wishes.specs.declared.Wish.{Wish}
use Rattle.wishes.specs.declared.Wish.TheVariants.{Unknown, Help, Replay, Counts, Slot, Write, Slots, Log}

-- of an accepted case; what `slots` and `log` print is written line by line and said elsewhere
unfoldable pub case_says : Wish → Case → List ℕ
case_says Unknown c = []
case_says Help c = []
case_says Replay c = report c
case_says Counts c = counts_text c.procs c.table
case_says (Slot s) c = slot_text c s
case_says Write c = case_text c
case_says Slots c = []
case_says (Log k) c = []

-- of a text: the refusal's line alone, or what its case says
unfoldable pub text_says : Wish → List ℕ → List ℕ
text_says w s = pick (eqb (text_fault s).number 0) (case_says w (case_in s)) (refused_line (text_fault s).number (text_fault s).place)

-- with no word after its name the program prints what document 01 fixes
pub replay_says : (s : List ℕ) → text_says Replay s ≡ printed s
unfolding text_says case_says printed
replay_says s = refl

-- ---- what is at fault
-- in what is asked of a text: the text's own fault comes first
unfoldable pub wish_fault : Wish → List ℕ → Fault
wish_fault w s = or_next (text_fault s) (asked_fault w (case_in s).end)
