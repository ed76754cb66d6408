-- What the report prints of a desk.
-- Assumes nothing.
use Rattle.std.specs.Prelude.{cond, List, ◌≡◌, ℕ, ◌+◌, leb, ltb, ℤ, length}
use Rattle.rules.specs.Words.{unless, settled}
use Rattle.laws.specs.Answers.{Said, gives, refuses}
use Rattle.reader.specs.Answers.{ending_of}
use Rattle.sheet.specs.Overlaid.{overlaid, most_sheet}
use Rattle.rules.specs.Text.{sheet_text, refusal_text}
use Rattle.reading.specs.declared.Reading.{Reading}
use Rattle.figures.specs.Figured.{figures_of}
use Rattle.desk.specs.Feeding.{Laid, desk_ground}

-- the text stands at the front of the lines out, where they have n bytes or more, and r is its length
abbrev pub PrintsIn : ℕ → List ℕ → List ℕ → ℕ → List ℕ → Type 0
PrintsIn n text out r after =
    (r ≡ unless 0 (leb n (length out)) (length text))
    × (after ≡ unless out (leb n (length out)) (overlaid out 0 text))

-- a sheet, or the line of a refusal
abbrev pub Prints : List ℕ → List ℕ → ℕ → List ℕ → Type 0
Prints = PrintsIn most_sheet

-- "K is the number of accepted fields, passed-over ones among them, plus one": as far as 64 bits go
abbrev pub next_field : ℕ → ℕ
next_field fields = cond (ltb fields 18_446_744_073_709_551_615) (fields + 1) fields

-- "A refused field gives only `refused N field K`"
abbrev pub refuse_text : Laid → ℕ → List ℕ
refuse_text x number = refusal_text number (next_field x.desk.fields)

-- the sheet of the reading on the desk
abbrev pub sheet_on : Reading → List ℤ → List ℕ
sheet_on r l = sheet_text (figures_of r l)

-- by whether the input may end here
abbrev pub text_by : Said (Unit {0}) → Laid → List ℕ
text_by (gives _) x = sheet_on x.desk.reading x.memory.ledger
text_by (refuses number) x = refuse_text x number

-- where the input ends, with so many bytes of an unfinished field left over: 1 and 2 before all else, then 15, then the sheet
unfoldable pub close_text : Laid → ℕ → List ℕ
close_text x left = settled (desk_ground x) (text_by (ending_of x.desk.started left) x) (refuse_text x (desk_ground x))
