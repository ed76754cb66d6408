-- 'The report program': what is printed, in bytes.
-- Assumes nothing.
use Rattle.std.specs.Prelude.{Some, None, Ok, Err, cond, List, [], ◌∷◌, ◌++◌, ℕ, zero, suc, ◌+◌, ◌/◌, ◌%◌, ltb, ℤ, pos, negsuc}
use Rattle.rules.specs.Words.{spell}
use Rattle.rules.specs.declared.End.{End}
use Rattle.rules.specs.declared.End.TheVariants.{None as none, Stop as stop, Limit as limit}
use Rattle.rules.specs.declared.Closing.{Closing}
use Rattle.rules.specs.Closing.{Figure, ClosingAnswer, Closed, Refused}
use Rattle.rules.specs.Record.{Sheet, told, refused_at}
use Rattle.rules.specs.Figures.{figures_told}
pub use Rattle.rules.specs.declared.Figures.{Figures}

-- ---- numbers

-- at most k decimal digits of n, the highest first, in bytes: 48 is 0
unfoldable pub digits_by : ℕ → ℕ → List ℕ
digits_by zero n = []
digits_by (suc k) n = let more = digits_by k (n / 10) ++ ((48 + n % 10) ∷ []) in cond (ltb n 10) ((48 + n) ∷ []) more

-- all of them
unfoldable pub digits : ℕ → List ℕ
digits n = digits_by (suc n) n

-- 45 is the minus sign
unfoldable pub signed : ℤ → List ℕ
signed (pos n) = digits n
signed (negsuc n) = 45 ∷ digits (suc n)

-- ---- lines

-- a text and a space; a text and a newline
abbrev pub spaced : List ℕ → List ℕ
spaced text = text ++ 32 ∷ []

abbrev pub ended : List ℕ → List ℕ
ended text = text ++ 10 ∷ []

-- a word, a space, a value, a newline
unfoldable pub line : List ℕ → List ℕ → List ℕ
line word value = spaced word ++ ended value

abbrev pub end_word : End → List ℕ
end_word none = spell "none"
end_word stop = spell "stop"
end_word limit = spell "limit"

-- "`end` none, stop or limit with the number of counted samples"
unfoldable pub end_line : End → ℕ → List ℕ
end_line e counted = spaced (spell "end") ++ line (end_word e) (digits counted)

abbrev pub refused_word : List ℕ
refused_word = spell "refused"

-- `refused N`, which "ends the list"
abbrev pub refused_line : ℕ → List ℕ
refused_line n = line refused_word (digits n)

-- ---- the sheet

-- "`run` vehicle number; `end` ..; `cycles` n"
unfoldable pub head_lines : Figures → List ℕ
head_lines f =
    line (spell "run") f.vehicle
    ++ end_line f.end f.counted
    ++ line (spell "cycles") (digits f.cycles)

-- "`outside` total over all cycles, open one included; `passed` blocks passed over; `drawn` energy of" the closed intervals
unfoldable pub count_lines : Figures → List ℕ
count_lines f =
    line (spell "outside") (signed f.outside)
    ++ line (spell "passed") (digits f.passed)
    ++ line (spell "drawn") (signed f.drawn)

-- "`ac` figure or `-`"; "a recharge refusal in place of `ac`"
unfoldable pub recharge_line : Figure → List ℕ
recharge_line (Ok (Some n)) = line (spell "ac") (digits n)
recharge_line (Ok None) = line (spell "ac") (spell "-")
recharge_line (Err n) = refused_line n

-- "`weighted`; `range`; `ac`"
unfoldable pub closed_lines : Closing → List ℕ
closed_lines x =
    line (spell "weighted") (digits x.weighted)
    ++ line (spell "range") (digits x.range)
    ++ recharge_line x.recharge

-- "A closing refusal gives `refused N` in place of `weighted`"
abbrev pub closing_lines : ClosingAnswer → List ℕ
closing_lines (Closed x) = closed_lines x
closing_lines (Refused n) = refused_line n

-- all of it, "Lines: `run` .. `ac`"
abbrev pub sheet_text : Figures → List ℕ
sheet_text f = head_lines f ++ count_lines f ++ closing_lines f.closing

-- "A refused field gives only `refused N field K`"
unfoldable pub refusal_text : ℕ → ℕ → List ℕ
refusal_text number field = spaced refused_word ++ spaced (digits number) ++ line (spell "field") (digits field)

-- what is printed of a record
abbrev pub printed : Sheet → List ℕ
printed (told x) = sheet_text (figures_told x)
printed (refused_at number field) = refusal_text number field
