-- What C is answered of a sheet: its bytes, and the bytes out that are lent for it.
-- Assumes nothing.
use Rattle.std.specs.Prelude.{List, ℕ, leb, ℤ, pos, length}
use Rattle.rules.specs.Words.{unless}
use Rattle.rules.specs.Question.{minus}
use Rattle.sheet.specs.Overlaid.{overlaid}

-- how many bytes the sheet has, or minus 16 where it does not fit
abbrev pub sheet_answer : List ℕ → List ℕ → ℤ
sheet_answer sheet out = unless (minus 16) (leb (length sheet) (length out)) (pos (length sheet))

-- the sheet at the front of out, and nothing behind it touched; out as it was where it does not fit
abbrev pub sheet_left : List ℕ → List ℕ → List ℕ
sheet_left sheet out = unless out (leb (length sheet) (length out)) (overlaid out 0 sheet)
