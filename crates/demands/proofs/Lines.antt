-- The lines of a sheet above and below `outside`, and above and below `passed`: they do not depend on its number.
-- Assumes nothing.
use mathlib.Core.List.{List, ◌++◌, append_assoc}
use mathlib.Core.Path.{◌≡◌}
use Prim.Native.Nat.{ℕ}
use lib.IntN.{ℤ, pos}
use Rattle.rules.specs.Words.{spell}
use Rattle.rules.specs.declared.Figures.{Figures}
use Rattle.rules.specs.Text.{signed, line, head_lines, count_lines, closing_lines, sheet_text}
use Rattle.figures.specs.Compared.{with_outside}
use Rattle.demands.specs.Compared.{outside_line, passed_line, with_passed}

-- a word and a signed number
abbrev signed_line : List ℕ → ℤ → List ℕ
signed_line word z = line word (signed z)

-- ---- `outside`

-- `passed`, `drawn`, and the closing figures
abbrev pub below_outside : Figures → List ℕ
below_outside f = passed_line f.passed ++ signed_line (spell "drawn") f.drawn ++ closing_lines f.closing

regroup : (a b c d e : List ℕ) → a ++ (b ++ c ++ d) ++ e ≡ a ++ (b ++ (c ++ d ++ e))
regroup a b c d e = simp append_assoc

pub sheet_lines : (f : Figures) (n : ℕ) → sheet_text (with_outside f (pos n)) ≡ head_lines f ++ (outside_line n ++ below_outside f)
unfolding head_lines count_lines signed
sheet_lines f n = regroup (head_lines f) (outside_line n) _ _ (closing_lines f.closing)

-- ---- `passed`

-- `run`, `end`, `cycles` and `outside`; `drawn`, and the closing figures
abbrev pub above_passed : Figures → List ℕ
above_passed f = head_lines f ++ signed_line (spell "outside") f.outside

abbrev pub below_passed : Figures → List ℕ
below_passed f = signed_line (spell "drawn") f.drawn ++ closing_lines f.closing

regroup_third : (a b c d e : List ℕ) → a ++ (b ++ c ++ d) ++ e ≡ (a ++ b) ++ (c ++ (d ++ e))
regroup_third a b c d e = simp append_assoc

pub passed_lines : (f : Figures) (n : ℕ) → sheet_text (with_passed f n) ≡ above_passed f ++ (passed_line n ++ below_passed f)
unfolding head_lines count_lines
passed_lines f n = regroup_third (head_lines f) (signed_line (spell "outside") f.outside) (passed_line n) (signed_line (spell "drawn") f.drawn) (closing_lines f.closing)
