-- Sheets and a refusal written out, as one table with one claim. The first sheet is document 01's example with one sample more, the third that example.
-- Assumes nothing.
use Rattle.std.specs.Prelude.{Bool, true, false, ◌&&◌, List, [], ◌∷◌, ◌++◌, ℕ, eqb, ℤ, pos, neg_ℤ}
use Rattle.rules.specs.declared.End.{End}
use Rattle.rules.specs.declared.End.TheVariants.{None as none, Stop as stop, Limit as limit}
use Rattle.rules.specs.Closing.{Is, Absent, ClosingAnswer, Closed, Refused, together}
use Rattle.rules.specs.Text.{Figures, sheet_text, refusal_text}

pub data Row : Type 0 where
  -- what is printed of a record that was read to its end, line by line
  sheet : Figures → List (List ℕ) → Row
  -- the number of a refusal and that of the field: what is printed
  refusal : ℕ → ℕ → List (List ℕ) → Row

-- LTESTVEH000000001
abbrev number : List ℕ
number = 76 ∷ 84 ∷ 69 ∷ 83 ∷ 84 ∷ 86 ∷ 69 ∷ 72 ∷ 48 ∷ 48 ∷ 48 ∷ 48 ∷ 48 ∷ 48 ∷ 48 ∷ 48 ∷ 49 ∷ []

figures : End → ℕ → ℕ → ℕ → ℕ → ℤ → ClosingAnswer → Figures
figures end counted cycles outside passed drawn closing = record {
  vehicle = number;
  end = end;
  counted = counted;
  cycles = cycles;
  outside = pos outside;
  passed = passed;
  drawn = drawn;
  closing = closing;
}

-- run LTESTVEH000000001
abbrev pub run_line : List ℕ
run_line =
    let number : List ℕ = 76 ∷ 84 ∷ 69 ∷ 83 ∷ 84 ∷ 86 ∷ 69 ∷ 72 ∷ 48 ∷ 48 ∷ 48 ∷ 48 ∷ 48 ∷ 48 ∷ 48 ∷ 48 ∷ 49 ∷ [] in
    (114 ∷ 117 ∷ 110 ∷ 32 ∷ []) ++ (number ++ 10 ∷ [])

unfoldable pub rows : List Row
unfolding figures
rows =
    sheet (figures none 121 3 0 0 (pos 172_800_000) (Closed (together 720_000 16 (Is 937_500)))) (
    run_line
    -- end none 121
    ∷ (101 ∷ 110 ∷ 100 ∷ 32 ∷ 110 ∷ 111 ∷ 110 ∷ 101 ∷ 32 ∷ 49 ∷ 50 ∷ 49 ∷ 10 ∷ [])
    -- cycles 3
    ∷ (99 ∷ 121 ∷ 99 ∷ 108 ∷ 101 ∷ 115 ∷ 32 ∷ 51 ∷ 10 ∷ [])
    -- outside 0
    ∷ (111 ∷ 117 ∷ 116 ∷ 115 ∷ 105 ∷ 100 ∷ 101 ∷ 32 ∷ 48 ∷ 10 ∷ [])
    -- passed 0
    ∷ (112 ∷ 97 ∷ 115 ∷ 115 ∷ 101 ∷ 100 ∷ 32 ∷ 48 ∷ 10 ∷ [])
    -- drawn 172800000
    ∷ (100 ∷ 114 ∷ 97 ∷ 119 ∷ 110 ∷ 32 ∷ 49 ∷ 55 ∷ 50 ∷ 56 ∷ 48 ∷ 48 ∷ 48 ∷ 48 ∷ 48 ∷ 10 ∷ [])
    -- weighted 720000
    ∷ (119 ∷ 101 ∷ 105 ∷ 103 ∷ 104 ∷ 116 ∷ 101 ∷ 100 ∷ 32 ∷ 55 ∷ 50 ∷ 48 ∷ 48 ∷ 48 ∷ 48 ∷ 10 ∷ [])
    -- range 16
    ∷ (114 ∷ 97 ∷ 110 ∷ 103 ∷ 101 ∷ 32 ∷ 49 ∷ 54 ∷ 10 ∷ [])
    -- ac 937500
    ∷ (97 ∷ 99 ∷ 32 ∷ 57 ∷ 51 ∷ 55 ∷ 53 ∷ 48 ∷ 48 ∷ 10 ∷ [])
    ∷ [])
    ∷ sheet (figures stop 79 1 40 2 (neg_ℤ (pos 720_000)) (Closed (together 1 2_000_000 Absent))) (
    run_line
    -- end stop 79
    ∷ (101 ∷ 110 ∷ 100 ∷ 32 ∷ 115 ∷ 116 ∷ 111 ∷ 112 ∷ 32 ∷ 55 ∷ 57 ∷ 10 ∷ [])
    -- cycles 1
    ∷ (99 ∷ 121 ∷ 99 ∷ 108 ∷ 101 ∷ 115 ∷ 32 ∷ 49 ∷ 10 ∷ [])
    -- outside 40
    ∷ (111 ∷ 117 ∷ 116 ∷ 115 ∷ 105 ∷ 100 ∷ 101 ∷ 32 ∷ 52 ∷ 48 ∷ 10 ∷ [])
    -- passed 2
    ∷ (112 ∷ 97 ∷ 115 ∷ 115 ∷ 101 ∷ 100 ∷ 32 ∷ 50 ∷ 10 ∷ [])
    -- drawn -720000
    ∷ (100 ∷ 114 ∷ 97 ∷ 119 ∷ 110 ∷ 32 ∷ 45 ∷ 55 ∷ 50 ∷ 48 ∷ 48 ∷ 48 ∷ 48 ∷ 10 ∷ [])
    -- weighted 1
    ∷ (119 ∷ 101 ∷ 105 ∷ 103 ∷ 104 ∷ 116 ∷ 101 ∷ 100 ∷ 32 ∷ 49 ∷ 10 ∷ [])
    -- range 2000000
    ∷ (114 ∷ 97 ∷ 110 ∷ 103 ∷ 101 ∷ 32 ∷ 50 ∷ 48 ∷ 48 ∷ 48 ∷ 48 ∷ 48 ∷ 48 ∷ 10 ∷ [])
    -- ac -
    ∷ (97 ∷ 99 ∷ 32 ∷ 45 ∷ 10 ∷ [])
    ∷ [])
    ∷ sheet (figures none 120 2 0 0 (pos 171_360_000) (Refused 10)) (
    run_line
    -- end none 120
    ∷ (101 ∷ 110 ∷ 100 ∷ 32 ∷ 110 ∷ 111 ∷ 110 ∷ 101 ∷ 32 ∷ 49 ∷ 50 ∷ 48 ∷ 10 ∷ [])
    -- cycles 2
    ∷ (99 ∷ 121 ∷ 99 ∷ 108 ∷ 101 ∷ 115 ∷ 32 ∷ 50 ∷ 10 ∷ [])
    -- outside 0
    ∷ (111 ∷ 117 ∷ 116 ∷ 115 ∷ 105 ∷ 100 ∷ 101 ∷ 32 ∷ 48 ∷ 10 ∷ [])
    -- passed 0
    ∷ (112 ∷ 97 ∷ 115 ∷ 115 ∷ 101 ∷ 100 ∷ 32 ∷ 48 ∷ 10 ∷ [])
    -- drawn 171360000
    ∷ (100 ∷ 114 ∷ 97 ∷ 119 ∷ 110 ∷ 32 ∷ 49 ∷ 55 ∷ 49 ∷ 51 ∷ 54 ∷ 48 ∷ 48 ∷ 48 ∷ 48 ∷ 10 ∷ [])
    -- refused 10
    ∷ (114 ∷ 101 ∷ 102 ∷ 117 ∷ 115 ∷ 101 ∷ 100 ∷ 32 ∷ 49 ∷ 48 ∷ 10 ∷ [])
    ∷ [])
    ∷ sheet (figures limit 2_560 64 9 10 (pos 99) (Closed (together 5 6 (Refused 14)))) (
    run_line
    -- end limit 2560
    ∷ (101 ∷ 110 ∷ 100 ∷ 32 ∷ 108 ∷ 105 ∷ 109 ∷ 105 ∷ 116 ∷ 32 ∷ 50 ∷ 53 ∷ 54 ∷ 48 ∷ 10 ∷ [])
    -- cycles 64
    ∷ (99 ∷ 121 ∷ 99 ∷ 108 ∷ 101 ∷ 115 ∷ 32 ∷ 54 ∷ 52 ∷ 10 ∷ [])
    -- outside 9
    ∷ (111 ∷ 117 ∷ 116 ∷ 115 ∷ 105 ∷ 100 ∷ 101 ∷ 32 ∷ 57 ∷ 10 ∷ [])
    -- passed 10
    ∷ (112 ∷ 97 ∷ 115 ∷ 115 ∷ 101 ∷ 100 ∷ 32 ∷ 49 ∷ 48 ∷ 10 ∷ [])
    -- drawn 99
    ∷ (100 ∷ 114 ∷ 97 ∷ 119 ∷ 110 ∷ 32 ∷ 57 ∷ 57 ∷ 10 ∷ [])
    -- weighted 5
    ∷ (119 ∷ 101 ∷ 105 ∷ 103 ∷ 104 ∷ 116 ∷ 101 ∷ 100 ∷ 32 ∷ 53 ∷ 10 ∷ [])
    -- range 6
    ∷ (114 ∷ 97 ∷ 110 ∷ 103 ∷ 101 ∷ 32 ∷ 54 ∷ 10 ∷ [])
    -- refused 14
    ∷ (114 ∷ 101 ∷ 102 ∷ 117 ∷ 115 ∷ 101 ∷ 100 ∷ 32 ∷ 49 ∷ 52 ∷ 10 ∷ [])
    ∷ [])
    ∷ refusal 15 1 (
    -- refused 15 field 1
    (114 ∷ 101 ∷ 102 ∷ 117 ∷ 115 ∷ 101 ∷ 100 ∷ 32 ∷ 49 ∷ 53 ∷ 32 ∷ 102 ∷ 105 ∷ 101 ∷ 108 ∷ 100 ∷ 32 ∷ 49 ∷ 10 ∷ [])
    ∷ [])
    ∷ []

-- lines one after the other, and whether two texts are the same
joined : List (List ℕ) → List ℕ
joined [] = []
joined (l ∷ ls) = l ++ joined ls

same : List ℕ → List ℕ → Bool
same [] [] = true
same [] (y ∷ ys) = false
same (x ∷ xs) [] = false
same (x ∷ xs) (y ∷ ys) = eqb x y && same xs ys

unfoldable pub holds : Row → Bool
unfolding joined same
holds (sheet f lines) = same (sheet_text f) (joined lines)
holds (refusal n k lines) = same (refusal_text n k) (joined lines)
