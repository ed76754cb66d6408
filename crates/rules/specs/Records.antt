-- Short records and what becomes of each, as one table with one claim.
-- Assumes nothing.
use Rattle.std.specs.Prelude.{Bool, true, false, ◌&&◌, List, [], ◌∷◌, ◌++◌, ℕ, ◌/◌, ◌%◌, eqb, length, take, replicate}
use Rattle.rules.specs.Closing.{Charge, absent, wh}
use Rattle.rules.specs.declared.Amounts.{Amounts}
use Rattle.rules.specs.Words.{up}
use Rattle.rules.specs.Bench.{Method, by_cycles, with_stretches}
use Rattle.rules.specs.Table.{run1, behind_tolerances}
use Rattle.rules.specs.Values.{block_or}
use Rattle.rules.specs.Record.{Told, Sheet, told, refused_at, untold, sheet_from, sheet_of}

-- ---- bytes

-- a field of the tag, with the value
abbrev pub put : ℕ → List ℕ → List ℕ
put tag v = (tag ∷ length v / 256 ∷ length v % 256 ∷ []) ++ v

-- LTESTVEH000000001, another, and one with an I
abbrev pub me : List ℕ
me = 76 ∷ 84 ∷ 69 ∷ 83 ∷ 84 ∷ 86 ∷ 69 ∷ 72 ∷ 48 ∷ 48 ∷ 48 ∷ 48 ∷ 48 ∷ 48 ∷ 48 ∷ 48 ∷ 49 ∷ []

abbrev pub other : List ℕ
other = replicate 17 65

abbrev pub forbidden : List ℕ
forbidden = take 16 me ++ (73 ∷ [])

-- "T = 2, one phase, points 100 100 100, tolerances 30 20 300"
abbrev pub course : List ℕ
course = 1 ∷ 0 ∷ 2 ∷ 0 ∷ 100 ∷ 0 ∷ 100 ∷ 0 ∷ 100 ∷ []

abbrev pub mark : List ℕ
mark = put 1 run1

abbrev pub three : List ℕ
three = mark ++ (put 2 me ++ put 3 course)

abbrev pub four : List ℕ
four = three ++ put 4 (0 ∷ 30 ∷ 0 ∷ 20 ∷ 1 ∷ 44 ∷ [])

-- "equal samples (100, 6000, -120)", and one with the speed 1501
abbrev pub sample : List ℕ
sample = 0 ∷ 100 ∷ 23 ∷ 112 ∷ 255 ∷ 136 ∷ []

abbrev pub fast : List ℕ
fast = 5 ∷ 221 ∷ 23 ∷ 112 ∷ 255 ∷ 136 ∷ []

-- a block with its first number, below 256
abbrev pub block : List ℕ → ℕ → List ℕ → List ℕ
block vehicle first q = put 5 (vehicle ++ ((0 ∷ 0 ∷ 0 ∷ first ∷ []) ++ q))

-- a field 6 of the kind, with an energy below 256, with 10^13, and with 10^13 + 1
abbrev pub energy : ℕ → ℕ → List ℕ
energy kind e = put 6 (kind ∷ 0 ∷ 0 ∷ 0 ∷ 0 ∷ 0 ∷ 0 ∷ 0 ∷ e ∷ [])

abbrev pub full : ℕ → List ℕ
full kind = put 6 (kind ∷ 0 ∷ 0 ∷ 9 ∷ 24 ∷ 78 ∷ 114 ∷ 160 ∷ 0 ∷ [])

abbrev pub far : ℕ → List ℕ
far kind = put 6 (kind ∷ 0 ∷ 0 ∷ 9 ∷ 24 ∷ 78 ∷ 114 ∷ 160 ∷ 1 ∷ [])

-- a field 8: M's length in four bytes, E's set speed in two
abbrev pub stretched : List ℕ → List ℕ → List ℕ
stretched m u = put 8 (m ++ u)

-- M of 3 samples and a set speed of 100; M of 4,000,000 and one more; set speeds of 1500 and 1501
abbrev pub brief : List ℕ
brief = stretched (0 ∷ 0 ∷ 0 ∷ 3 ∷ []) (0 ∷ 100 ∷ [])

abbrev pub none : List ℕ
none = 0 ∷ 0 ∷ 0 ∷ 0 ∷ []

abbrev pub longest : List ℕ
longest = 0 ∷ 61 ∷ 9 ∷ 0 ∷ []

abbrev pub too_long : List ℕ
too_long = 0 ∷ 61 ∷ 9 ∷ 1 ∷ []

abbrev pub charge : ℕ → List ℕ
charge w = put 7 (0 ∷ 0 ∷ 0 ∷ w ∷ [])

-- ---- what becomes of them

abbrev pub charge_of : Charge → ℕ
charge_of absent = 0
charge_of (wh w) = w

-- transfer energies before and after, recharge
abbrev pub amounts_of : Amounts → List ℕ
amounts_of a = up a.before ∷ up a.after ∷ charge_of a.charge ∷ []

-- M's length and E's set speed; 0 by the regular method
abbrev pub stretches_of : Method → List ℕ
stretches_of by_cycles = 0 ∷ 0 ∷ []
stretches_of (with_stretches x) = x.length ∷ x.speed ∷ []

-- told: place, passed over, samples, cycle's bytes, amounts, stretches; refused: number, field
abbrev pub shown : Sheet → List ℕ
shown (told s) =
    s.place ∷ s.passed ∷ length s.holding.samples ∷ length s.holding.cycle
    ∷ (amounts_of s.holding.amounts ++ stretches_of s.holding.method)
shown (refused_at number field) = number ∷ field ∷ []

abbrev pub same : List ℕ → List ℕ → Bool
same [] [] = true
same [] (b ∷ q) = false
same (a ∷ p) [] = false
same (a ∷ p) (b ∷ q) = eqb a b && same p q

pub record Line : Type 0 where
  pub bytes : List ℕ
  pub gives : List ℕ

abbrev pub line : List ℕ → List ℕ → Line
line bytes gives = record { bytes = bytes; gives = gives }

unfoldable pub holds : Line → Bool
holds r = same (shown (sheet_of r.bytes)) r.gives

-- ---- the rows

unfoldable pub records : List Line
records =
    -- 15: no bytes, inside a field, before field 4 was accepted, one byte of a known tag behind whole fields
    line [] (15 ∷ 1 ∷ [])
    ∷ line (1 ∷ 0 ∷ []) (15 ∷ 1 ∷ [])
    ∷ line mark (15 ∷ 2 ∷ [])
    ∷ line three (15 ∷ 4 ∷ [])
    ∷ line (four ++ (5 ∷ [])) (15 ∷ 5 ∷ [])
    ∷ line (four ++ (8 ∷ 0 ∷ [])) (15 ∷ 5 ∷ [])
    ∷ line (four ++ take 8 brief) (15 ∷ 5 ∷ [])
    ∷ line (four ++ take 6 (charge 15)) (15 ∷ 5 ∷ [])
    -- 8: unknown tag from its first byte, length from the third, wrong mark, no sample, a sample and one byte, kind above 1
    ∷ line (0 ∷ []) (8 ∷ 1 ∷ [])
    ∷ line (four ++ (9 ∷ [])) (8 ∷ 5 ∷ [])
    ∷ line (four ++ (8 ∷ 0 ∷ 5 ∷ [])) (8 ∷ 5 ∷ [])
    ∷ line (four ++ (8 ∷ 0 ∷ 7 ∷ [])) (8 ∷ 5 ∷ [])
    ∷ line (1 ∷ 0 ∷ 5 ∷ []) (8 ∷ 1 ∷ [])
    ∷ line (put 1 (82 ∷ 85 ∷ 78 ∷ 50 ∷ [])) (8 ∷ 1 ∷ [])
    ∷ line (four ++ block me 0 []) (8 ∷ 5 ∷ [])
    ∷ line (four ++ block me 0 (sample ++ (0 ∷ []))) (8 ∷ 5 ∷ [])
    ∷ line (four ++ energy 2 1) (8 ∷ 5 ∷ [])
    ∷ line (four ++ put 1 (82 ∷ 85 ∷ 78 ∷ 50 ∷ [])) (8 ∷ 5 ∷ [])
    -- 9: before its content
    ∷ line (put 2 forbidden) (9 ∷ 1 ∷ [])
    ∷ line (mark ++ mark) (9 ∷ 2 ∷ [])
    ∷ line (three ++ block other 0 sample) (9 ∷ 4 ∷ [])
    ∷ line (four ++ mark) (9 ∷ 5 ∷ [])
    ∷ line (four ++ (block me 0 sample ++ far 0)) (9 ∷ 6 ∷ [])
    ∷ line (four ++ (energy 0 1 ++ energy 0 1)) (9 ∷ 6 ∷ [])
    ∷ line (four ++ (energy 1 1 ++ block other 0 sample)) (9 ∷ 6 ∷ [])
    ∷ line (four ++ (energy 1 1 ++ energy 1 1)) (9 ∷ 6 ∷ [])
    ∷ line (four ++ (charge 15 ++ charge 0)) (9 ∷ 6 ∷ [])
    -- 9 of a field 8, whatever it holds: before the start, behind another, behind a 6 before, an own block, a 7
    ∷ line (three ++ stretched none (0 ∷ 100 ∷ [])) (9 ∷ 4 ∷ [])
    ∷ line (four ++ (brief ++ stretched none (0 ∷ 100 ∷ []))) (9 ∷ 6 ∷ [])
    ∷ line (four ++ (energy 0 1 ++ brief)) (9 ∷ 6 ∷ [])
    ∷ line (four ++ (block me 0 sample ++ brief)) (9 ∷ 6 ∷ [])
    ∷ line (four ++ (charge 15 ++ brief)) (9 ∷ 6 ∷ [])
    -- 19: M's length, E's set speed
    ∷ line (four ++ stretched none (0 ∷ 100 ∷ [])) (19 ∷ 5 ∷ [])
    ∷ line (four ++ stretched too_long (0 ∷ 100 ∷ [])) (19 ∷ 5 ∷ [])
    ∷ line (four ++ stretched longest (0 ∷ 0 ∷ [])) (19 ∷ 5 ∷ [])
    ∷ line (four ++ stretched longest (5 ∷ 221 ∷ [])) (19 ∷ 5 ∷ [])
    -- 4, 2, 3 until the start; 4, 6, 5 of a block, 14 of amounts; pass over before 6 and 5
    ∷ line (mark ++ put 2 forbidden) (4 ∷ 2 ∷ [])
    ∷ line (mark ++ (put 2 me ++ put 3 (5 ∷ take 8 course))) (2 ∷ 3 ∷ [])
    ∷ line (three ++ put 4 (0 ∷ 101 ∷ 0 ∷ 20 ∷ 1 ∷ 44 ∷ [])) (3 ∷ 4 ∷ [])
    ∷ line (four ++ block forbidden 1 fast) (4 ∷ 5 ∷ [])
    ∷ line (four ++ block me 1 fast) (6 ∷ 5 ∷ [])
    ∷ line (four ++ block me 0 fast) (5 ∷ 5 ∷ [])
    ∷ line (four ++ far 0) (14 ∷ 5 ∷ [])
    ∷ line (four ++ far 1) (14 ∷ 5 ∷ [])
    ∷ line (four ++ charge 0) (14 ∷ 5 ∷ [])
    ∷ line (four ++ block other 1 fast) (4 ∷ 1 ∷ 0 ∷ 9 ∷ 0 ∷ 0 ∷ 0 ∷ 0 ∷ 0 ∷ [])
    -- told: nothing but the start; document 01's example, shortened; blocks cut otherwise; all fields, with foreign blocks between
    ∷ line four (4 ∷ 0 ∷ 0 ∷ 9 ∷ 0 ∷ 0 ∷ 0 ∷ 0 ∷ 0 ∷ [])
    ∷ line (four ++ (block me 0 (sample ++ sample) ++ charge 15)) (9 ∷ 0 ∷ 2 ∷ 9 ∷ 0 ∷ 0 ∷ 15 ∷ 0 ∷ 0 ∷ [])
    ∷ line (four ++ (block me 0 sample ++ (block me 1 sample ++ charge 15))) (9 ∷ 0 ∷ 2 ∷ 9 ∷ 0 ∷ 0 ∷ 15 ∷ 0 ∷ 0 ∷ [])
    ∷ line
    (four ++ (block other 0 sample ++ (energy 0 1 ++ (block other 0 sample ++ (block me 0 sample ++ (block other 0 sample ++ (energy 1 3 ++ charge 200)))))))
    (9 ∷ 3 ∷ 1 ∷ 9 ∷ 2 ∷ 6 ∷ 200 ∷ 0 ∷ 0 ∷ [])
    -- told: transfer energies are doubled, also at their limit
    ∷ line (four ++ (full 0 ++ full 1)) (8 ∷ 0 ∷ 0 ∷ 9 ∷ 20_000_000_000_000 ∷ 20_000_000_000_000 ∷ 0 ∷ 0 ∷ 0 ∷ [])
    -- told: stretches, with a foreign block before them; at their limits; a 6 before and a block may follow
    ∷ line (four ++ (block other 0 sample ++ brief)) (5 ∷ 1 ∷ 0 ∷ 9 ∷ 0 ∷ 0 ∷ 0 ∷ 3 ∷ 100 ∷ [])
    ∷ line (four ++ stretched longest (5 ∷ 220 ∷ [])) (5 ∷ 0 ∷ 0 ∷ 9 ∷ 0 ∷ 0 ∷ 0 ∷ 4_000_000 ∷ 1500 ∷ [])
    ∷ line (four ++ (stretched (0 ∷ 0 ∷ 0 ∷ 1 ∷ []) (0 ∷ 1 ∷ []) ++ (energy 0 1 ++ (block me 0 sample ++ charge 15))))
    (9 ∷ 0 ∷ 1 ∷ 9 ∷ 2 ∷ 0 ∷ 15 ∷ 1 ∷ 1 ∷ [])
    ∷ []

-- 7: 4,000,000 blocks are passed over
abbrev pub crammed : Told
crammed = record { place = behind_tolerances; passed = 4_000_000; holding = untold.holding }

-- "6, 7, 5", behind 4,000,000 samples: another first number, and the right one
abbrev pub crowded : List ℕ
crowded = block_or (λ n. n) 4_000_000 0 fast 0 ∷ block_or (λ n. n) 4_000_000 4_000_000 fast 0 ∷ []

unfoldable pub full_holds : Bool
full_holds = same (shown (sheet_from 4 crammed (block other 1 fast))) (7 ∷ 5 ∷ []) && same crowded (6 ∷ 7 ∷ [])
