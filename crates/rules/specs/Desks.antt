-- Field lists and traces of short records written out, as one table with one claim.
-- Assumes nothing.
use Rattle.std.specs.Prelude.{Bool, ◌&&◌, List, [], ◌∷◌, ◌++◌, ℕ, ◌/◌, ◌%◌, eqb, length, get_or}
use Prim.Native.String.{String}
use Rattle.rules.specs.Words.{table, same_bytes, spell}
use Rattle.rules.specs.Text.{ended}
use Rattle.rules.specs.Listing.{fields_text}
use Rattle.rules.specs.Trace.{traced, weight_of}

pub data Row : Type 0 where
  -- the bytes of a record, and the lines that are printed of it
  list : List ℕ → List String → Row
  trace : List ℕ → List String → Row
  -- E, the energies of the finished cycles, and the weight of each
  weights : ℕ → List ℕ → List ℕ → Row

-- ---- fields

abbrev field : ℕ → List ℕ → List ℕ
field tag v = tag ∷ (length v / 256) ∷ (length v % 256) ∷ v

-- a vehicle, a cycle of 2 seconds at 10.0 km/h with one phase, tolerances with this allowance
head : ℕ → List ℕ
head allowance =
    field 1 (spell "RUN1")
    ++ field 2 (spell "LTESTVEH000000001")
    ++ field 3 (1 ∷ 0 ∷ 2 ∷ 0 ∷ 100 ∷ 0 ∷ 100 ∷ 0 ∷ 100 ∷ [])
    ++ field 4 (0 ∷ 30 ∷ 0 ∷ 3 ∷ 0 ∷ allowance ∷ [])

-- a sample of this speed, 600.0 V, -12.0 A: 6000 and -120, whose product drawn is 720,000
sample : ℕ → List ℕ
sample speed = 0 ∷ speed ∷ 23 ∷ 112 ∷ 255 ∷ 136 ∷ []

block : String → ℕ → List ℕ → List ℕ
block number first samples = field 5 (spell number ++ 0 ∷ 0 ∷ 0 ∷ first ∷ samples)

own : ℕ → List ℕ → List ℕ
own first samples = block "LTESTVEH000000001" first samples

-- 7 before the test, -3 after it; a recharge of 15 Wh
before : List ℕ
before = field 6 (0 ∷ 0 ∷ 0 ∷ 0 ∷ 0 ∷ 0 ∷ 0 ∷ 0 ∷ 7 ∷ [])

after : List ℕ
after = field 6 (1 ∷ 255 ∷ 255 ∷ 255 ∷ 255 ∷ 255 ∷ 255 ∷ 255 ∷ 253 ∷ [])

recharge : List ℕ
recharge = field 7 (0 ∷ 0 ∷ 0 ∷ 15 ∷ [])

-- three samples, of which the third is outside, with a block of another vehicle between them
mixed : List ℕ
mixed =
    head 1 ++ before ++ own 0 (sample 100 ++ sample 100) ++ block "LTESTVEH000000002" 9 (sample 0) ++ own 2 (sample 131) ++ after ++ recharge

-- ---- the table

unfoldable pub rows : List Row
unfolding head sample block own before after recharge mixed
rows =
    list mixed
    ("1 0 mark"
    ∷ "2 7 vehicle LTESTVEH000000001"
    ∷ "3 27 cycle 2 phases 2"
    ∷ "4 39 tolerances 30 3 1"
    ∷ "5 48 before 7"
    ∷ "6 60 own 0 2"
    ∷ "7 96 other LTESTVEH000000002"
    ∷ "8 126 own 2 1"
    ∷ "9 156 after -3"
    ∷ "10 168 recharge 15"
    ∷ [])
    -- two intervals are closed: 2 × 1,440,000, and 200 + 231
    ∷ trace mixed
    ("run LTESTVEH000000001"
    ∷ "method regular"
    ∷ "cycle 2 phases 2"
    ∷ "tolerances 30 3 1"
    ∷ "fields 10 blocks 2 passed 1"
    ∷ "offered 3"
    ∷ "end none 3"
    ∷ "phase 1 1 energy 2880000 distance 431 open"
    ∷ "cycle 1 energy 2880000 distance 431 outside 1 open"
    ∷ "cycles 0"
    ∷ "outside 1"
    ∷ "drawn 2880000"
    ∷ "transfer before 14 after -6"
    ∷ "whole 2880014"
    ∷ "refused 10"
    ∷ [])
    -- the second sample stops the run, and closes the interval of the first
    ∷ trace (head 0 ++ own 0 (sample 100 ++ sample 131 ++ sample 100))
    ("run LTESTVEH000000001"
    ∷ "method regular"
    ∷ "cycle 2 phases 2"
    ∷ "tolerances 30 3 0"
    ∷ "fields 5 blocks 1 passed 0"
    ∷ "offered 3"
    ∷ "end stop 1"
    ∷ "stop cycle 1 position 1"
    ∷ "phase 1 1 energy 1440000 distance 231 open"
    ∷ "cycle 1 energy 1440000 distance 231 outside 1 open"
    ∷ "cycles 0"
    ∷ "outside 1"
    ∷ "drawn 1440000"
    ∷ "transfer before 0 after 0"
    ∷ "whole 1440000"
    ∷ "refused 10"
    ∷ [])
    -- one sample, outside: no interval is closed, and the cycle has a line for its sample
    ∷ trace (head 1 ++ own 0 (sample 131))
    ("run LTESTVEH000000001"
    ∷ "method regular"
    ∷ "cycle 2 phases 2"
    ∷ "tolerances 30 3 1"
    ∷ "fields 5 blocks 1 passed 0"
    ∷ "offered 1"
    ∷ "end none 1"
    ∷ "cycle 1 energy 0 distance 0 outside 1 open"
    ∷ "cycles 0"
    ∷ "outside 1"
    ∷ "drawn 0"
    ∷ "transfer before 0 after 0"
    ∷ "whole 0"
    ∷ "refused 10"
    ∷ [])
    -- by the shortened method, with an M of 300 samples and a set speed of 14.0 km/h
    ∷ trace (head 1 ++ field 8 (0 ∷ 0 ∷ 1 ∷ 44 ∷ 0 ∷ 140 ∷ []))
    ("run LTESTVEH000000001"
    ∷ "method shortened 300 140"
    ∷ "cycle 2 phases 2"
    ∷ "tolerances 30 3 1"
    ∷ "fields 5 blocks 0 passed 0"
    ∷ "offered 0"
    ∷ "end none 0"
    ∷ "cycles 0"
    ∷ "outside 0"
    ∷ "drawn 0"
    ∷ "transfer before 0 after 0"
    ∷ "whole 0"
    ∷ "refused 10"
    ∷ [])
    ∷ list (head 1 ++ field 8 (0 ∷ 0 ∷ 1 ∷ 44 ∷ 0 ∷ 140 ∷ []))
    ("1 0 mark"
    ∷ "2 7 vehicle LTESTVEH000000001"
    ∷ "3 27 cycle 2 phases 2"
    ∷ "4 39 tolerances 30 3 1"
    ∷ "5 48 stretches 300 140"
    ∷ [])
    -- the second sample of a later block has a voltage above its limit, 15000: 58 × 256 + 153 = 15001
    ∷ list (head 1 ++ own 0 (sample 100) ++ own 1 (sample 100 ++ 0 ∷ 100 ∷ 58 ∷ 153 ∷ 255 ∷ 136 ∷ []))
    ("1 0 mark"
    ∷ "2 7 vehicle LTESTVEH000000001"
    ∷ "3 27 cycle 2 phases 2"
    ∷ "4 39 tolerances 30 3 1"
    ∷ "5 48 own 0 1"
    ∷ "6 78 refused 5 sample 2 100 15001 -120"
    ∷ [])
    ∷ trace (head 1 ++ own 1 (sample 100)) ("refused 6 field 5" ∷ [])
    ∷ list (head 1 ++ own 1 (sample 100))
    ("1 0 mark"
    ∷ "2 7 vehicle LTESTVEH000000001"
    ∷ "3 27 cycle 2 phases 2"
    ∷ "4 39 tolerances 30 3 1"
    ∷ "5 48 refused 6"
    ∷ [])
    -- the input ends inside a field, and before the first
    ∷ list (field 1 (spell "RUN1") ++ 2 ∷ 0 ∷ []) ("1 0 mark"
    ∷ "2 7 refused 15"
    ∷ [])
    ∷ list [] ("1 0 refused 15" ∷ [])
    -- four cycles: twice their own energy, and 600 - 100 - 120; in all 1,200, which is 600 × 2
    ∷ weights 600 (100 ∷ 120 ∷ 130 ∷ 140 ∷ []) (200 ∷ 240 ∷ 380 ∷ 380 ∷ [])
    ∷ []

-- ---- what a row says

same : List ℕ → List ℕ → Bool
same u v = same_bytes (length u) u v && eqb (length u) (length v)

printed : List String → List ℕ
printed [] = []
printed (text ∷ rest) = ended (spell text) ++ printed rest

unfoldable pub holds : Row → Bool
unfolding same printed
holds (list i lines) = same (fields_text i) (printed lines)
holds (trace i lines) = same (traced i) (printed lines)
holds (weights E e w) = same (table (weight_of E (length e) (λ c. get_or e c 0)) (length e)) w
