-- Which samples count, whatever cycle each stands in and whatever makes it outside. Sample j stands in `cycle j`; `out j` says whether it is outside.
-- Assumes nothing.
use Rattle.std.specs.Prelude.{Bool, ℕ, suc, ◌+◌, min, ltb, eqb}
use Rattle.rules.specs.Words.{sum_of, first, bit}

module _ (cycle : ℕ → ℕ) (out : ℕ → Bool) where
  -- "Outside samples are counted afresh in each cycle": of the first m, those of cycle c that are outside
  abbrev pub outside : ℕ → ℕ → ℕ
  outside c = sum_of (λ j. eqb (cycle j) c) (λ j. bit (out j))

  -- sample j "brings this count above the allowance"
  unfoldable pub over : ℕ → ℕ → Bool
  over allowance j = ltb allowance (outside (cycle j) (suc j))

-- of n samples offered, at most `most` can count
abbrev pub room : ℕ → ℕ → ℕ
room most n = min n most

-- `ends j` says whether sample j stops the run, as one that brings its count above the allowance does
module _ (ends : ℕ → Bool) (most n : ℕ) where
  -- "The run stops at the first sample" that does so, which begins no interval; document 02, L2: it "closes the last interval"
  abbrev pub counted : ℕ
  counted = first ends (room most n)

  abbrev pub stopped : Bool
  stopped = ltb counted (room most n)

  -- "That sample is marked and counted as outside": it is judged, as those counted are
  abbrev pub judged : ℕ
  judged = counted + bit stopped
