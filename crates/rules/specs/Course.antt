-- What a method is (a course), and which of the samples s 0, s 1, .. count in a run over it, of which n are offered.
-- Assumes nothing.
use Rattle.std.specs.Prelude.{Bool, false, cond, ◌||◌, ℕ, ◌+◌, ◌-◌, min, leb, ltb, ℤ}
use Rattle.rules.specs.Bench.{Moment, End, none, stop, limit, most_cycles}
use Rattle.rules.specs.Tally as tally

-- a number of samples, or one that is never reached
pub data Bound : Type 0 where
  never : Bound
  after : ℕ → Bound

abbrev pub reached : Bound → ℕ → Bool
reached never m = false
reached (after e) m = leb e m

-- where the samples stand: rows 0 to 63 are the ledger's cycles; document 02, L5: M and E are "outside the ledger", two rows behind them
abbrev pub row_m : ℕ
row_m = most_cycles

abbrev pub row_e : ℕ
row_e = row_m + 1

pub record Layout : Type 0 where
  -- sample j stands in this row, and there in this phase
  pub row : ℕ → ℕ
  pub phase : ℕ → ℕ
  -- the first sample of row c; the number behind its last, and behind the last of its phase k
  pub begin : ℕ → ℕ
  pub row_end : ℕ → Bound
  pub phase_end : ℕ → ℕ → Bound
  -- how many samples can count
  pub most : ℕ

-- what stops the run
pub record Rule : Type 0 where
  -- sample j is outside at this speed
  pub outside : ℕ → ℕ → Bool
  -- "The run stops at the first sample that brings this count above the allowance."
  pub allowance : ℕ
  -- by all speeds, sample j stops the run though it is not outside (stretch E of document 02, L5)
  pub halts : (ℕ → ℕ) → ℕ → Bool

-- what place j of the run brings, energy and distance, and how many samples after sample j it takes to close it
pub record Share : Type 0 where
  pub ahead : ℕ
  pub energy : (ℕ → Moment) → ℕ → ℤ
  pub distance : (ℕ → Moment) → ℕ → ℕ

pub record Course : Type 0 where
  pub layout : Layout
  pub rule : Rule
  pub share : Share

abbrev pub course : Layout → Rule → Share → Course
course l r h = record { layout = l; rule = r; share = h }

-- of n samples offered, where m are counted
module _ (c : Course) (n m : ℕ) where
  -- how many shares are closed: those of counted samples, so far as the samples that close them are offered.
  -- Document 02, L2: "An interval still open adds nothing."
  abbrev pub closed_where : ℕ
  closed_where = min (n - c.share.ahead) m

  -- "The run also ends, by limit, when" as many shares as can be are closed; document 02, L2: "the limit reached, only once the sample after
  -- its last position is taken"
  abbrev pub ending_where : End
  ending_where = cond (ltb m (tally.room c.layout.most n)) stop (cond (ltb closed_where c.layout.most) none limit)

module _ (c : Course) (s : ℕ → Moment) where
  -- sample j is outside
  abbrev pub out : ℕ → Bool
  out j = c.rule.outside j (s j).speed

  -- of the first m samples, those of row k that are outside
  abbrev pub outside : ℕ → ℕ → ℕ
  outside = tally.outside c.layout.row out

  -- sample j stops the run
  abbrev pub stops_at : ℕ → Bool
  stops_at j = c.rule.halts (λ i. (s i).speed) j || tally.over c.layout.row out c.rule.allowance j

  -- how many are counted, how many are judged, how many shares are closed, how the run ended
  abbrev pub counted : ℕ → ℕ
  counted = tally.counted stops_at c.layout.most

  abbrev pub judged : ℕ → ℕ
  judged = tally.judged stops_at c.layout.most

  abbrev pub closed : ℕ → ℕ
  closed n = closed_where c n (counted n)

  abbrev pub ending : ℕ → End
  ending n = ending_where c n (counted n)
