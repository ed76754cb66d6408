-- What the laws of a run ask of a course: where its samples stand, what stops it, what a share is. And what it is for one rule to be wider.
-- Assumes nothing.
use mathlib.Core.Path.{◌≡◌}
use Prim.Native.Nat.{ℕ, suc, ◌+◌, ◌*◌, ◌≤◌, ◌<◌}
use lib.Dec.{T}
use Rattle.numbers.specs.Whole.{Sized}
use Rattle.rules.specs.declared.Moment.{Moment}
use Rattle.rules.specs.Bench.{most_phases}
use Rattle.rules.specs.Course.{reached, Layout, Rule, Share, Course}
use Rattle.laws.specs.Beside.{most_rows}

pub record Orderly (l : Layout) : Type 0 where
  -- a row has begun where a sample stands in it, and neither the row nor its phase is at its end
  pub begun : (j : ℕ) → l.begin (l.row j) ≤ j
  pub row_open : (j : ℕ) → T (reached (l.row_end (l.row j)) j) → ⊥
  pub phase_open : (j : ℕ) → T (reached (l.phase_end (l.row j) (l.phase j)) j) → ⊥
  -- the ledger's rows and the stretches hold every sample that can count, each in one of four phases
  pub few_rows : (j : ℕ) → j < l.most → l.row j < most_rows
  pub few_phases : (j : ℕ) → l.phase j < most_phases
  -- the sample before one that is not its row's first stands in the same row
  pub joined : (j : ℕ) → l.begin (l.row (suc j)) ≤ j → l.row j ≡ l.row (suc j)

-- whether a sample stops the run is settled by the samples up to it
pub record LooksBack (r : Rule) : Type 0 where
  pub halts_by : (v v' : ℕ → ℕ) (j : ℕ) → ((i : ℕ) → i ≤ j → v' i ≡ v i) → r.halts v' j ≡ r.halts v j

-- a share is settled by the samples up to the one that closes it, which a stopping sample may be; and it is at most what its 1 + ahead samples bring
pub record Near (h : Share) : Type 0 where
  pub soon : h.ahead ≤ 1
  pub energy_by : (s s' : ℕ → Moment) (j : ℕ) → ((i : ℕ) → i ≤ j + h.ahead → s' i ≡ s i) → h.energy s' j ≡ h.energy s j
  pub distance_by : (s s' : ℕ → Moment) (j : ℕ) → ((i : ℕ) → i ≤ j + h.ahead → s' i ≡ s i) → h.distance s' j ≡ h.distance s j
  pub energy_most : (s : ℕ → Moment) (j x : ℕ) → ((i : ℕ) → i ≤ j + h.ahead → Sized x (s i).energy) → Sized (x * suc h.ahead) (h.energy s j)
  pub distance_most : (s : ℕ → Moment) (j v : ℕ) → ((i : ℕ) → i ≤ j + h.ahead → (s i).speed ≤ v) → h.distance s j ≤ v * suc h.ahead

-- what is settled of a run by the samples up to one stays settled
pub record Lawful (c : Course) : Type 0 where
  pub back : LooksBack c.rule
  pub near : Near c.share

-- the second rule is no narrower: nothing more is outside, no less is allowed, nothing more stops the run
pub record Wider (r r' : Rule) : Type 0 where
  pub outside : (j v : ℕ) → T (r'.outside j v) → T (r.outside j v)
  pub allowance : r.allowance ≤ r'.allowance
  pub halts : (v : ℕ → ℕ) (j : ℕ) → T (r'.halts v j) → T (r.halts v j)
