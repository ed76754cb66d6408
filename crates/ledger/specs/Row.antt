-- The ledger's nine numbers of a cycle, which start at place a (9 × c in the whole ledger, 0 in the stretch that is lent on).
-- Assumes nothing.
use Rattle.std.specs.Prelude.{Bool, cond, ◌&&◌, List, ℕ, ◌+◌, ◌-◌, ◌*◌, ◌<◌, leb, ℤ, pos, ◌+ℤ◌, length, get_or}
use Rattle.std.specs.Int.Signed.{lt_z}
use Rattle.numbers.specs.Lists.{plus}
use Rattle.rules.specs.Words.{sumℤ, all_below}
use Rattle.rules.specs.declared.Moment.{Moment}
use Rattle.rules.specs.Bench.{most_cycles, most_phases, most_offered, most_share_energy, most_share_distance}
use Rattle.rules.specs.Shown.{ledger_numbers, most_energy, in_bounds}

-- what one sample adds to a number at most, and what the numbers can come to while samples are taken
abbrev pub most_step : ℕ
most_step = most_share_energy + most_share_distance + 1

abbrev pub most_held : ℕ
most_held = most_energy + most_step * most_offered

-- number i
abbrev pub at : List ℤ → ℕ → ℤ
at l i = get_or l i (pos 0)

-- long enough, and none of the 576 numbers out of bounds
unfoldable pub bounded : List ℤ → Bool
bounded l = leb ledger_numbers (length l) && all_below ledger_numbers (λ i. in_bounds i (at l i))

module _ (a : ℕ) (l : List ℤ) where
  -- a sample that is outside is counted as outside
  abbrev pub outside_added : Bool → List ℤ
  outside_added out = cond out (plus l (a + 8) (pos 1)) l

  -- "brings this count above the allowance": a sample that is not outside brings it nowhere
  abbrev pub is_over : Bool → ℕ → Bool
  is_over out allowance = out && lt_z (pos allowance) (at (outside_added out) (a + 8))

-- an interval of phase k, from sample x to sample y: "the sums of both ends' products and speeds" (document 02, L2)
unfoldable pub interval_added : ℕ → List ℤ → ℕ → Moment → Moment → List ℤ
interval_added a l k x y = plus (plus l (a + k) (x.energy +ℤ y.energy)) (a + (4 + k)) (pos (x.speed + y.speed))

-- the sum of n numbers, the first at place a, each d places behind the one before
abbrev pub sum_by : List ℤ → ℕ → ℕ → ℕ → ℤ
sum_by l a d n = sumℤ (λ k. at l (a + d * k)) n

-- these are numbers of the ledger
pub record Within (a d n : ℕ) : Type 0 where
  pub within : (k : ℕ) → k < n → a + d * k < ledger_numbers

-- energy, distance and outside count of cycle c; energy and outside count of all 64; energy of those from cycle a on
abbrev pub energy_in : List ℤ → ℕ → ℤ
energy_in l c = sumℤ (λ k. at l (9 * c + k)) most_phases

abbrev pub distance_in : List ℤ → ℕ → ℤ
distance_in l c = sumℤ (λ k. at l (9 * c + 4 + k)) most_phases

abbrev pub outside_in : List ℤ → ℕ → ℤ
outside_in l c = at l (9 * c + 8)

abbrev pub energy_all : List ℤ → ℤ
energy_all l = sumℤ (energy_in l) most_cycles

abbrev pub energy_from : List ℤ → ℕ → ℤ
energy_from l a = sumℤ (λ k. energy_in l (a + k)) (most_cycles - a)

abbrev pub outside_all : List ℤ → ℤ
outside_all l = sumℤ (outside_in l) most_cycles
