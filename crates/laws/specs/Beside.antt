-- Tests that the code makes, and figures that laws speak of, in the words of the rules.
-- Assumes nothing.
use Rattle.std.specs.Prelude.{Bool, true, false, not, cond, ◌&&◌, List, ℕ, zero, suc, ◌+◌, ◌*◌, leb, eqb, ℤ, pos, neg_ℤ}
use Rattle.rules.specs.Words.{between}
use Rattle.rules.specs.declared.End.{End}
use Rattle.rules.specs.declared.End.TheVariants.{None as none, Stop as stop, Limit as limit}
use Rattle.rules.specs.declared.Moment.{Moment}
use Rattle.rules.specs.declared.Tolerances.{Tolerances}
use Rattle.rules.specs.declared.Method.{Method}
use Rattle.rules.specs.declared.Method.TheVariants.{Regular as by_cycles, Shortened as with_stretches}
use Rattle.rules.specs.Bench.{most_speed, most_drawn, most_cycles, most_phases}
use Rattle.rules.specs.Band.{lo, hi, below_of}
use Rattle.rules.specs.Tally as tally
use Rattle.rules.specs.Course.{Course, row_e, stops_at}
use Rattle.rules.specs.Regular.{position_of}
use Rattle.rules.specs.Shortened.{Stand, ride, beside, stand, is_below}
use Rattle.rules.specs.Shown.{most_energy, most_stretch_energy}
use Rattle.rules.specs.Closing.{most_transfer_in, rate}
use Rattle.rules.specs.Table.{Row, among, are_whole, by_row}

-- such as a sample within its limits brings
unfoldable pub is_moment : Moment → Bool
is_moment x = leb x.speed most_speed && between (neg_ℤ (pos most_drawn)) (pos most_drawn) x.energy

-- ---- the band

-- "inside when lo <= 20v + 20s and 20v <= hi + 20s": where the one or the other fails
abbrev pub above_of : ℕ → ℕ → ℕ → Bool
above_of hi s v = not (leb (20 * v) (hi + 20 * s))

module _ (b : List ℕ) (t : Tolerances) (p v : ℕ) where
  unfoldable pub below : Bool
  below = below_of (lo b t.time p) t.speed v

  unfoldable pub above : Bool
  above = above_of (hi b t.time p) t.speed v

-- ---- a run

-- the ledger's rows and the stretches' two
abbrev pub most_rows : ℕ
most_rows = row_e + 1

-- where sample j stands, by the method
abbrev pub stand_of : List ℕ → Method → ℕ → Stand
stand_of b by_cycles j = ride j
stand_of b (with_stretches x) j = stand b x.length j

-- its position there; M and E have none
abbrev pub place_of : List ℕ → Stand → ℕ
place_of b (ride i) = position_of b i
place_of b (beside c) = 0

-- it has not ended
abbrev pub is_open : End → Bool
is_open none = true
is_open stop = false
is_open limit = false

-- it stopped, of so many samples offered
abbrev pub stopped : Course → (ℕ → Moment) → ℕ → Bool
stopped c s = tally.stopped (stops_at c s) c.layout.most

-- ---- the stop in E, sample by sample: one number, 0 until the set speed is reached there, then one more than the samples below in a row

-- what one more sample does to it: whether it has reached the set speed in E, whether it is below
abbrev pub watch_next : Bool → Bool → ℕ → ℕ
watch_next reached below z = cond reached 1 (cond (eqb z 0) 0 (cond below (suc z) 1))

-- after n samples of the speeds v, where E begins with sample e; by its set speed u and the speed tolerance s
unfoldable pub watch : ℕ → ℕ → ℕ → (ℕ → ℕ) → ℕ → ℕ
watch e u s v zero = 0
watch e u s v (suc n) = watch_next (leb e n && leb u (v n)) (is_below u s (v n)) (watch e u s v n)

-- ---- the closing

-- a transfer energy in the run's unit: field 6's, doubled
abbrev pub most_transfer : ℕ
most_transfer = 2 * most_transfer_in

abbrev pub is_transfer : ℤ → Bool
is_transfer = between (neg_ℤ (pos most_transfer)) (pos most_transfer)

-- the most that the whole energy can be, either way, of a ledger and stretches that are in bounds
abbrev pub most_whole : ℕ
most_whole = most_transfer + (most_cycles * (most_phases * most_energy) + 2 * most_stretch_energy)

abbrev pub rates : (ℕ → ℕ) → (ℕ → ℕ) → ℕ → ℕ
rates e d c = rate (e c) (d c)

-- ---- fields

-- so many bytes are "1 to 200 samples: speed (2), voltage (2), current (2, two's complement)"
abbrev pub is_block : ℕ → Bool
is_block n = are_whole 6 n

-- "field out of order": it may not stand at the place
abbrev pub may_stand : {M : Type 0} → List (Row M) → ℕ → ℕ → List ℕ → Bool
may_stand rows place tag v = by_row rows tag v (λ r. among place r.stands) false
