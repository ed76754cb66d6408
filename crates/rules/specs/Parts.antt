-- The parts of a run, phases and cycles: what each has gathered of the first m shares, and when it is finished.
-- Assumes nothing.
use Rattle.std.specs.Prelude.{Bool, not, ◌&&◌, ℕ, eqb, ℤ}
use Rattle.rules.specs.Words.{sum_of, sum_ofℤ, sumℤ, first}
use Rattle.rules.specs.Bench.{Moment, most_cycles}
use Rattle.rules.specs.Course.{Bound, reached, Layout, Share}

-- a test on sample numbers, and the number behind the last sample that passes
pub record Part : Type 0 where
  pub of : ℕ → Bool
  pub behind : Bound

-- row c, and phase k of it
abbrev pub row_part : Layout → ℕ → Part
row_part l c = record { of = λ j. eqb (l.row j) c; behind = l.row_end c }

abbrev pub phase_part : Layout → ℕ → ℕ → Part
phase_part l c k = record { of = λ j. eqb (l.row j) c && eqb (l.phase j) k; behind = l.phase_end c k }

-- document 02, L2: "A phase or cycle is finished .. only once the sample after its last position is taken": where m shares are closed, the share
-- of its last position among them
abbrev pub finished : Part → ℕ → Bool
finished p = reached p.behind

-- how many cycles are finished: the first rows of the ledger are
unfoldable pub cycles : Layout → ℕ → ℕ
cycles l m = first (λ c. not (finished (row_part l c) m)) most_cycles

-- of the first m shares: energy and distance of a part, and the energy of all
module _ (h : Share) (s : ℕ → Moment) where
  abbrev pub part_energy : Part → ℕ → ℤ
  part_energy p = sum_ofℤ p.of (h.energy s)

  abbrev pub part_distance : Part → ℕ → ℕ
  part_distance p = sum_of p.of (h.distance s)

  abbrev pub energy : ℕ → ℤ
  energy = sumℤ (h.energy s)
