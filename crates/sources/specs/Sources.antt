-- Every number of a trace, read off a reading and its ledger.
-- Assumes nothing.
use Rattle.std.specs.Prelude.{Bool, true, false, cond, ◌&&◌, List, ℕ, suc, ◌+◌, ◌-◌, ◌*◌, ◌/◌, ◌%◌, leb, ltb, eqb, ℤ, pos}
use Rattle.rules.specs.declared.Gathered.{Gathered}
use Rattle.rules.specs.declared.Method.{Method}
use Rattle.rules.specs.declared.Method.TheVariants.{Regular as by_cycles, Shortened as with_stretches}
use Rattle.rules.specs.Bench.{most_cycles, most_positions, most_offered}
use Rattle.rules.specs.Cycle.{phases, phase_start, phase_end}
use Rattle.rules.specs.Course.{Layout, row_m, row_e}
use Rattle.rules.specs.Plan.{plan}
use Rattle.rules.specs.Trace.{Trace}
use Rattle.ledger.specs.Row.{at, energy_in, distance_in, outside_in}
use Rattle.state.specs.declared.Run.{Run}
use Rattle.state.specs.declared.Stretch.{Stretch}
use Rattle.state.specs.State.{closed_by}
use Rattle.reading.specs.declared.Reading.{Reading}
use Rattle.figures.specs.Figured.{figures_of}
pub use Rattle.sources.specs.declared.Stop.{Stop}
use Rattle.sources.specs.declared.Stop.TheVariants.{InE, At}

-- ---- where a cycle begins

-- the first sample of cycle c, of n positions each: M of m samples stands before the third of four; what no run reaches where there is no such cycle
abbrev pub first_around : ℕ → ℕ → ℕ → ℕ
first_around m n c = cond (ltb c 2) (c * n) (cond (ltb c 4) (m + c * n) (suc most_offered))

abbrev pub first_of : Method → ℕ → ℕ → ℕ
first_of by_cycles n c = c * n
first_of (with_stretches x) n c = first_around x.length n c

abbrev pub most_first : ℕ
most_first = most_offered + most_cycles * most_positions

-- of a run: its positions, the first sample of cycle c, and how many intervals are closed
abbrev pub positions_of : Run → ℕ
positions_of r = 20 * r.track.seconds

abbrev pub first_in : Run → ℕ → ℕ
first_in r c = first_of r.track.method (positions_of r) c

abbrev pub closed_of : Run → ℕ
closed_of r = closed_by r.progress

-- ---- phases and cycles

-- of a cycle whose first sample is this one, where so many intervals are closed: phase k has begun with its first sample, and is finished behind its last
abbrev pub phase_begun : List ℕ → ℕ → ℕ → ℕ → Bool
phase_begun b k first closed = ltb k (phases b) && ltb (first + 20 * phase_start b k) closed

abbrev pub phase_finished : List ℕ → ℕ → ℕ → ℕ → Bool
phase_finished b k first closed = ltb k (phases b) && leb (first + 20 * phase_end b k) closed

-- phase k of cycle c: "four phase energies, four phase distances, the outside count"
abbrev pub phase_on : Run → List ℕ → List ℤ → ℕ → ℕ → Gathered
phase_on r b l c k = record {
  energy = at l (9 * c + k);
  distance = at l (9 * c + (4 + k));
  begun = phase_begun b k (first_in r c) (closed_of r);
  finished = phase_finished b k (first_in r c) (closed_of r);
}

abbrev pub row_on : Run → List ℤ → ℕ → Gathered
row_on r l c = record {
  energy = energy_in l c;
  distance = distance_in l c;
  begun = ltb (first_in r c) (closed_of r);
  finished = leb (first_in r c + positions_of r) (closed_of r);
}

abbrev pub outside_on : List ℤ → ℕ → ℤ
outside_on = outside_in

-- ---- stretches, of which a regular run has none

abbrev pub begun_m : Method → ℕ → ℕ → Bool
begun_m by_cycles n closed = false
begun_m (with_stretches x) n closed = ltb (2 * n) closed

abbrev pub finished_m : Method → ℕ → ℕ → Bool
finished_m by_cycles n closed = false
finished_m (with_stretches x) n closed = leb (2 * n + x.length) closed

abbrev pub begun_e : Method → ℕ → ℕ → Bool
begun_e by_cycles n closed = false
begun_e (with_stretches x) n closed = ltb (4 * n + x.length) closed

abbrev pub stretch_by : Stretch → Bool → Bool → Gathered
stretch_by x begun finished = record { energy = x.energy; distance = pos x.distance; begun = begun; finished = finished }

abbrev pub stretch_m : Run → Gathered
stretch_m r =
    stretch_by r.stretched.in_m (begun_m r.track.method (positions_of r) (closed_of r)) (finished_m r.track.method (positions_of r) (closed_of r))

-- "E never as a finished one"
abbrev pub stretch_e : Run → Gathered
stretch_e r = stretch_by r.stretched.in_e (begun_e r.track.method (positions_of r) (closed_of r)) false

-- ---- where the sample behind those counted stands, which stops a run that is stopped

abbrev pub stop_at : Bool → ℕ → ℕ → Stop
stop_at true c p = InE p
stop_at false c p = At c p

-- the cycle, or the row of E
abbrev pub row_of : Stop → ℕ
row_of (InE p) = row_e
row_of (At c p) = c

-- at place i of the cycles, of n positions each, laid end to end
abbrev pub ride_stop : ℕ → ℕ → Stop
ride_stop n i = stop_at false (i / n) (i % n)

-- sample j, with M of m samples behind the second of four cycles, and E behind them; M and E are the rows behind the ledger's
abbrev pub stop_around : ℕ → ℕ → ℕ → Stop
stop_around m n j =
    cond (ltb j (2 * n)) (ride_stop n j)
    (cond (ltb j (2 * n + m)) (stop_at false row_m (j - 2 * n))
    (cond (ltb j (4 * n + m)) (ride_stop n (j - m))
    (stop_at true row_e (j - (4 * n + m)))))

abbrev pub stop_by : Method → ℕ → ℕ → Stop
stop_by by_cycles n j = ride_stop n j
stop_by (with_stretches x) n j = stop_around x.length n j

abbrev pub stop_on : Run → Stop
stop_on r = stop_by r.track.method (positions_of r) r.progress.counted

-- the same by the rules' layout
abbrev pub stood_at : Layout → ℕ → Stop
stood_at l n = stop_at (eqb (l.row n) row_e) (l.row n) (n - l.begin (l.row n))

-- ---- all of it

abbrev pub part_on : Run → List ℤ → ℕ → Gathered
part_on r l c = cond (eqb c row_m) (stretch_m r) (cond (eqb c row_e) (stretch_e r) (row_on r l c))

-- a reading, the cycle's bytes, the ledger, how many fields are accepted, and how many of them are own blocks
abbrev pub trace_on : Reading → List ℕ → List ℤ → ℕ → ℕ → Trace
trace_on r b l fields blocks = record {
  plan = plan b r.run.track.tolerances r.run.track.method;
  figures = figures_of r l;
  amounts = r.amounts;
  fields = fields;
  blocks = blocks;
  offered = r.run.progress.offered;
  phase = phase_on r.run b l;
  row = part_on r.run l;
  outside_in = outside_on l;
}
