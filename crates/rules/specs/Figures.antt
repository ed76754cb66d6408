-- The figures of a sheet, from the plan and the samples of a record.
-- Assumes nothing.
use Rattle.std.specs.Prelude.{List, ℕ, ℤ, pos, length}
use Rattle.rules.specs.Words.{sum}
use Rattle.rules.specs.declared.Amounts.{Amounts}
use Rattle.rules.specs.declared.Moment.{Moment}
use Rattle.rules.specs.Bench.{most_cycles}
use Rattle.rules.specs.Course.{outside, counted, judged, closed, ending}
use Rattle.rules.specs.Parts.{row_part, cycles, part_energy, part_distance, energy}
use Rattle.rules.specs.Regular.{moment_in}
use Rattle.rules.specs.Plan.{Plan, plan, course_of}
use Rattle.rules.specs.Closing.{ClosingAnswer, least_finished, whole_energy, closing_by}
use Rattle.rules.specs.Record.{Told}
pub use Rattle.rules.specs.declared.Figures.{Figures}

-- the samples of a record, by its plan
module _ (p : Plan) (xs : List Moment) where
  -- how many shares are closed
  abbrev pub closed_in : ℕ
  closed_in = closed (course_of p) (moment_in xs) (length xs)

  -- "e_c and d_c are a finished cycle's energy and distance (c from 1)": place 0 is cycle 1
  abbrev pub energies : ℕ → ℤ
  energies c = part_energy (course_of p).share (moment_in xs) (row_part (course_of p).layout c) closed_in

  abbrev pub distances : ℕ → ℤ
  distances c = pos (part_distance (course_of p).share (moment_in xs) (row_part (course_of p).layout c) closed_in)

  -- how many cycles are finished
  abbrev pub cycles_in : ℕ
  cycles_in = cycles (course_of p).layout closed_in

  -- "`outside` total over all cycles, open one included": of the samples judged, the stopping one among them
  abbrev pub outside_total : ℕ
  outside_total = sum (λ c. outside (course_of p) (moment_in xs) c (judged (course_of p) (moment_in xs) (length xs))) most_cycles

  -- the closing, with these amounts
  abbrev pub closing_in : Amounts → ClosingAnswer
  closing_in a =
      closing_by (whole_energy a.before (course_of p) (moment_in xs) (length xs)) cycles_in energies distances a.after
      (least_finished p.method) a.charge

-- "`run` vehicle number; `end` none, stop or limit with the number of counted samples; `cycles` n; `outside` ..; `passed` blocks passed over;
-- `drawn` energy of" the closed intervals "; `weighted`; `range`; `ac` figure or `-`"
abbrev pub figures_by : List ℕ → ℕ → Amounts → Plan → List Moment → Figures
figures_by vehicle passed a p xs =
    let s = moment_in xs in
    record {
      vehicle = vehicle;
      end = ending (course_of p) s (length xs);
      counted = counted (course_of p) s (length xs);
      cycles = cycles_in p xs;
      outside = pos (outside_total p xs);
      passed = passed;
      drawn = energy (course_of p).share s (closed_in p xs);
      closing = closing_in p xs a;
    }

-- of what a record tells
abbrev pub plan_told : Told → Plan
plan_told x = plan x.holding.cycle x.holding.tolerances x.holding.method

abbrev pub figures_told : Told → Figures
figures_told x = figures_by x.holding.vehicle x.passed x.holding.amounts (plan_told x) x.holding.samples
