-- What the demands compare in the figures of two runs.
-- Assumes nothing.
use Rattle.std.specs.Prelude.{List, ◌≡◌, ℕ, ◌≤◌, T, ℤ, length}
use Rattle.rules.specs.declared.Amounts.{Amounts}
use Rattle.rules.specs.declared.End.TheVariants.{Stop as stop}
use Rattle.rules.specs.declared.Figures.{Figures}
use Rattle.rules.specs.declared.Moment.{Moment}
use Rattle.rules.specs.declared.Tolerances.{Tolerances}
use Rattle.rules.specs.declared.Method.{Method}
use Rattle.rules.specs.Course.{outside, judged}
use Rattle.rules.specs.Parts.{Part, row_part, phase_part, finished}
use Rattle.rules.specs.Regular.{interval, moment_in}
use Rattle.rules.specs.Plan.{Plan, plan, layout_of, course_of}
use Rattle.rules.specs.Figures.{closed_in, figures_by}
use Rattle.laws.specs.Claims.{PartKept}

-- the figures, with other counts
abbrev pub with_counts : Figures → ℤ → ℕ → Figures
with_counts f outside passed = record {
  vehicle = f.vehicle;
  end = f.end;
  counted = f.counted;
  cycles = f.cycles;
  outside = outside;
  passed = passed;
  drawn = f.drawn;
  closing = f.closing;
}

-- with another `outside`
abbrev pub with_outside : Figures → ℤ → Figures
with_outside f o = with_counts f o f.passed

module _ (vehicle : List ℕ) (passed : ℕ) (a : Amounts) (b : List ℕ) (y : Method) (t t' : Tolerances) (xs : List Moment) where
  -- by the narrower tolerances, and by the wider, by the same method
  abbrev p : Plan
  p = plan b t y

  abbrev p' : Plan
  p' = plan b t' y

  abbrev f : Figures
  f = figures_by vehicle passed a p xs

  abbrev f' : Figures
  f' = figures_by vehicle passed a p' xs

  abbrev s : ℕ → Moment
  s = moment_in xs

  -- a part that the narrower run finished
  abbrev Stays : Part → Type 0
  Stays part = T (finished part (closed_in p xs)) → PartKept interval part s s (closed_in p xs) (closed_in p' xs)

  -- "Wider tolerances never stop earlier. .. What the narrower run finished, the wider finished too, with equal energies and distances and no higher
  -- outside count."
  pub record NoEarlier : Type 0 where
    pub counted_no_less : f.counted ≤ f'.counted
    pub cycles_no_less : f.cycles ≤ f'.cycles
    pub stopped_too : f'.end ≡ stop → f.end ≡ stop
    pub phases_kept : (c k : ℕ) → Stays (phase_part (layout_of b y) c k)
    pub cycles_kept : (c : ℕ) → Stays (row_part (layout_of b y) c)
    pub outside_no_higher : (c : ℕ) → T (finished (row_part (layout_of b y) c) (closed_in p xs))
        → outside (course_of p') s c (judged (course_of p') s (length xs)) ≤ outside (course_of p) s c (judged (course_of p) s (length xs))
