-- Demand 3 on the figures: the same samples by tolerances of which each is kept or widened.
-- Assumes nothing.
use mathlib.Core.List.{List}
use mathlib.Core.Path.{◌≡◌}
use Prim.Native.Nat.{ℕ, ◌≤◌}
use lib.IntN.{ℤ, pos, ◌+ℤ◌}
use lib.ListN.{length}
use Rattle.numbers.proofs.Range.{sum_le}
use Rattle.numbers.proofs.Tests.{refuted}
use Rattle.rules.specs.declared.Amounts.{Amounts}
use Rattle.rules.specs.declared.End.TheVariants.{Stop as stop}
use Rattle.rules.specs.declared.Moment.{Moment}
use Rattle.rules.specs.declared.Tolerances.{Tolerances}
use Rattle.rules.specs.declared.Method.{Method}
use Rattle.rules.specs.Bench.{most_cycles}
use Rattle.laws.specs.Beside.{stopped}
use Rattle.rules.specs.Parts.{row_part, cycles, part_energy, part_distance, energy}
use Rattle.rules.specs.Regular.{interval, moment_in}
use Rattle.rules.specs.Plan.{Plan, plan, layout_of, rule_of, course_of}
use Rattle.laws.proofs.Sound.{Sound}
use Rattle.laws.specs.Claims.{Widened}
use Rattle.laws.proofs.Facts.{Wider}
use Rattle.laws.proofs.Gathered.{row_ends, phase_ends}
use Rattle.laws.proofs.Plans.{planned_orderly, planned_wider}
use Rattle.laws.proofs.Wider.{counted_wider, cycles_wider, stop_wider, part_wider, outside_finished, unstopped_wider}
use Rattle.rules.specs.Closing.{least_finished, closing_by}
use Rattle.rules.specs.declared.Figures.{Figures}
use Rattle.rules.specs.Figures.{outside_total, figures_by}
use Rattle.figures.specs.Compared.{NoEarlier, with_outside}

module _ (vehicle : List ℕ) (passed : ℕ) (a : Amounts) (b : List ℕ) (y : Method) (t t' : Tolerances) (xs : List Moment) where
  -- by the narrower tolerances, and by the wider
  abbrev p : Plan
  p = plan b t y

  abbrev p' : Plan
  p' = plan b t' y

  abbrev f : Figures
  f = figures_by vehicle passed a p xs

  abbrev f' : Figures
  f' = figures_by vehicle passed a p' xs

  abbrev s : ℕ → Moment
  s = moment_in xs

  module _ (o : Sound b) (h : Widened t t') where
    wide : Wider (rule_of b t y) (rule_of b t' y)
    wide = planned_wider b o y t t' h

    pub no_earlier : NoEarlier vehicle passed a b y t t' xs
    no_earlier = record {
      counted_no_less = counted_wider (layout_of b y) _ _ interval wide s (length xs);
      cycles_no_less = cycles_wider (layout_of b y) _ _ interval wide s (length xs);
      stopped_too = stop_wider (layout_of b y) _ _ interval wide s (length xs);
      phases_kept = λ c k. part_wider (layout_of b y) _ _ interval wide s (length xs) (phase_ends (planned_orderly b o y) c k);
      cycles_kept = λ c. part_wider (layout_of b y) _ _ interval wide s (length xs) (row_ends (planned_orderly b o y) c);
      outside_no_higher = outside_finished (layout_of b y) _ _ interval wide s (length xs) (planned_orderly b o y);
    }

    -- a run that did not stop: only the outside count may fall
    pub unstopped_same : (f.end ≡ stop → ⊥) → (f' ≡ with_outside f f'.outside) × (outside_total p' xs ≤ outside_total p xs)
    unstopped_same went =
        let u = unstopped_wider (layout_of b y) _ _ interval wide s (length xs) (refuted (stopped (course_of p) s (length xs)) (λ e. went (rw e))) in (
          λ i.
              let m = u.closed_same i in
              let n = cycles (layout_of b y) m in
              let e : ℕ → ℤ = λ c. part_energy interval s (row_part (layout_of b y) c) m in
              let d : ℕ → ℤ = λ c. pos (part_distance interval s (row_part (layout_of b y) c) m) in
              record {
                vehicle = vehicle;
                end = u.ending_same i;
                counted = u.counted_same i;
                cycles = n;
                outside = pos (outside_total p' xs);
                passed = passed;
                drawn = energy interval s m;
                closing = closing_by (a.before +ℤ energy interval s m) n e d a.after (least_finished y) a.charge;
              },
          sum_le _ _ most_cycles (λ c _. u.no_more_outside c),
        )
