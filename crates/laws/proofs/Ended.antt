-- Samples added after a run's end change no closing and no figure: "Later accepted samples raise only the number offered."
-- Assumes nothing.
use mathlib.Core.Bool.{false}
use mathlib.Core.List.{List, ◌++◌}
use mathlib.Core.Path.{◌≡◌}
use Prim.Native.Nat.{ℕ, ◌+◌}
use lib.IntN.{pos, ◌+ℤ◌}
use lib.ListN.{length}
use Rattle.numbers.proofs.Range.{fold_same}
use Rattle.rules.specs.declared.Amounts.{Amounts}
use Rattle.rules.specs.declared.Moment.{Moment}
use Rattle.rules.specs.Bench.{most_cycles}
use Rattle.rules.specs.Course.{Course, outside, judged, ending}
use Rattle.rules.specs.Parts.{row_part, cycles, energy}
use Rattle.rules.specs.Regular.{moment_in}
use Rattle.rules.specs.Plan.{Plan, course_of}
use Rattle.rules.specs.Closing.{least_finished, closing_by}
use Rattle.rules.specs.Figures.{closed_in, energies, distances, outside_total, closing_in, figures_by}
use Rattle.laws.specs.Beside.{is_open}
use Rattle.laws.proofs.Facts.{Lawful}
use Rattle.laws.proofs.Longer.{more_samples, same_samples, Over, over, energy_over, distance_over, whole_over, outside_over}
use Rattle.laws.proofs.Plans.{planned_lawful}

-- the samples xs, after which the run has ended, and more behind them
module _ (p : Plan) (xs ys : List Moment) where
  abbrev s : ℕ → Moment
  s = moment_in xs

  abbrev s' : ℕ → Moment
  s' = moment_in (xs ++ ys)

  abbrev c : Course
  c = course_of p

  lawful : Lawful c
  lawful = planned_lawful p

  module _ (ended : is_open (ending c s (length xs)) ≡ false) where
    abbrev stays : Over c lawful s s' (length xs) (length (xs ++ ys)) (more_samples xs ys) (same_samples xs ys)
    stays = over c lawful s s' (length xs) (length (xs ++ ys)) (more_samples xs ys) (same_samples xs ys) ended

    whole_same : energy c.share s' (closed_in p (xs ++ ys)) ≡ energy c.share s (closed_in p xs)
    whole_same = whole_over c lawful s s' (length xs) (length (xs ++ ys)) (more_samples xs ys) (same_samples xs ys) stays

    energies_same : energies p (xs ++ ys) ≡ energies p xs
    energies_same = λ i k. energy_over c lawful s s' (length xs) (length (xs ++ ys)) (more_samples xs ys) (same_samples xs ys) stays (row_part c.layout k) i

    distances_same : distances p (xs ++ ys) ≡ distances p xs
    distances_same = λ i k. pos (distance_over c lawful s s' (length xs) (length (xs ++ ys)) (more_samples xs ys) (same_samples xs ys) stays (row_part c.layout k) i)

    outsides_same : outside_total p (xs ++ ys) ≡ outside_total p xs
    outsides_same =
        fold_same ◌+◌ 0 (λ k. outside c s' k (judged c s' (length (xs ++ ys)))) (λ k. outside c s k (judged c s (length xs))) most_cycles
        (λ k _. outside_over c lawful s s' (length xs) (length (xs ++ ys)) (more_samples xs ys) (same_samples xs ys) stays k)

    -- the closing, with the same amounts
    pub closing_ended : (a : Amounts) → closing_in p (xs ++ ys) a ≡ closing_in p xs a
    closing_ended a = λ i.
        closing_by (a.before +ℤ whole_same i) (cycles c.layout (stays.closed_same i)) (energies_same i) (distances_same i) a.after
        (least_finished p.method) a.charge

    -- and every figure
    pub figures_ended : (vehicle : List ℕ) (passed : ℕ) (a : Amounts) → figures_by vehicle passed a p (xs ++ ys) ≡ figures_by vehicle passed a p xs
    figures_ended vehicle passed a = λ i. record {
      vehicle = vehicle;
      end = stays.ending_same i;
      counted = stays.counted_same i;
      cycles = cycles c.layout (stays.closed_same i);
      outside = pos (outsides_same i);
      passed = passed;
      drawn = whole_same i;
      closing = closing_ended a i;
    }
