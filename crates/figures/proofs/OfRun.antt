-- The figures of a whole run are those of the rules over its samples.
-- Assumes nothing.
use mathlib.Core.Bool.{false}
use mathlib.Core.List.{List, ◌++◌}
use mathlib.Core.Path.{◌≡◌, sym, ◌∙◌}
use Prim.Native.Nat.{ℕ, ◌+◌, ◌*◌}
use native.Mathlib.Omega.{arith}
use lib.IntN.{ℤ, pos, ◌+ℤ◌}
use lib.ListN.{length}
use Rattle.numbers.proofs.Range.{fold_same}
use Rattle.numbers.proofs.Sums.{sum_pos}
use Rattle.numbers.proofs.Tests.{not_refused}
use Rattle.rules.specs.declared.Moment.{Moment}
use Rattle.rules.specs.Bench.{most_cycles}
use Rattle.rules.specs.Course.{outside, judged, ending}
use Rattle.rules.specs.Regular.{moment_in}
use Rattle.rules.specs.Plan.{Plan, course_of}
use Rattle.rules.specs.Figures.{outside_total, figures_by}
use Rattle.laws.specs.Beside.{is_open}
use Rattle.laws.proofs.Ended.{figures_ended}
use Rattle.laws.proofs.NineNumbers.{outside_figure}
use Rattle.ledger.specs.Row.{outside_in, outside_all}
use Rattle.state.specs.declared.Run.{Run}
use Rattle.state.proofs.Checked.{ground_passed}
use Rattle.judge.proofs.Runs.{Reached, run_shows}
use Rattle.closing.proofs.Joined.{closing_on_run}
use Rattle.reading.specs.declared.Reading.{Reading}
use Rattle.reading.specs.Answers.{read_ground}
use Rattle.reading.proofs.Tested.{own_limits}
use Rattle.figures.specs.Figured.{Figurable, figures_of}

-- the tests before all else leave what the figures ask for
pub figurable : (r : Reading) (b : List ℕ) (l : List ℤ) (m : List ℕ) → read_ground r b l m ≡ 0 → Figurable r l
unfolding read_ground
figurable r b l m e =
    let (own, rest) = not_refused 0 _ _ e in
    let g = ground_passed rest in
    record { amounts = (own_limits r own).amounts; is_run_lem = g.is_run_lem; bounded = g.bounded }

module _ (p : Plan) (l₀ : List ℤ) (m₀ : List ℕ) {xs : List Moment} {r : Run} {l : List ℤ} {m : List ℕ}
    (h : Reached p l₀ m₀ xs r l m) where
  -- the ledger's outside counts add up to the outside samples of all cycles
  pub outsides_add_up : outside_all l ≡ pos (outside_total p xs)
  outsides_add_up =
      fold_same ◌+ℤ◌ (pos 0) (outside_in l) (λ c. pos (outside (course_of p) (moment_in xs) c (judged (course_of p) (moment_in xs) (length xs)))) most_cycles
      (λ c g. (run_shows p l₀ m₀ h).ledger_shows (9 * c + 8) (omega arith) ∙ outside_figure (course_of p) (moment_in xs) (length xs) c)
      ∙ sum_pos (λ c. outside (course_of p) (moment_in xs) c (judged (course_of p) (moment_in xs) (length xs))) most_cycles

-- every figure equals the rules: the figures of such a reading are those of its run's samples
pub figures_of_run : (p : Plan) (l₀ : List ℤ) (m₀ : List ℕ) (r : Reading) {xs : List Moment} {l : List ℤ} {m : List ℕ}
    → Reached p l₀ m₀ xs r.run l m → figures_of r l ≡ figures_by r.vehicle r.passed r.amounts p xs
figures_of_run p l₀ m₀ r h =
    let shown = run_shows p l₀ m₀ h in
    λ i. record {
      vehicle = r.vehicle;
      end = shown.end_is i;
      counted = shown.counted_is i;
      cycles = shown.cycles_are i;
      outside = outsides_add_up p l₀ m₀ h i;
      passed = r.passed;
      drawn = shown.energies_add_up i;
      closing = closing_on_run p l₀ m₀ h r.amounts i;
    }

-- samples added after the run's end: no line of the sheet changes
pub figures_stay : (p : Plan) (l₀ : List ℤ) (m₀ : List ℕ) (xs ys : List Moment) → is_open (ending (course_of p) (moment_in xs) (length xs)) ≡ false
    → (r r' : Reading) {l l' : List ℤ} {m m' : List ℕ} → Reached p l₀ m₀ xs r.run l m → Reached p l₀ m₀ (xs ++ ys) r'.run l' m'
    → r'.vehicle ≡ r.vehicle → r'.passed ≡ r.passed → r'.amounts ≡ r.amounts → figures_of r' l' ≡ figures_of r l
figures_stay p l₀ m₀ xs ys ended r r' h h' vehicle passed amounts =
    figures_of_run p l₀ m₀ r' h'
    ∙ (λ i. figures_by (vehicle i) (passed i) (amounts i) p (xs ++ ys))
    ∙ figures_ended p xs ys ended r.vehicle r.passed r.amounts
    ∙ sym (figures_of_run p l₀ m₀ r h)
