-- Document 02, L11, "How far from the exact range?": what is claimed of weighted consumption and range beside the range from unrounded cycle consumptions,
-- and what must not be.
-- Assumes nothing.
use Rattle.std.specs.Prelude.{List, ◌⊎◌, ◌≡◌, ℕ, ◌+◌, ◌-◌, ◌*◌, ◌≤◌, ◌<◌, ℤ, pos, length}
use Rattle.rules.specs.Words.{least, greatest, up}
use Rattle.rules.specs.declared.Method.{Method}
use Rattle.rules.specs.declared.Moment.{Moment}
use Rattle.rules.specs.Regular.{moment_in}
use Rattle.rules.specs.Plan.{Plan, course_of}
use Rattle.rules.specs.Closing.{weight, weighted, range, least_finished, closing_refusal, whole_energy}
use Rattle.rules.specs.Exact.{denominator, unrounded, exact_weighing, exact_range, range_denominator, exact_metres}
use Rattle.rules.specs.Figures.{energies, distances, cycles_in}
use Rattle.laws.specs.Beside.{rates}

-- W and R of n finished cycles of energies e and distances d, and of the whole energy E
pub record NearExact (E n : ℕ) (e d : ℕ → ℕ) (W R : ℕ) : Type 0 where
  -- what is unrounded is what it is called, over a denominator that is not 0
  pub unrounded_is : (0 < denominator n d) × ((c : ℕ) → c < n → unrounded n e d c * d c ≡ denominator n d * (100 * e c))
  pub range_is_a_number : 0 < range_denominator E n e d
  -- "W lies between the least and greatest q of the finished cycles"
  pub weighted_between : (least (rates e d) 0 (n - 1) ≤ W) × (W ≤ greatest (rates e d) 0 (n - 1))
  -- document 01: "It is never above the same weighting of the unrounded 100 e_c / d_c and less than 2 below it."
  pub weighted_close : (let k = denominator n d * weight E n in (W * k ≤ exact_weighing E n e d) × (exact_weighing E n e d < (W + 2) * k))
  -- "the range printed is never below the whole metres of the range from unrounded cycle consumptions"
  pub range_not_below : exact_metres E n e d ≤ R
  -- "state from the printed weighted figure how far above it may lie": R × W < R* × (W+2), so by less than 2/W of R*
  pub range_above_by : R * W * range_denominator E n e d < exact_range E n e d * (W + 2)
  -- so in whole metres by at most k, where 2R <= k (W+2)
  pub metres_above : (k : ℕ) → 2 * R ≤ k * (W + 2) → R ≤ exact_metres E n e d + k
  -- and for the desk: where 2R <= W+2, R is the whole metres of R* or one metre more
  pub one_metre : 2 * R ≤ W + 2 → (R ≡ exact_metres E n e d) ⊎ (R ≡ exact_metres E n e d + 1)

-- W and R of a run of the samples xs, with the transfer energy before the test: its E and each e_c are not negative
pub record NearRun (p : Plan) (xs : List Moment) (before : ℤ) (W R : ℕ) : Type 0 where
  pub whole : ℕ
  pub whole_is : whole_energy before (course_of p) (moment_in xs) (length xs) ≡ pos whole
  pub natural : (c : ℕ) → c < cycles_in p xs → energies p xs c ≡ pos (up (energies p xs c))
  pub near_exact : NearExact whole (cycles_in p xs) (λ c. up (energies p xs c)) (λ c. up (distances p xs c)) W R

-- ---- what must not be answered

-- a claim about W and R, of every closing by the method that is not refused
abbrev pub OfEveryClosing : Method → ((E n : ℕ) → (e d : ℕ → ℕ) → (W R : ℕ) → Type 0) → Type 0
OfEveryClosing y claim =
    (E n : ℕ) (e d : ℕ → ℕ) → closing_refusal (pos E) n (λ c. pos (e c)) (λ c. pos (d c)) (least_finished y) ≡ 0
    → (let W = weighted E n e (rates e d) in claim E n e d W (range E W))

-- each is wrong of some closing
pub record NotClaimed (y : Method) : Type 0 where
  -- with W+1 in place of W+2
  pub not_by_one : OfEveryClosing y (λ E n e d W R. R * W * range_denominator E n e d < exact_range E n e d * (W + 1)) → ⊥
  -- never above the whole metres
  pub not_never_above : OfEveryClosing y (λ E n e d W R. R ≤ exact_metres E n e d) → ⊥
  -- not below the exact range itself, so not below it rounded up
  pub not_rounded_up : OfEveryClosing y (λ E n e d W R. exact_range E n e d ≤ R * range_denominator E n e d) → ⊥
  -- one metre at most, also where 2R is W+3
  pub not_one_metre : OfEveryClosing y (λ E n e d W R. 2 * R ≤ W + 3 → R ≤ exact_metres E n e d + 1) → ⊥
