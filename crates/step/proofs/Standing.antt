-- Where a run of a sound cycle stands, and where it stands after one sample more.
-- Assumes nothing.
use mathlib.Core.Bool.{Bool, true, false, cond}
use mathlib.Core.List.{List}
use mathlib.Core.Path.{◌≡◌, refl, sym, ap, ap₂, ◌∙◌}
use Prim.Native.Nat.{ℕ, ◌+◌, ◌-◌, ◌*◌, ◌<◌, min}
use native.Mathlib.Nat.{mod-lt, div-add-mod', div-lt_iff_lt-mul, mul-le-mul_right}
use native.Mathlib.Numerals.{add-one}
use native.Mathlib.Omega.{arith}
use borrow.Author.Tests.{ne_eqb}
use lib.Dec.{eqb}
use Rattle.numbers.proofs.Order.{digits}
use Rattle.rules.specs.declared.Method.{Method}
use Rattle.rules.specs.declared.Method.TheVariants.{Regular as by_cycles, Shortened as with_stretches}
use Rattle.rules.specs.Bench.{most_positions, most_phases, most_cycles}
use Rattle.rules.specs.Cycle.{positions, phase_end, phase_at}
use Rattle.rules.specs.Course.{row_m, row_e, Layout}
use Rattle.rules.specs.Regular.{cycle_of, position_of}
use Rattle.rules.specs.Shortened.{Stand, ride, beside, row_of, phase_of}
use Rattle.rules.specs.Plan.{layout_of}
use Rattle.laws.specs.Beside.{stand_of, place_of}
use Rattle.laws.proofs.Plans.{planned_row, planned_phase, planned_orderly, begin_first}
use Rattle.laws.proofs.Shortened.{Joints, before_two, at_M, behind_M, at_E, joints, stand_early, stand_M, stand_late, stand_E}
use Rattle.laws.proofs.Sound.{Sound, real, ends_within, phase_exists, phase_first, phase_stays}
use Rattle.window.specs.declared.Window.{Window}
use Rattle.window.specs.Moving.{window_of}
use Rattle.window.proofs.Moves.{shifts}
use Rattle.step.specs.Step.{open_row, open_phase}
use Rattle.step.specs.Where.{Going, until_at, standing}

-- ---- a place

module _ (b : List ℕ) (o : Sound b) where
  pub place_small : (x : Stand) → place_of b x < positions b
  place_small (ride i) = mod-lt i (real o)
  place_small (beside c) = real o

  pub place_phase : (x : Stand) → phase_of b x ≡ phase_at b (place_of b x)
  place_phase (ride i) = refl
  place_phase (beside c) = sym (phase_first b o)

  -- after one sample more: within the cycle, and to the next cycle
  module _ (n : ℕ) (h : position_of b n + 1 < positions b) where
    within : (position_of b n + 1 ≡ position_of b (n + 1)) × (cycle_of b n ≡ cycle_of b (n + 1))
    within = let e = div-add-mod' n (positions b) in digits (n + 1) (positions b) (cycle_of b n) (position_of b n + 1) h (omega arith)

    pub same_cycle : cycle_of b n ≡ cycle_of b (n + 1)
    same_cycle = within.1

    pub next_position : position_of b n + 1 ≡ position_of b (n + 1)
    next_position = within.0

-- ---- a sample that stands in a cycle

-- sample n is place i of the cycles, and the one behind it the next place, while the cycle lasts
pub record Riding (b : List ℕ) (y : Method) (n : ℕ) : Type 0 where
  pub place : ℕ
  pub is : stand_of b y n ≡ ride place
  pub next : position_of b place + 1 < positions b → stand_of b y (n + 1) ≡ ride (place + 1)

module _ (b : List ℕ) (o : Sound b) where
  -- a place of the cycles before k of them is, and the next is before them too
  before_cycles : (k i : ℕ) → i < k * positions b → position_of b i + 1 < positions b → i + 1 < k * positions b
  before_cycles k i l h =
      let c : cycle_of b i < k = (div-lt_iff_lt-mul (real o)).1 l in
      omega (arith, mul-le-mul_right (positions b) c, div-add-mod' i (positions b))

  pub riding : (y : Method) (n : ℕ) → row_of b (stand_of b y n) < most_cycles → Riding b y n
  riding by_cycles n h = record { place = n; is = refl; next = λ g. refl }
  riding (with_stretches x) n h = go (joints b x.length n)
    where
      go : Joints b x.length n → Riding b (with_stretches x) n
      go (before_two l) = record {
        place = n;
        is = stand_early b x.length n l;
        next = λ g. stand_early b x.length (n + 1) (before_cycles 2 n l g);
      }
      go (at_M l g) = absurd (let e : row_m < most_cycles = rw (stand_M b x.length n l g) at h in omega arith)
      go (behind_M l g) = record {
        place = n - x.length;
        is = stand_late b x.length n l g;
        next = λ f.
            let k = before_cycles 4 (n - x.length) (omega arith) f in
            stand_late b x.length (n + 1) (omega arith) (omega arith) ∙ ap ride (omega arith);
      }
      go (at_E l) = absurd (let e : row_e < most_cycles = rw (stand_E b x.length n l) at h in omega arith)

-- the row and phase of the sample that was counted last are those of the open interval
module _ (l : Layout) (n : ℕ) where
  back : n + 1 - 1 ≡ n
  back = omega arith

  pub open_next_row : open_row l (n + 1) ≡ l.row n
  open_next_row = rw (ne_eqb (n + 1) 0 (λ e. omega arith)) (ap l.row back)

  pub open_next_phase : open_phase l (n + 1) ≡ l.phase n
  open_next_phase = rw (ne_eqb (n + 1) 0 (λ e. omega arith)) (ap l.phase back)

pub open_small : (b : List ℕ) (o : Sound b) (y : Method) (n : ℕ) → open_phase (layout_of b y) n < most_phases
open_small b o y n = go (eqb n 0)
  where
    go : (x : Bool) → cond x 0 ((layout_of b y).phase (n - 1)) < most_phases
    go true = omega arith
    go false = (planned_orderly b o y).few_phases (n - 1)

-- ---- where a run stands

module _ (b : List ℕ) (o : Sound b) (w : ℕ) (y : Method) (g : Going) (stands : g ≡ standing b w y g.progress) where
  abbrev here : Stand
  here = stand_of b y g.progress.counted

  pub position_is : g.position ≡ place_of b (stand_of b y g.progress.counted)
  position_is = ap (λ (z : Going). z.position) stands

  pub row_is : g.row ≡ row_of b (stand_of b y g.progress.counted)
  row_is = ap (λ (z : Going). z.row) stands

  pub phase_is : g.phase ≡ phase_of b (stand_of b y g.progress.counted)
  phase_is = ap (λ (z : Going). z.phase) stands

  pub window_is : g.window ≡ window_of b w (place_of b (stand_of b y g.progress.counted))
  window_is = ap (λ (z : Going). z.window) stands

  pub until_is : g.until ≡ until_at b w (place_of b (stand_of b y g.progress.counted))
  until_is = ap (λ (z : Going). z.until) stands

  pub open_row_is : g.open_row ≡ open_row (layout_of b y) g.progress.counted
  open_row_is = ap (λ (z : Going). z.open_row) stands

  pub open_phase_is : g.open_phase ≡ open_phase (layout_of b y) g.progress.counted
  open_phase_is = ap (λ (z : Going). z.open_phase) stands

  -- as the course of such a plan has it
  pub row_in : g.row ≡ (layout_of b y).row g.progress.counted
  row_in = row_is ∙ sym (planned_row b y g.progress.counted)

  pub phase_in : g.phase ≡ (layout_of b y).phase g.progress.counted
  phase_in = phase_is ∙ sym (planned_phase b y g.progress.counted)

  pub position_in : g.row < most_cycles → g.position ≡ g.progress.counted - (layout_of b y).begin ((layout_of b y).row g.progress.counted)
  position_in h = position_is ∙ sym (begin_first b y g.progress.counted (rw (← row_in) h))

  pub position_small : g.position < positions b
  position_small = rw position_is (place_small b o here)

  pub position_most : g.position < most_positions
  position_most = omega (arith, position_small, o.short)

  pub rides : g.row < most_cycles → Riding b y g.progress.counted
  rides h = riding b o y g.progress.counted (rw (← row_is) h)

  pub open_phase_small : g.open_phase < most_phases
  open_phase_small = rw open_phase_is (open_small b o y g.progress.counted)

-- while only the ends of the window move
module _ (b : List ℕ) (o : Sound b) (w p : ℕ) (small : p < positions b) (h : p + 1 < until_at b w p) where
  phase_goes_on : p + 1 < 20 * phase_end b (phase_at b p)
  phase_goes_on = omega arith

  pub near_positions : p + 1 < positions b
  near_positions = omega (arith, phase_goes_on, ends_within o (phase_at b p) (phase_exists b p o small))

  pub same_phase : phase_at b p ≡ phase_at b (p + 1)
  same_phase = rw add-one (sym (phase_stays b o p (omega (arith, near_positions)) (omega (arith, phase_goes_on))))

  pub later : p + 1 < (window_of b w p).until
  later = omega arith

  pub same_until : until_at b w p ≡ until_at b w (p + 1)
  same_until =
      ap₂ min (sym (ap (λ (x : Window). x.until) (shifts b o w p near_positions later))) (ap (λ (k : ℕ). 20 * phase_end b k) same_phase)
