-- What the laws of a run ask, of either method.
-- Assumes nothing.
use mathlib.Core.Bool.{true, false}
use mathlib.Core.List.{List}
use mathlib.Core.Path.{◌≡◌, refl}
use Prim.Native.Nat.{ℕ, suc, ◌-◌, ◌*◌, ◌≤◌, ◌<◌}
use native.Mathlib.Nat.{div-add-mod'}
use native.Mathlib.Omega.{arith}
use borrow.Author.Tests.{lt-ltb, lt-leb}
use lib.Dec.{T, eqb, eqb→eq}
use Rattle.numbers.proofs.Tests.{both_T}
use Rattle.rules.specs.declared.Moment.{Moment}
use Rattle.rules.specs.declared.Tolerances.{Tolerances}
use Rattle.rules.specs.declared.Method.{Method}
use Rattle.rules.specs.declared.Method.TheVariants.{Regular as by_cycles, Shortened as with_stretches}
use Rattle.rules.specs.Bench.{most_cycles, most_positions}
use Rattle.rules.specs.Cycle.{phases, positions}
use Rattle.rules.specs.Course.{Share, row_m, row_e, closed}
use Rattle.rules.specs.Parts.{row_part, phase_part, finished}
use Rattle.rules.specs.Regular.{cycle_of, most, regular_layout}
use Rattle.rules.specs.Shortened.{row_of, phase_of, shortened_layout}
use Rattle.rules.specs.Shown.{ledger_numbers, in_bounds, figure}
use Rattle.rules.specs.Plan.{Plan, layout_of, rule_of, course_of}
use Rattle.laws.specs.Beside.{stand_of, place_of}
use Rattle.laws.specs.Claims.{Widened}
use Rattle.laws.proofs.Sound.{Sound, real}
use Rattle.laws.proofs.Facts.{Orderly, LooksBack, Lawful, Wider}
use Rattle.laws.proofs.Gathered.{Ends, closed_most}
use Rattle.laws.proofs.Bounds.{Within, row_places, interval_near, figure_in_bounds}
use Rattle.laws.proofs.Total.{HasNothing, nothing_before}
use Rattle.laws.proofs.Riding.{stand_phase}
use Rattle.laws.proofs.Regular.{regular_rows, regular_orderly, regular_wider, regular_places, regular_phase_ends}
use Rattle.laws.proofs.Shortened.{Stands, rides, in_M, in_E, stands, shortened_phase_ends, shortened_orderly, shortened_places}
use Rattle.laws.proofs.Shortened.{shortened_back, shortened_wider}

-- ---- any bytes as the cycle

module _ (b : List ℕ) where
  planned_back : (t : Tolerances) (y : Method) → LooksBack (rule_of b t y)
  planned_back t by_cycles = record { halts_by = λ v v' j e. refl }
  planned_back t (with_stretches x) = shortened_back b x t

  pub planned_phase_ends : (y : Method) (c k : ℕ) → Ends (phase_part (layout_of b y) c k)
  planned_phase_ends by_cycles = regular_phase_ends b
  planned_phase_ends (with_stretches x) = shortened_phase_ends b x.length

  -- row, phase and position of sample j are those of where it stands
  pub planned_row : (y : Method) (j : ℕ) → (layout_of b y).row j ≡ row_of b (stand_of b y j)
  planned_row by_cycles j = refl
  planned_row (with_stretches x) j = refl

  pub planned_phase : (y : Method) (j : ℕ) → (layout_of b y).phase j ≡ phase_of b (stand_of b y j)
  planned_phase by_cycles j = refl
  planned_phase (with_stretches x) j = refl

  pub begin_first : (y : Method) (j : ℕ) → (layout_of b y).row j < most_cycles → j - (layout_of b y).begin ((layout_of b y).row j) ≡ place_of b (stand_of b y j)
  begin_first by_cycles j h = omega (arith, div-add-mod' j (positions b))
  begin_first (with_stretches x) j h = go (stands b x.length j) h
    where
      go : Stands b x.length j → (shortened_layout b x.length).row j < most_cycles
          → j - (shortened_layout b x.length).begin ((shortened_layout b x.length).row j) ≡ place_of b (stand_of b (with_stretches x) j)
      go (rides i e r c q) h = rw (e, lt-ltb (cycle_of b i) 4 c) (omega (arith, div-add-mod' i (positions b)))
      go (in_M e g f) h = absurd (let z : row_m < most_cycles = rw e at h in omega arith)
      go (in_E e g) h = absurd (let z : row_e < most_cycles = rw e at h in omega arith)

pub planned_lawful : (p : Plan) → Lawful (course_of p)
planned_lawful p = record { back = planned_back p.cycle p.tolerances p.method; near = interval_near }

-- ---- a cycle that breaks no rule

module _ (b : List ℕ) (o : Sound b) where
  pub planned_orderly : (y : Method) → Orderly (layout_of b y)
  planned_orderly by_cycles = regular_orderly b o
  planned_orderly (with_stretches x) = shortened_orderly b x.length o

  pub planned_wider : (y : Method) (t t' : Tolerances) → Widened t t' → Wider (rule_of b t y) (rule_of b t' y)
  planned_wider by_cycles = regular_wider b o
  planned_wider (with_stretches x) = shortened_wider b x o

  pub planned_places : (y : Method) (c k : ℕ) → c < most_cycles → row_places (layout_of b y) c k ≤ most_positions
  planned_places by_cycles c k h = regular_places b o c k
  planned_places (with_stretches x) c k h = shortened_places b x.length o c k h

  -- "Phases that do not exist hold 0.": no sample is of one
  pub planned_no_such_phase : (y : Method) (c k : ℕ) → phases b ≤ k → (j : ℕ) → 0 ≤ j → T ((phase_part (layout_of b y) c k).of j) → ⊥
  planned_no_such_phase y c k h j _ t =
      let e = eqb→eq ((layout_of b y).phase j) k (both_T (eqb ((layout_of b y).row j) c) _ t).1 in
      omega (arith, planned_phase b y j, stand_phase b o (stand_of b y j))

  -- by the regular method no sample that can count stands in a stretch, so that it has nothing
  pub no_stretch_lem : (c : ℕ) → most_cycles ≤ c → (j : ℕ) → j < most b → T ((row_part (regular_layout b) c).of j) → ⊥
  no_stretch_lem c h j l t = omega (arith, regular_rows b o j l, eqb→eq (cycle_of b j) c t)

  pub regular_stretches_none : (h : Share) (s : ℕ → Moment) (c k : ℕ) → most_cycles ≤ c → k ≤ most b
      → HasNothing h s (row_part (regular_layout b) c) k
  regular_stretches_none h s c k g l = nothing_before h s (row_part (regular_layout b) c) k (λ j q. no_stretch_lem c g j (omega arith))

-- "E never as a finished one": a shortened run's has no end, and a regular run is over before there could be one
pub e_never_finished : (p : Plan) → Sound p.cycle → (s : ℕ → Moment) (n : ℕ)
    → finished (row_part (layout_of p.cycle p.method) row_e) (closed (course_of p) s n) ≡ false
e_never_finished p o s n = go p.method (closed_most (course_of p) s n)
  where
    go : (y : Method) {k : ℕ} → k ≤ (layout_of p.cycle y).most → finished (row_part (layout_of p.cycle y) row_e) k ≡ false
    go by_cycles {k} l = lt-leb (suc row_e * positions p.cycle) k (omega (arith, real o))
    go (with_stretches x) l = refl

pub planned_in_bounds : (p : Plan) → Sound p.cycle → (s : ℕ → Moment) (n : ℕ) → ((j : ℕ) → j < n → Within (s j))
    → (i : ℕ) → i < ledger_numbers → in_bounds i (figure (course_of p) s n i) ≡ true
planned_in_bounds p o s n limits =
    figure_in_bounds (layout_of p.cycle p.method) (rule_of p.cycle p.tolerances p.method) s n limits (planned_places p.cycle o p.method)
