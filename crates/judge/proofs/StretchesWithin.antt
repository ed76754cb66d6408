-- What a run has of its stretches is within the state's limits, and nothing before a stretch begins.
-- Assumes nothing.
use mathlib.Core.Bool.{Bool, true, false, not, cond, ◌||◌}
use mathlib.Core.List.{List}
use mathlib.Core.Path.{◌≡◌, refl}
use Prim.Native.Nat.{ℕ, ◌*◌, ◌≤◌, ◌<◌}
use native.Mathlib.Omega.{arith}
use borrow.Author.Tests.{le-leb, ltb-false}
use lib.Dec.{T, leb, ltb, eqb}
use Rattle.numbers.proofs.Firsts.{first_before}
use Rattle.numbers.proofs.Whole.{between_sized}
use Rattle.rules.specs.declared.Moment.{Moment}
use Rattle.rules.specs.declared.Method.{Method}
use Rattle.rules.specs.declared.Method.TheVariants.{Regular as by_cycles, Shortened as with_stretches}
use Rattle.rules.specs.declared.Stretches.{Stretches}
use Rattle.rules.specs.declared.Tolerances.{Tolerances}
use Rattle.rules.specs.Bench.{most_offered}
use Rattle.rules.specs.Cycle.{positions}
use Rattle.rules.specs.Course.{row_m, row_e, Course, course, stops_at, counted, closed}
use Rattle.rules.specs.Parts.{row_part}
use Rattle.rules.specs.Regular.{interval}
use Rattle.rules.specs.Shortened.{joint, most_below, stops_in_e}
use Rattle.rules.specs.Plan.{plan, layout_of, rule_of, course_of}
use Rattle.rules.specs.Shown.{most_stretch_energy}
use Rattle.rules.specs.Tally.{room}
use Rattle.laws.proofs.Bounds.{Within, stretch_energy_most, stretch_distance_most}
use Rattle.laws.proofs.Gathered.{closed_most}
use Rattle.laws.proofs.Plans.{regular_stretches_none}
use Rattle.laws.proofs.ShortenedRun.{before_M, before_E}
use Rattle.laws.proofs.Sound.{Sound}
use Rattle.laws.proofs.Total.{HasNothing}
use Rattle.laws.proofs.Watch.{watch_before, watch_most}
use Rattle.laws.specs.Beside.{watch}
use Rattle.state.specs.State.{is_stretch, are_stretched, stretched_by}
use Rattle.step.specs.Step.{stretch_of, stretched_of}
use Rattle.judge.proofs.Played.{progress_of}

-- a stretch that has nothing, and one that is within its limits
nothing : (c : Course) (s : ℕ → Moment) (r m : ℕ) → HasNothing c.share s (row_part c.layout r) m → is_stretch false (stretch_of c s r m) ≡ true
nothing c s r m h = rw (h.no_distance, h.no_energy)

module _ (b : List ℕ) (t : Tolerances) (y : Method) (s : ℕ → Moment) (n : ℕ) (limits : (j : ℕ) → j < n → Within (s j)) (few : n ≤ most_offered) where
  abbrev c : Course
  c = course (layout_of b y) (rule_of b t y) interval

  fits : (r : ℕ) → is_stretch true (stretch_of c s r (closed c s n)) ≡ true
  fits r =
      rw (
        le-leb _ _ (stretch_distance_most (layout_of b y) (rule_of b t y) s n limits few r),
        between_sized most_stretch_energy _ (stretch_energy_most (layout_of b y) (rule_of b t y) s n limits few r),
      )

  -- where begun says whether one of its intervals is closed
  either : (r : ℕ) (begun : Bool) → (begun ≡ false → HasNothing interval s (row_part (layout_of b y) r) (closed c s n)) → is_stretch begun (stretch_of c s r (closed c s n)) ≡ true
  either r true h = fits r
  either r false h = nothing c s r (closed c s n) (h refl)

-- no sample that is counted has stopped the run
module _ (b : List ℕ) (t : Tolerances) (x : Stretches) (s : ℕ → Moment) (n : ℕ) where
  abbrev short : Course
  short = course_of (plan b t (with_stretches x))

  not_stopped : (j : ℕ) → j < counted short s n → stops_in_e (joint b x.length 4) x.speed t.speed (λ i. (s i).speed) j ≡ false
  not_stopped j l = go _ _ (first_before (stops_at short s) (room most_offered n) j l)
    where
      go : (u v : Bool) → T (not (u || v)) → u ≡ false
      go true v h = absurd h
      go false v h = refl

  watched : (begun : Bool) → (begun ≡ false → counted short s n ≤ joint b x.length 4)
      → cond begun (leb (watch (joint b x.length 4) x.speed t.speed (λ i. (s i).speed) (counted short s n)) most_below)
      (eqb (watch (joint b x.length 4) x.speed t.speed (λ i. (s i).speed) (counted short s n)) 0) ≡ true
  watched true h = le-leb _ _ (watch_most (joint b x.length 4) x.speed t.speed (λ i. (s i).speed) (counted short s n) not_stopped)
  watched false h = rw (watch_before (joint b x.length 4) x.speed t.speed (λ i. (s i).speed) (counted short s n) (h refl))

module _ (b : List ℕ) (o : Sound b) (t : Tolerances) (s : ℕ → Moment) (n : ℕ) (limits : (j : ℕ) → j < n → Within (s j)) (few : n ≤ most_offered) where
  pub stretched_is : (y : Method)
      → stretched_by y (positions b) (progress_of (course_of (plan b t y)) s n)
      (stretched_of (plan b t y) s (closed (course_of (plan b t y)) s n) (counted (course_of (plan b t y)) s n)) ≡ true
  unfolding are_stretched
  stretched_is by_cycles =
      let c = course_of (plan b t by_cycles) in
      let k = closed_most c s n in
      rw (
        nothing c s row_m (closed c s n) (regular_stretches_none b o interval s row_m (closed c s n) (omega arith) k),
        nothing c s row_e (closed c s n) (regular_stretches_none b o interval s row_e (closed c s n) (omega arith) k),
      )
  stretched_is (with_stretches x) =
      let y = with_stretches x in
      let c = course_of (plan b t y) in
      rw (
        either b t y s n limits few row_m (ltb (2 * positions b) (closed c s n)) (λ e. before_M b x.length interval s (closed c s n) (ltb-false _ _ e)),
        either b t y s n limits few row_e (ltb (joint b x.length 4) (closed c s n)) (λ e. before_E b x.length interval s (closed c s n) (ltb-false _ _ e)),
        watched b t x s n (ltb (joint b x.length 4) (counted c s n)) (λ e. ltb-false _ _ e),
      )
