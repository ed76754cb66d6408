-- "Its verdict is the judge's.": the bench controller's answer to a position and a speed, against what the judge does with such a sample.
-- Assumes nothing.
use mathlib.Core.Bool.{true, not}
use mathlib.Core.List.{List, [], ◌∷◌, ◌++◌}
use mathlib.Core.Path.{◌≡◌, refl, sym, ap, ◌∙◌}
use Prim.Native.Nat.{ℕ, suc, ◌+◌, ◌≤◌, ◌<◌}
use native.Mathlib.Nat.{le_refl, le_of_lt, div-lt_iff_lt-mul}
use native.Mathlib.Numerals.{add-one}
use native.Mathlib.Omega.{arith}
use lib.Dec.{T, leb, eqb}
use lib.IntN.{ℤ, pos}
use lib.ListN.{length, length-append}
use lib.Seq.{get_or-append_seam}
use borrow.Author.Tests.{eq-eqb, lt-ltb, le-leb, leb-true}
use Rattle.laws.specs.Answers.{answer_said}
use Rattle.numbers.proofs.Tests.{both, pass}
use Rattle.rules.specs.declared.End.TheVariants.{None as none}
use Rattle.rules.specs.declared.Method.{Method}
use Rattle.rules.specs.declared.Method.TheVariants.{Regular as by_cycles, Shortened as with_stretches}
use Rattle.rules.specs.declared.Moment.{Moment}
use Rattle.rules.specs.declared.Tolerances.{Tolerances}
use Rattle.rules.specs.Bench.{tolerable, moment_of, no_moment, most_speed, most_speed_tolerance, most_time_tolerance, most_allowance, most_cycles, most_positions, most_offered}
use Rattle.rules.specs.Cycle.{valid, positions}
use Rattle.rules.specs.Band.{inside, verdict}
use Rattle.rules.specs.Course.{Course, stops_at, counted, judged}
use Rattle.rules.specs.Regular.{moment_in}
use Rattle.rules.specs.Shortened.{Stand, row_of, outside_at}
use Rattle.rules.specs.Plan.{Plan, layout_of, rule_of, course_of}
use Rattle.rules.specs.Shown.{marked}
use Rattle.rules.specs.Question.{question}
use Rattle.laws.specs.Beside.{is_moment, is_open, below, above, stand_of, place_of}
use Rattle.laws.proofs.Facts.{Lawful}
use Rattle.laws.proofs.Answers.{was_given}
use Rattle.laws.proofs.Band.{verdict_inside, verdict_below, verdict_above, verdict_zero}
use Rattle.laws.proofs.Bounds.{sample_moment}
use Rattle.laws.proofs.Longer.{same_samples, counted_longer}
use Rattle.laws.proofs.Maps.{shown_cycle}
use Rattle.laws.proofs.Next.{Going, going}
use Rattle.laws.proofs.Plans.{planned_row, begin_first, planned_lawful, planned_orderly}
use Rattle.laws.proofs.Sound.{Sound, sound, real}
use Rattle.laws.proofs.Tally.{counted_le, next_judged}
use Rattle.state.specs.declared.Run.{Run}
use Rattle.step.proofs.Standing.{Riding, place_small, riding}
use Rattle.state.proofs.Checked.{Startable, start_passed}
use Rattle.blocks.proofs.Accepted.{one_accepted}
use Rattle.judge.proofs.Runs.{in_order}
use Rattle.demands.specs.Demand2.{VerdictIsTheJudges}
use Rattle.demands.specs.Runs.{Driven, takes, sample_in}
use Rattle.demands.proofs.Driven.{driven_reached, sample_kept}
use Rattle.demands.proofs.OfRun.{run_shows}

-- a question about a cycle, tolerances, position and speed within their limits
module _ (b : List ℕ) (t : Tolerances) (p v : ℕ) (good : valid b ≡ true) (tolerated : tolerable t ≡ true) (there : p < positions b) (low : v ≤ most_speed) where
  answered : question b t p v ≡ pos (verdict b t p v)
  unfolding question
  answered = sym (pass _ good (pass _ tolerated (pass _ (lt-ltb p (positions b) there) (pass _ (le-leb v most_speed low) refl))))

  pub answers_inside : T (inside b t p v) → question b t p v ≡ pos 0
  answers_inside h = answered ∙ ap pos (verdict_inside b t p v h)

  pub answers_below : T (below b t p v) → question b t p v ≡ pos 1
  answers_below h = answered ∙ ap pos (verdict_below b t p v h)

  pub answers_above : T (above b t p v) → question b t p v ≡ pos 2
  answers_above h = answered ∙ ap pos (verdict_above b t p v (le_of_lt there) h)

-- ---- a sample that stands in a cycle

-- it is judged at its position; and it can count
module _ (b : List ℕ) where
  out_here : (t : Tolerances) (y : Method) (n : ℕ) → Riding b y n → (v : ℕ) → (rule_of b t y).outside n v ≡ not (inside b t (place_of b (stand_of b y n)) v)
  out_here t y n k v = by y ∙ ap (λ (x : Stand). outside_at b t x v) k.is ∙ ap (λ (x : Stand). not (inside b t (place_of b x) v)) (sym k.is)
    where
      by : (y : Method) → (rule_of b t y).outside n v ≡ outside_at b t (stand_of b y n) v
      by by_cycles = refl
      by (with_stretches x) = refl

  few_here : Sound b → (y : Method) (n : ℕ) → row_of b (stand_of b y n) < most_cycles → n < most_offered → n < (layout_of b y).most
  few_here o by_cycles n row few = (div-lt_iff_lt-mul {x = n} {y = most_cycles} (real o)).0 row
  few_here o (with_stretches x) n row few = few

-- ---- over calls that keep the contracts

module _ {p : Plan} {l₀ : List ℤ} {m₀ : List ℕ} {xs : List Moment} {r : Run} {l : List ℤ} {m : List ℕ} (h : Driven p l₀ m₀ xs r l m) where
  abbrev b : List ℕ
  b = p.cycle

  abbrev n : ℕ
  n = length xs

  abbrev y : Course
  y = course_of p

  abbrev here : ℕ
  here = place_of b (stand_of b p.method n)

  startable : Startable b p.tolerances p.method l₀ m₀
  startable = start_passed b p.tolerances p.method l₀ m₀ (in_order p l₀ m₀ (driven_reached p l₀ m₀ h)).begun

  tolerated : tolerable p.tolerances ≡ true
  unfolding tolerable
  tolerated =
      let t = p.tolerances in
      let k = startable.tolerated in
      rw (le-leb t.speed most_speed_tolerance k.speed, le-leb t.time most_time_tolerance k.time, le-leb t.allowance most_allowance k.allowance)

  sound_cycle : Sound b
  sound_cycle = sound b startable.sound

  lawful : Lawful y
  lawful = planned_lawful p

  there : here < positions b
  there = place_small b sound_cycle (stand_of b p.method n)

  -- the run goes on, and a sample x stands behind the others, in a cycle
  module _ (goes_on : r.progress.end ≡ none) (row : row_of b (stand_of b p.method n) < most_cycles) (few : n < y.layout.most) (x : Moment) where
    abbrev s' : ℕ → Moment
    s' = moment_in (xs ++ x ∷ [])

    goes : Going y lawful.near.soon (moment_in xs) n
    goes = going y lawful.near.soon (moment_in xs) n (ap is_open (sym (run_shows h).state_shows.2 ∙ goes_on))

    -- it is judged
    all_counted : counted y s' n ≡ n
    all_counted =
        let more = counted_longer y lawful (moment_in xs) s' n n (le_refl n) (same_samples xs (x ∷ [])) in
        let most = (counted_le (stops_at y s') y.layout.most n).0 in
        omega (arith, goes.all)

    judged_too : judged y s' (length (xs ++ x ∷ [])) ≡ suc n
    judged_too = ap (judged y s') (length-append xs (x ∷ []) ∙ add-one n) ∙ next_judged (stops_at y s') y.layout.most n all_counted few

    -- and marked as the band has it
    is_marked : marked y s' (suc n) here ≡ not (eqb (verdict b p.tolerances here x.speed) 0)
    unfolding marked
    is_marked =
        let in_row : y.layout.row n < most_cycles = rw (planned_row b p.method n) row in
        let at : y.layout.begin (y.layout.row n) + here ≡ n =
        omega (arith, begin_first b p.method n in_row, (planned_orderly b sound_cycle p.method).begun n) in
        rw (shown_cycle y.layout n in_row, at, eq-eqb (y.layout.row n) (y.layout.row n) refl, lt-ltb n (suc n) (le_refl (suc n)))
        (out_here b p.tolerances p.method n (riding b sound_cycle p.method n row) _
        ∙ ap (λ (z : Moment). not (inside b p.tolerances here z.speed)) (get_or-append_seam xs x [] no_moment)
        ∙ ap not (sym (verdict_zero b p.tolerances here x.speed)))

  pub verdict_is_the_judges : VerdictIsTheJudges p l₀ m₀ xs r l m
  unfolding is_moment
  verdict_is_the_judges c on r' e goes_on row q asked =
      let x = sample_in c in
      let z = (was_given _ _ r' (sym (sample_kept c on).answer ∙ ap answer_said e)).0 in
      let taken = one_accepted r b l m x z in
      let ok = taken.sample in
      let few = few_here b sound_cycle p.method n row (omega (arith, taken.room, (run_shows h).state_shows.0)) in
      let low : x.speed ≤ most_speed = leb-true x.speed most_speed (moment_low (moment_of x) (sample_moment x ok)) in
      let after = run_shows (takes h c on e) in
      let small : here < most_positions = omega (arith, there, sound_cycle.short) in (
        q.kept ∙ (λ j. question (asked.cycle j) (asked.tolerances j) (asked.position j) (asked.speed j))
            ∙ answered b p.tolerances here x.speed startable.sound tolerated there low,
        after.map_shows here small ∙ ap (λ (k : ℕ). marked y (s' goes_on row few (moment_of x)) k here) (judged_too goes_on row few (moment_of x)) ∙ is_marked goes_on row few (moment_of x),
      )
    where
      moment_low : (z : Moment) → is_moment z ≡ true → leb z.speed most_speed ≡ true
      moment_low z f = (both (leb z.speed most_speed) _ f).0
