-- What a row of the test card says, and whether it holds of the definitions.
-- Assumes nothing.
use Rattle.std.specs.Prelude.{Some, None, Ok, Err, Bool, true, false, not, cond, ◌&&◌, List, [], ◌∷◌, ℕ, ◌+◌, ◌-◌, ◌*◌, ltb, eqb, ℤ, pos, length, get_or}
use Rattle.rules.specs.Words.{bit, every, first, eq_z, same_bytes}
use Rattle.rules.specs.Bench.{Moment, Tolerances, with_stretches, End, none, stop, limit, drawn}
use Rattle.rules.specs.Cycle.{valid}
use Rattle.rules.specs.Band.{inside}
use Rattle.rules.specs.Question.{question}
use Rattle.rules.specs.Course.{Layout, Course, course, row_m, row_e, closed_where, ending_where, outside, counted, judged}
use Rattle.rules.specs.Parts.{row_part, phase_part, finished, cycles, part_energy, part_distance}
use Rattle.rules.specs.Regular.{interval, position_of, regular_layout, regular_rule, regular}
use Rattle.rules.specs.Plan.{plan, course_of}
use Rattle.rules.specs.Shown.{shown_row}
use Rattle.rules.specs.Closing.{Charge, absent, Figure, Absent, ClosingAnswer, Closed, Refused, weighted, together, closing_by}
use Rattle.rules.specs.Exact.{exact_range, range_denominator, exact_metres}

abbrev pub same_end : End → End → Bool
same_end none none = true
same_end none stop = false
same_end none limit = false
same_end stop none = false
same_end stop stop = true
same_end stop limit = false
same_end limit none = false
same_end limit stop = false
same_end limit limit = true

-- three points below 256, and the bytes of the cycle that they make: T = 2, one phase
pub record Points : Type 0 where
  pub a : ℕ
  pub b : ℕ
  pub c : ℕ

abbrev pub points : ℕ → ℕ → ℕ → Points
points a b c = record { a = a; b = b; c = c }

abbrev pub bytes : Points → List ℕ
bytes p = 1 ∷ 0 ∷ 2 ∷ 0 ∷ p.a ∷ 0 ∷ p.b ∷ 0 ∷ p.c ∷ []

tolerances : ℕ → ℕ → ℕ → Tolerances
tolerances s w a = record { speed = s; time = w; allowance = a }

abbrev pub moment : ℕ → ℤ → Moment
moment v e = record { speed = v; energy = e }

-- samples of speed 100 before sample j, and of speed 131 from it on
fast_from : ℕ → ℕ → Moment
fast_from j i = moment (cond (ltb i j) 100 131) (pos 0)

-- so many samples of such a speed, one leg after another; each draws 720,000
pub record Leg : Type 0 where
  pub samples : ℕ
  pub speed : ℕ

abbrev pub leg : ℕ → ℕ → Leg
leg k v = record { samples = k; speed = v }

offered : List Leg → ℕ
offered [] = 0
offered (x ∷ xs) = x.samples + offered xs

speed_at : List Leg → ℕ → ℕ
speed_at [] j = 0
speed_at (x ∷ xs) j = let r = speed_at xs (j - x.samples) in cond (ltb j x.samples) x.speed r

driven : List Leg → ℕ → Moment
driven xs j = moment (speed_at xs j) (pos 720_000)

pub data Row : Type 0 where
  -- sample j of a run (so at position j mod 40), time and speed tolerance: the speeds that are inside, and those that are not
  band : Points → ℕ → ℕ → ℕ → List ℕ → List ℕ → Row
  -- points all 100, speed 131 from sample j on, n samples offered, speed tolerance and allowance:
  -- the end, the samples counted, the intervals closed, the cycles finished, the outside counts of the first three cycles
  drive : ℕ → ℕ → ℕ → ℕ → End → ℕ → ℕ → ℕ → List ℕ → Row
  -- voltage, current: the energy drawn
  draws : ℕ → ℤ → ℤ → Row
  -- two neighbouring samples: energy and distance of the interval between them
  joins : Moment → Moment → ℤ → ℕ → Row
  -- E, the first two energies, the rates: W, of as many cycles as there are rates
  weighs : ℕ → ℕ → ℕ → ℕ → List ℕ → ℕ → Row
  -- how many finished cycles the method asks for, E, the energies and the distances of those finished, F, the recharge: the closing
  closes : ℕ → ℤ → List ℤ → List ℤ → ℤ → Charge → ClosingAnswer → Row
  -- how many finished cycles the method asks for, E, the energies and the distances of those finished: W and R as the closing has them; R*, a numerator and
  -- a denominator; its whole metres; the least a for which R × W < R* × (W+a)
  exact : ℕ → ℕ → List ℕ → List ℕ → ℕ → ℕ → ℕ → ℕ → ℕ → ℕ → Row
  -- how many samples can count, n offered, m counted: the intervals closed, the end
  shuts : ℕ → ℕ → ℕ → ℕ → End → Row
  -- a cycle of two phases, one second each; sample j draws j at the speed 10 j, so that k intervals bring k² and 10 k² in all:
  -- cycle c, phase k of it, m intervals closed: the phase's energy, whether it is finished
  gathers : ℕ → ℕ → ℕ → ℕ → Bool → Row
  -- by the shortened method, points all 100, speed tolerance 30, time tolerance 0, allowance 3: M's length, E's set speed, what is driven; the end,
  -- the samples counted, the intervals closed, the cycles finished, the outside counts of the four cycles, the cycle that the map shows (from 0);
  -- the intervals closed in M, whether M is finished, the intervals closed in E
  short : ℕ → ℕ → List Leg → End → ℕ → ℕ → ℕ → List ℕ → ℕ → ℕ → Bool → ℕ → Row
  -- the cycle's bytes, speed and time tolerance, position, speed: what the bench controller is answered
  asks : List ℕ → ℕ → ℕ → ℕ → ℕ → ℤ → Row

-- a course of which so many samples can count, and the layout of a cycle with two phases
limited : ℕ → Course
limited most =
    let l = regular_layout [] in
    course (record { row = l.row; phase = l.phase; begin = l.begin; row_end = l.row_end; phase_end = l.phase_end; most = most })
    (regular_rule [] (record { speed = 0; time = 0; allowance = 0 })) interval

two_phases : Layout
two_phases = regular_layout (2 ∷ 0 ∷ 1 ∷ 0 ∷ 2 ∷ 0 ∷ 0 ∷ 0 ∷ 0 ∷ 0 ∷ 0 ∷ [])

same : Bool → Bool → Bool
same x y = cond x y (not y)

-- a closing, as numbers of which the first of each says the case
figure_numbers : Figure → List ℕ
figure_numbers (Ok (Some x)) = 1 ∷ x ∷ []
figure_numbers (Ok None) = 2 ∷ []
figure_numbers (Err n) = 3 ∷ n ∷ []

numbers_of : ClosingAnswer → List ℕ
numbers_of (Closed x) = 1 ∷ x.weighted ∷ x.range ∷ figure_numbers x.recharge
numbers_of (Refused n) = 2 ∷ n ∷ []

unfoldable pub holds : Row → Bool
unfolding tolerances offered speed_at driven fast_from limited two_phases same figure_numbers numbers_of
holds (band q j w s in-speeds out-speeds) =
    let y = bytes q in
    let test = inside y (tolerances s w 0) (position_of y j) in
    valid y && every test in-speeds && every (λ v. not (test v)) out-speeds
holds (drive j n s a e m k c os) =
    let y = regular (bytes (record { a = 100; b = 100; c = 100 })) (tolerances s 20 a) in
    let x = fast_from j in
    let o : ℕ → Bool = λ r. eqb (outside y x r (judged y x n)) (get_or os r 0) in
    eqb (counted y x n) m && eqb (closed_where y n m) k && same_end (ending_where y n m) e && eqb (cycles y.layout k) c && o 0 && o 1 && o 2
holds (draws u i z) = eq_z (drawn (record { speed = 0; voltage = u; current = i })) z
holds (joins x y e d) =
    let s : ℕ → Moment = λ j. cond (eqb j 0) x y in
    eq_z (interval.energy s 0) e && eqb (interval.distance s 0) d
holds (weighs E e₁ e₂ n qs W) = eqb (weighted E n (λ c. get_or (e₁ ∷ e₂ ∷ []) c 0) (λ c. get_or qs c 0)) W
holds (closes asked E es ds F charge x) =
    let answer = closing_by E (length es) (λ c. get_or es c (pos 0)) (λ c. get_or ds c (pos 0)) F asked charge in
    same_bytes 5 (numbers_of answer) (numbers_of x)
holds (exact asked E es ds W R top bottom metres a) =
    let n = length es in
    let e : ℕ → ℕ = λ c. get_or es c 0 in
    let d : ℕ → ℕ = λ c. get_or ds c 0 in
    let answer = closing_by (pos E) n (λ c. pos (e c)) (λ c. pos (d c)) (pos 0) asked absent in
    let is_under : ℕ → Bool = λ b. ltb (R * W * range_denominator E n e d) (exact_range E n e d * (W + b)) in
    same_bytes 5 (numbers_of answer) (numbers_of (Closed (together W R Absent)))
    && eqb (exact_range E n e d * bottom) (top * range_denominator E n e d) && eqb (exact_metres E n e d) metres && eqb (first is_under 3) a
holds (shuts most n m k e) = let c = limited most in eqb (closed_where c n m) k && same_end (ending_where c n m) e
holds (gathers c k m e done) =
    let p = phase_part two_phases c k in
    let s : ℕ → Moment = λ j. moment (10 * j) (pos j) in
    eq_z (part_energy interval s p m) (pos e) && eqb (part_distance interval s p m) (10 * e) && same (finished p m) done
holds (short m u xs e k j c os r in_m done in_e) =
    let b = bytes (record { a = 100; b = 100; c = 100 }) in
    let y = course_of (plan b (tolerances 30 0 3) (with_stretches (record { length = m; speed = u }))) in
    let x = driven xs in
    let n = offered xs in
    let l = k + bit (same_end e stop) in
    let o : ℕ → Bool = λ q. eqb (outside y x q l) (get_or os q 0) in
    let closed_in : ℕ → ℤ = λ q. part_energy interval x (row_part y.layout q) j in
    eqb (counted y x n) k && eqb (closed_where y n k) j && same_end (ending_where y n k) e && eqb (cycles y.layout j) c
    && o 0 && o 1 && o 2 && o 3 && eqb (shown_row y.layout l) r
    && eq_z (closed_in row_m) (pos (1_440_000 * in_m)) && same (finished (row_part y.layout row_m) j) done && eq_z (closed_in row_e) (pos (1_440_000 * in_e))
holds (asks y s w p v z) = eq_z (question y (tolerances s w 0) p v) z
