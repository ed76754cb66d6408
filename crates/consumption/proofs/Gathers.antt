-- What the tests of a closing tell: of one pass over a ledger, that it gathers what the rules ask for; of what passes the tests up to 12, that W is neither
-- 0 nor over; and what the closing by the rules then says.
-- Assumes nothing.
use mathlib.Core.Bool.{Bool, true, false, ◌&&◌}
use mathlib.Core.List.{List}
use mathlib.Core.Path.{◌≡◌, refl, sym, ap, ap₂, ◌∙◌}
use Prim.Native.Nat.{ℕ, ◌+◌, ◌-◌, ◌*◌, ◌≤◌, ◌<◌}
use native.Mathlib.Nat.{mul-le-mul_right, zero-add}
use native.Mathlib.Numerals.{add-one}
use native.Mathlib.Omega.{arith}
use borrow.Author.Tests.{le-leb}
use lib.Dec.{leb}
use lib.IntN.{ℤ, pos, ◌+ℤ◌}
use lib.Signed.{le_z, lt_z}
use Rattle.rules.specs.Words.{fold, sum, sumℤ, all_below, unless, up}
use Rattle.numbers.specs.Whole.{down}
use Rattle.numbers.proofs.Range.{fold_more, fold_same}
use Rattle.numbers.proofs.Sums.{sum_most, sum_pos}
use Rattle.numbers.proofs.Tests.{all_at, all_by_lem, pass}
use Rattle.numbers.proofs.Whole.{sum_is, le_up, up_le}
use Rattle.rules.specs.Closing.{Charge, most_rate, is_rate, rate_of, weighing, weighted_figure, range_figure, closing_refusal, closing_figures, closing_by}
use Rattle.laws.specs.Beside.{most_whole}
use Rattle.laws.specs.Answers.{Said, gives, refuses, or_refused, Figured, figured_said, closing_said}
use Rattle.laws.proofs.Answers.{closing_or}
use Rattle.laws.proofs.Weighing.{greatest_rate, weighted_at_least_one}
use Rattle.rules.specs.Bench.{most_cycles}
use Rattle.ledger.specs.Row.{bounded, energy_in, distance_in}
use Rattle.ledger.proofs.Bounded.{energy_sized}
use Rattle.consumption.specs.Figures.{gathered_in, weighed_by, Weighable, finished_by}
use Rattle.consumption.proofs.Weights.{Positive, positive, most_drawn, drawn_up, rate_within, moved_at, energy_most, rate_most}

-- ---- one pass

-- one cycle more, of sums from the third on and of tests
from_third : (f : ℕ → ℕ) (c : ℕ) → 2 ≤ c → sum (λ k. f (2 + k)) (c - 2) + f c ≡ sum (λ k. f (2 + k)) (c + 1 - 2)
from_third f c h =
    let at : c ≡ 2 + (c - 2) = omega arith in
    let next : c - 2 + 1 ≡ c + 1 - 2 = omega arith in
    ap (λ (x : ℕ). sum (λ k. f (2 + k)) (c - 2) + f x) at
    ∙ sym (fold_more ◌+◌ 0 (λ k. f (2 + k)) (c - 2))
    ∙ ap (sum (λ k. f (2 + k))) next

all_next : (c : ℕ) (f : ℕ → Bool) → all_below (c + 1) f ≡ (all_below c f && f c)
unfolding all_below
all_next c f = rw add-one

module _ (l : List ℤ) where
  abbrev q : ℕ → ℕ
  q = rate_of (energy_in l) (distance_in l)

  -- what the code forms of the first two cycles, and with one more
  pub rates_two : 0 ≡ (gathered_in l 2).rates
  unfolding fold
  rates_two = refl

  pub energy_two : up (energy_in l 0) + up (energy_in l 1) ≡ (gathered_in l 2).energy
  unfolding fold
  energy_two = ap (λ (x : ℕ). x + up (energy_in l 1)) (sym (zero-add (up (energy_in l 0))))

  pub drawn_two : (leb 1 (up (energy_in l 0)) && leb 1 (up (energy_in l 1))) ≡ (gathered_in l 2).drawn
  unfolding all_below
  drawn_two = ap₂ ◌&&◌ (drawn_up (energy_in l 0)) (drawn_up (energy_in l 1))

  pub rated_two : (is_rate (q 0) && is_rate (q 1)) ≡ (gathered_in l 2).rated
  unfolding all_below
  rated_two = refl

  module _ (c : ℕ) (h : 2 ≤ c) where
    pub rates_more : (gathered_in l c).rates + q c ≡ (gathered_in l (c + 1)).rates
    rates_more = from_third q c h

    pub energy_more : (gathered_in l c).energy + up (energy_in l c) ≡ (gathered_in l (c + 1)).energy
    energy_more = sym (fold_more ◌+◌ 0 (λ k. up (energy_in l k)) c)

    pub drawn_more : ((gathered_in l c).drawn && leb 1 (up (energy_in l c))) ≡ (gathered_in l (c + 1)).drawn
    drawn_more =
        ap (λ (t : Bool). all_below c (λ k. le_z (pos 1) (energy_in l k)) && t) (drawn_up (energy_in l c))
        ∙ sym (all_next c (λ k. le_z (pos 1) (energy_in l k)))

    pub rated_more : ((gathered_in l c).rated && is_rate (q c)) ≡ (gathered_in l (c + 1)).rated
    rated_more = sym (all_next c (λ k. is_rate (q k)))

  -- nothing of it is large
  module _ (b : bounded l ≡ true) (n : ℕ) (h : n ≤ most_cycles) where
    pub gathered_energy_most : (gathered_in l n).energy ≤ most_cycles * most_drawn
    gathered_energy_most =
        omega (arith, mul-le-mul_right most_drawn h, sum_most most_drawn (λ c. up (energy_in l c)) n (λ c k. energy_most l b c (omega arith)))

    pub gathered_rates_most : (gathered_in l n).rates ≤ most_cycles * (100 * most_drawn)
    gathered_rates_most =
        let few : n - 2 ≤ most_cycles = omega arith in
        omega (arith, mul-le-mul_right (100 * most_drawn) few, sum_most (100 * most_drawn) (λ c. q (2 + c)) (n - 2) (λ c k. rate_most l b (2 + c) (omega arith)))

-- ---- where no rule up to 12 is broken

-- what the tests up to 12 leave of a ledger
pub record Tested (l : List ℤ) (n : ℕ) (E : ℤ) : Type 0 where
  pub bounded : bounded l ≡ true
  pub most : n ≤ most_cycles
  pub three : 3 ≤ n
  pub drawn : all_below n (λ c. le_z (pos 1) (energy_in l c)) ≡ true
  pub fits : le_z (energy_in l 0 +ℤ energy_in l 1) E ≡ true
  pub rated : all_below n (λ c. is_rate (rate_of (energy_in l) (distance_in l) c)) ≡ true

-- each energy is a natural number, and so is their sum
module _ (l : List ℤ) (n : ℕ) (b : bounded l ≡ true) (few : n ≤ most_cycles) (drawn : all_below n (λ c. le_z (pos 1) (energy_in l c)) ≡ true) where
  pub energy_at : (c : ℕ) → c < n → Positive most_drawn (energy_in l c)
  energy_at c h = positive most_drawn (energy_in l c) (energy_sized l b c (omega arith)) (all_at n (λ k. le_z (pos 1) (energy_in l k)) drawn c h)

  pub finished_energy : pos (gathered_in l n).energy ≡ sumℤ (energy_in l) n
  finished_energy = sym (sum_pos (λ c. up (energy_in l c)) n) ∙ fold_same ◌+ℤ◌ (pos 0) _ _ n (λ c h. (energy_at c h).is)

module _ {l : List ℤ} {n : ℕ} {E : ℤ} (g : Tested l n E) where
  abbrev e : ℕ → ℤ
  e = energy_in l

  abbrev d : ℕ → ℤ
  d = distance_in l

  first : Positive most_drawn (e 0)
  first = energy_at l n g.bounded g.most g.drawn 0 (omega (arith, g.three))

  second : Positive most_drawn (e 1)
  second = energy_at l n g.bounded g.most g.drawn 1 (omega (arith, g.three))

  rate_at : (c : ℕ) → c < n → (1 ≤ rate_of e d c) × (rate_of e d c ≤ most_rate)
  rate_at c h = rate_within _ (all_at n (λ k. is_rate (rate_of e d k)) g.rated c h)

  parts : up (e 0) + up (e 1) + down E ≤ up E
  parts = omega (arith, le_up (e 0 +ℤ e 1) E g.fits, sum_is (e 0) (e 1), ap down (sym first.is), ap down (sym second.is))

  above : 1 + down E ≤ up E
  above = omega (arith, parts, first.least)

  pub some : le_z (pos 1) E ≡ true
  some = up_le (pos 1) E (omega (arith, above))

  pub moved : all_below n (λ c. lt_z (pos 0) (d c)) ≡ true
  moved = all_by_lem n (λ c. lt_z (pos 0) (d c)) (λ c h. moved_at (e c) (d c) (all_at n (λ k. is_rate (rate_of e d k)) g.rated c h))

  -- W, by the rules
  pub weighed_is : weighed_by (gathered_in l n) n (up E) ≡ weighted_figure E n e d
  unfolding weighing
  weighed_is = refl

  pub weighable : up E ≤ most_whole → Weighable (gathered_in l n) n (up E)
  weighable small = record {
    three = g.three;
    most = g.most;
    some = omega (arith, above);
    small = small;
    parts = omega (arith, parts);
    first = (rate_at 0 (omega (arith, g.three))).1;
    second = (rate_at 1 (omega (arith, g.three))).1;
    least = rw weighed_is (weighted_at_least_one (up E) n (λ c. up (e c)) (rate_of e d) (omega (arith, parts)) (omega (arith, above)) g.three (λ c h. (rate_at c h).0));
    greatest = rw weighed_is (greatest_rate (up E) n (λ c. up (e c)) (rate_of e d) (omega (arith, parts)) (omega (arith, above)) g.three most_rate (λ c h. (rate_at c h).1));
  }

  -- only 13 is left to refuse
  pub only_range : (asked : ℕ) → asked ≤ n → closing_refusal E n e d asked ≡ unless 13 (leb 1 (range_figure E n e d)) 0
  unfolding closing_refusal
  only_range asked h = sym (pass 10 (le-leb asked n h) (pass 11 g.drawn (pass 11 g.fits (pass 12 moved (pass 12 g.rated refl)))))

-- ---- the answer

-- 13 as an answer, or as a number
unless_13 : (t : Bool) (x : Said Figured) → unless (refuses 13) t x ≡ or_refused (unless 13 t 0) x
unfolding unless
unless_13 true x = refl
unless_13 false x = refl

-- what the code finishes is what the closing by the rules says, of a method that asks for no more cycles than are finished
pub finished_is : {l : List ℤ} {n : ℕ} {E : ℤ} → Tested l n E → (F : ℤ) (asked : ℕ) → asked ≤ n → (charge : Charge)
    → finished_by (gathered_in l n) n E F charge ≡ closing_said (closing_by E n (energy_in l) (distance_in l) F asked charge)
unfolding finished_by weighing
finished_is {l} {n} {E} g F asked h charge =
    let e = energy_in l in
    let d = distance_in l in
    let figures = closing_figures E n e d F charge in
    unless_13 (leb 1 (range_figure E n e d)) (gives (figured_said figures))
    ∙ ap (λ (k : ℕ). or_refused k (gives (figured_said figures))) (sym (only_range g asked h))
    ∙ sym (closing_or (closing_refusal E n e d asked) figures)
