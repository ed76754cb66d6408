-- What the bounds of the ledger's 576 numbers say of each, and of their sums.
-- Assumes nothing.
use mathlib.Core.Path.{◌≡◌, sym, ap, ◌∙◌}
use mathlib.Core.Bool.{Bool, true, false, cond}
use mathlib.Core.List.{List}
use Prim.Native.Nat.{ℕ, ◌+◌, ◌-◌, ◌*◌, ◌%◌, ◌≤◌, ◌<◌}
use native.Mathlib.Omega.{arith}
use borrow.Author.Tests.{leb-true, le-leb, lt-ltb, le-ltb}
use lib.Dec.{leb, ltb, lit≤}
use lib.IntN.{ℤ, pos, neg_ℤ, ◌+ℤ◌}
use lib.ListN.{length}
use Rattle.rules.specs.Words.{sumℤ, between}
use Rattle.numbers.specs.Whole.{Sized}
use Rattle.numbers.proofs.Range.{fold_split, sum_ℤ}
use Rattle.numbers.proofs.Sums.{sized_sum}
use Rattle.numbers.proofs.Tests.{both, all_at, all_by_lem}
use Rattle.numbers.proofs.Whole.{weaken, sized_between, sized_upto}
use Rattle.rules.specs.Shown.{in_bounds, most_energy, most_distance, most_outside, ledger_numbers}
use Rattle.rules.specs.Bench.{most_phases, most_cycles}
use Rattle.ledger.specs.Row.{at, bounded, energy_in, distance_in, energy_from, energy_all}

-- by its place among the nine: a distance
bounds_distance : (i : ℕ) (z : ℤ) → 4 ≤ i % 9 → i % 9 < 8 → in_bounds i z ≡ between (pos 0) (pos most_distance) z
unfolding in_bounds
bounds_distance i z h g = rw (le-ltb (i % 9) 4 h, lt-ltb (i % 9) 8 g)

in_bounds_sized : (i : ℕ) (z : ℤ) → in_bounds i z ≡ true → Sized most_energy z
unfolding in_bounds
in_bounds_sized i z = go (ltb (i % 9) 4) (ltb (i % 9) 8)
  where
    go : (x y : Bool)
        → cond x (between (neg_ℤ (pos most_energy)) (pos most_energy) z)
        (cond y (between (pos 0) (pos most_distance) z) (between (pos 0) (pos most_outside) z))
        ≡ true
        → Sized most_energy z
    go true y e = sized_between most_energy z e
    go false true e = weaken (lit≤ tt) (sized_upto most_distance z e)
    go false false e = weaken (lit≤ tt) (sized_upto most_outside z e)

pub bounded_by : (l : List ℤ) → ledger_numbers ≤ length l → ((i : ℕ) → i < ledger_numbers → in_bounds i (at l i) ≡ true) → bounded l ≡ true
unfolding bounded
bounded_by l h g = rw (le-leb ledger_numbers (length l) h) (all_by_lem ledger_numbers (λ i. in_bounds i (at l i)) g)

module _ (l : List ℤ) (b : bounded l ≡ true) where
  pub bounded_long : ledger_numbers ≤ length l
  unfolding bounded
  bounded_long = leb-true ledger_numbers (length l) (both (leb ledger_numbers (length l)) _ b).0

  module _ (i : ℕ) (h : i < ledger_numbers) where
    pub bounded_at : in_bounds i (at l i) ≡ true
    unfolding bounded
    bounded_at = all_at ledger_numbers (λ j. in_bounds j (at l j)) (both (leb ledger_numbers (length l)) _ b).1 i h

    pub bounded_sized : Sized most_energy (at l i)
    bounded_sized = in_bounds_sized i (at l i) bounded_at

  -- the sums of a cycle
  module _ (c : ℕ) (h : c < most_cycles) where
    pub energy_sized : Sized (most_phases * most_energy) (energy_in l c)
    energy_sized = sized_sum most_energy (λ k. at l (9 * c + k)) most_phases (λ k g. bounded_sized (9 * c + k) (omega arith))

    pub distance_sized : Sized (most_phases * most_distance) (distance_in l c)
    distance_sized =
        sized_sum most_distance (λ k. at l (9 * c + 4 + k)) most_phases
        (λ k g.
        let i = 9 * c + 4 + k in
        let place : i % 9 ≡ 4 + k = omega arith in
        sized_upto most_distance (at l i) (sym (bounds_distance i (at l i) (omega arith) (omega arith)) ∙ bounded_at i (omega arith)))

  -- and of all cycles
  pub energy_all_sized : Sized (most_cycles * (most_phases * most_energy)) (energy_all l)
  energy_all_sized = sized_sum (most_phases * most_energy) (energy_in l) most_cycles energy_sized

-- the first n cycles with those from n on
pub energy_split : (l : List ℤ) (n : ℕ) → n ≤ most_cycles → sumℤ (energy_in l) n +ℤ energy_from l n ≡ energy_all l
energy_split l n h =
    let all : n + (most_cycles - n) ≡ most_cycles = omega arith in
    sym (fold_split ◌+ℤ◌ (pos 0) sum_ℤ (energy_in l) n (most_cycles - n)) ∙ ap (sumℤ (energy_in l)) all
