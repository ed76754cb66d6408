-- How far one sample takes the numbers of ledger and stretches: by what the interval that it closes brings, and its own outside count.
-- Assumes nothing.
use mathlib.Core.Bool.{Bool, true, false, cond}
use mathlib.Core.List.{List}
use mathlib.Core.Path.{◌≡◌, refl}
use Prim.Native.Nat.{ℕ, ◌+◌, ◌*◌, ◌≤◌, ◌<◌}
use native.Mathlib.Omega.{arith}
use lib.Dec.{ltb, eqb}
use lib.IntN.{ℤ, pos, ◌+ℤ◌}
use lib.ListN.{length}
use borrow.Author.Tests.{ltb-true}
use Rattle.numbers.specs.Lists.{plus}
use Rattle.numbers.specs.Whole.{Sized}
use Rattle.numbers.proofs.Whole.{of_nat, weaken, sized_add, sized_plus}
use Rattle.rules.specs.declared.Moment.{Moment}
use Rattle.laws.specs.Beside.{is_moment}
use Rattle.rules.specs.Bench.{most_cycles, most_phases, most_share_energy, most_share_distance}
use Rattle.rules.specs.Course.{row_m, row_e}
use Rattle.rules.specs.Shown.{ledger_numbers}
use Rattle.laws.proofs.Bounds.{within}
use Rattle.ledger.specs.Row.{at, interval_added, outside_added}
use Rattle.ledger.proofs.Rows.{length_interval}
use Rattle.state.specs.declared.Stretch.{Stretch}
use Rattle.state.specs.declared.Stretched.{Stretched}
use Rattle.step.specs.Step.{interval_closed, stretch_with, stretch_closed}
use Rattle.step.specs.Where.{StretchFits}

-- no number of the ledger grows by more than `most_step` with a sample: the interval that it closes, and its own outside count
module _ (n : ℕ) (l : List ℤ) (s : (i : ℕ) → i < ledger_numbers → Sized n (at l i)) where
  pub closed_sized : (r k : ℕ) (y x : Moment) → is_moment y ≡ true → is_moment x ≡ true → k < most_phases
      → (i : ℕ) → i < ledger_numbers → Sized (n + most_share_energy + most_share_distance) (at (interval_closed r k l y x) i)
  unfolding interval_closed interval_added
  closed_sized r k y x hy hx hk i h = go (ltb r most_cycles) refl
    where
      a : ℕ
      a = 9 * r

      e : ℤ
      e = y.energy +ℤ x.energy

      d : ℕ
      d = y.speed + x.speed

      one : r < most_cycles → (j : ℕ) → j < ledger_numbers → Sized (n + most_share_energy) (at (plus l (a + k) e) j)
      one hr j g = sized_plus l (a + k) j (s (a + k) (omega arith)) (s j g) (sized_add (within y hy).energy (within x hx).energy)

      few : d ≤ most_share_distance
      few = omega (arith, (within y hy).speed, (within x hx).speed)

      go : (v : Bool) → ltb r most_cycles ≡ v → Sized (n + most_share_energy + most_share_distance) (at (cond v (plus (plus l (a + k) e) (a + (4 + k)) (pos d)) l) i)
      go true q =
          let hr = ltb-true r most_cycles q in
          sized_plus (plus l (a + k) e) (a + (4 + k)) i (one hr (a + (4 + k)) (omega arith)) (one hr i h) (of_nat few)
      go false q = weaken (omega arith) (s i h)

  pub outside_sized : (a : ℕ) → a + 9 ≤ ledger_numbers → (o : Bool) (i : ℕ) → i < ledger_numbers → Sized (n + 1) (at (outside_added a l o) i)
  outside_sized a ha true i h = sized_plus l (a + 8) i (s (a + 8) (omega arith)) (s i h) (of_nat {m = 1} {n = 1} (omega arith))
  outside_sized a ha false i h = weaken (omega arith) (s i h)

pub length_closed : (r k : ℕ) (l : List ℤ) (y x : Moment) → length (interval_closed r k l y x) ≡ length l
unfolding interval_closed
length_closed r k l y x = go (ltb r most_cycles)
  where
    go : (v : Bool) → length (cond v (interval_added (9 * r) l k y x) l) ≡ length l
    go true = length_interval (9 * r) l k y x
    go false = refl

-- nor does a stretch by more than an interval
pub fits_more : {z : Stretch} {n k : ℕ} → n ≤ k → StretchFits z n → StretchFits z k
fits_more h f = record { energy = weaken (omega arith) f.energy; distance = omega (arith, f.distance) }

module _ (x y : Moment) (hx : is_moment x ≡ true) (hy : is_moment y ≡ true) where
  fits_with : {z : Stretch} {n : ℕ} → StretchFits z n → StretchFits (stretch_with z x y) (n + 1)
  fits_with f = record {
    energy = weaken (omega arith) (sized_add f.energy (sized_add (within x hx).energy (within y hy).energy));
    distance = omega (arith, f.distance, (within x hx).speed, (within y hy).speed);
  }

  -- the one that the interval is of has it, the other stays
  fits_if : (b : Bool) {z : Stretch} {n : ℕ} → StretchFits z n → StretchFits (cond b (stretch_with z x y) z) (n + 1)
  fits_if true f = fits_with f
  fits_if false f = fits_more (omega arith) f

  pub fits_m : (r : ℕ) (z : Stretched) {n : ℕ} → StretchFits z.in_m n → StretchFits (stretch_closed r z x y).in_m (n + 1)
  unfolding stretch_closed
  fits_m r z f = fits_if (eqb r row_m) f

  pub fits_e : (r : ℕ) (z : Stretched) {n : ℕ} → StretchFits z.in_e n → StretchFits (stretch_closed r z x y).in_e (n + 1)
  unfolding stretch_closed
  fits_e r z f = fits_if (eqb r row_e) f
