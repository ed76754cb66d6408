-- The regular method is a course that has the facts, and wider tolerances make a wider rule.
-- Assumes nothing.
use mathlib.Core.Bool.{Bool, not}
use mathlib.Core.List.{List}
use mathlib.Core.Logic.{⊎_elim}
use mathlib.Core.Path.{◌≡◌, refl}
use Prim.Native.Nat.{ℕ, zero, suc, ◌+◌, ◌-◌, ◌*◌, ◌/◌, ◌≤◌, ◌<◌}
use native.Mathlib.Nat.{le_antisymm, mul-le-mul_right, div-lt_iff_lt-mul, div-add-mod', mod-lt}
use native.Mathlib.Omega.{arith}
use borrow.Author.Tests.{lt-leb}
use lib.Dec.{T, leb, leb→le, nleb→lt}
use Rattle.rules.specs.Words.{fold, first}
use Rattle.numbers.proofs.Order.{side, digits}
use Rattle.numbers.proofs.Firsts.{first_le, first_at, first_least}
use Rattle.rules.specs.declared.Tolerances.{Tolerances}
use Rattle.rules.specs.Bench.{most_cycles, most_positions}
use Rattle.rules.specs.Cycle.{phase_end, positions}
use Rattle.rules.specs.Course.{reached}
use Rattle.rules.specs.Parts.{phase_part, cycles}
use Rattle.rules.specs.Regular.{cycle_of, most, regular_layout, regular_rule}
use Rattle.rules.specs.Shortened.{ride}
use Rattle.rules.specs.Shown.{shown_row}
use Rattle.laws.proofs.Sound.{Sound, real}
use Rattle.laws.specs.Claims.{Widened}
use Rattle.laws.proofs.Facts.{Orderly, Wider}
use Rattle.laws.proofs.Bounds.{row_places, places_row}
use Rattle.laws.proofs.Maps.{shown_cycle}
use Rattle.laws.proofs.Gathered.{Ends, phase_ends_by}
use Rattle.laws.proofs.Riding.{ride_phase, ride_joined, stand_phase, stand_wider}

-- any bytes as the cycle: a sample stands before the end of its phase
module _ (b : List ℕ) where
  phase_not_past : (j : ℕ) → T (reached ((regular_layout b).phase_end (cycle_of b j) ((regular_layout b).phase j)) j) → ⊥
  phase_not_past j = ride_phase b j j (λ k. cycle_of b j * positions b + 20 * phase_end b k) (λ k l. omega (arith, div-add-mod' j (positions b)))

  pub regular_phase_ends : (c k : ℕ) → Ends (phase_part (regular_layout b) c k)
  regular_phase_ends = phase_ends_by (regular_layout b) phase_not_past

-- a cycle that breaks no rule
module _ (b : List ℕ) (o : Sound b) where
  -- no sample that can count stands in M or in E
  pub regular_rows : (j : ℕ) → j < most b → cycle_of b j < most_cycles
  regular_rows j l = (div-lt_iff_lt-mul {x = j} {y = most_cycles} (real o)).1 l

  pub regular_orderly : Orderly (regular_layout b)
  regular_orderly = record {
    begun = λ j. omega (arith, div-add-mod' j (positions b));
    row_open = λ j t. omega (arith, leb→le (suc (cycle_of b j) * positions b) j t, div-add-mod' j (positions b), mod-lt j (real o));
    phase_open = phase_not_past b;
    few_rows = λ j l. omega (arith, regular_rows j l);
    few_phases = λ j. omega (arith, stand_phase b o (ride j), o.few_phases);
    joined = ride_joined b (real o);
  }

  pub regular_wider : (t t' : Tolerances) → Widened t t' → Wider (regular_rule b t) (regular_rule b t')
  regular_wider t t' w = record { outside = λ j. stand_wider b o t t' w (ride j); allowance = w.allowance; halts = λ v j h. h }

  -- a cycle has no more samples than the longest
  pub regular_places : (c m : ℕ) → row_places (regular_layout b) c m ≤ most_positions
  regular_places c m = omega (arith, places_row regular_orderly c (suc c * positions b) m refl, o.short)

  -- the cycle last judged is that of the last of the samples judged
  pub shown_last : (j : ℕ) → j ≤ (regular_layout b).most → shown_row (regular_layout b) j ≡ cycle_of b (j - 1)
  unfolding fold shown_row
  shown_last zero h = (digits 0 (positions b) 0 0 (real o) (omega arith)).1
  shown_last (suc j) h =
      let e : suc j - 1 ≡ j = omega arith in
      rw e (shown_cycle (regular_layout b) j (regular_rows j h))

  -- as many cycles are finished as the shares closed make
  pub regular_cycles : (m : ℕ) → m ≤ (regular_layout b).most → cycles (regular_layout b) m ≡ m / positions b
  unfolding cycles
  regular_cycles m l = le_antisymm (⊎_elim upper (λ g. omega (arith, first_le test most_cycles)) (side (suc q) most_cycles)) (⊎_elim (λ h. h) lower (side q (first test most_cycles)))
    where
      test : ℕ → Bool
      test c = not (leb (suc c * positions b) m)

      q : ℕ
      q = m / positions b

      few : q < most_cycles + 1
      few = (div-lt_iff_lt-mul (real o)).1 (omega (arith, real o))

      upper : suc q ≤ most_cycles → first test most_cycles ≤ q
      upper h =
          let g : m < suc q * positions b = omega (arith, div-add-mod' m (positions b), mod-lt m (real o)) in
          first_least test most_cycles q (rw (lt-leb (suc q * positions b) m g) tt)

      lower : first test most_cycles < q → q ≤ first test most_cycles
      lower h =
          let g = nleb→lt (suc (first test most_cycles) * positions b) m (first_at test most_cycles (omega (arith, few))) in
          omega (arith, mul-le-mul_right (positions b) h, div-add-mod' m (positions b))
