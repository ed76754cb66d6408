-- Place i of the cycles, laid end to end: what both methods need to know of it.
-- Assumes nothing.
use mathlib.Core.Bool.{Bool, true, false, cond}
use mathlib.Core.List.{List}
use mathlib.Core.Path.{◌≡◌, refl, sym}
use Prim.Native.Nat.{ℕ, suc, ◌-◌, ◌*◌, ◌≤◌, ◌<◌}
use native.Mathlib.Nat.{le_of_lt, div-add-mod', mod-lt}
use native.Mathlib.Omega.{arith}
use borrow.Author.Tests.{ltb-true}
use lib.Dec.{T, ltb, leb→le}
use Rattle.numbers.proofs.Order.{digits}
use Rattle.numbers.proofs.Tests.{not_mono}
use Rattle.rules.specs.declared.Tolerances.{Tolerances}
use Rattle.rules.specs.Cycle.{phases, phase_end, positions, phase_at}
use Rattle.rules.specs.Band.{inside}
use Rattle.rules.specs.Course.{never, after, reached}
use Rattle.rules.specs.Regular.{cycle_of, position_of}
use Rattle.rules.specs.Shortened.{Stand, ride, beside, phase_of, outside_at}
use Rattle.laws.specs.Claims.{Widened}
use Rattle.laws.proofs.Sound.{Sound, real, phase_before, phase_exists}
use Rattle.laws.proofs.Band.{inside_wider}

-- any bytes as the cycle
module _ (b : List ℕ) where
  -- sample j, which stands there, is not at the end of its phase, where phase k ends behind every sample whose position is before its end
  pub ride_phase : (i j : ℕ) (end : ℕ → ℕ) → ((k : ℕ) → position_of b i < 20 * phase_end b k → j < end k)
      → T (reached (cond (ltb (phase_at b (position_of b i)) (phases b)) (after (end (phase_at b (position_of b i)))) never) j) → ⊥
  ride_phase i j end h = go (ltb (phase_at b (position_of b i)) (phases b)) refl
    where
      k : ℕ
      k = phase_at b (position_of b i)

      go : (x : Bool) → ltb k (phases b) ≡ x → T (reached (cond x (after (end k)) never) j) → ⊥
      go true g t = let l = leb→le (end k) j t in omega (arith, h k (phase_before b (position_of b i) k (ltb-true k (phases b) g) refl))
      go false g t = t

  -- the place before it, where it is not its cycle's first
  pub ride_joined : 0 < positions b → (i : ℕ) → cycle_of b (suc i) * positions b ≤ i → cycle_of b i ≡ cycle_of b (suc i)
  ride_joined r i h =
      let q = cycle_of b (suc i) in
      sym (digits i (positions b) q (i - q * positions b) (omega (arith, div-add-mod' (suc i) (positions b), mod-lt (suc i) r)) (omega arith)).1

-- a cycle that breaks no rule
module _ (b : List ℕ) (o : Sound b) where
  pub stand_phase : (x : Stand) → phase_of b x < phases b
  stand_phase (ride i) = phase_exists b (position_of b i) o (mod-lt i (real o))
  stand_phase (beside c) = o.some_phase

  -- what is inside stays inside by wider tolerances
  pub stand_wider : (t t' : Tolerances) → Widened t t' → (x : Stand) (v : ℕ) → T (outside_at b t' x v) → T (outside_at b t x v)
  stand_wider t t' w (ride i) v =
      not_mono (inside b t (position_of b i) v) (inside b t' (position_of b i) v) (inside_wider b t t' _ v w (le_of_lt (mod-lt i (real o))))
  stand_wider t t' w (beside c) v = λ h. h
