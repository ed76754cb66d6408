-- What a rate is formed of: numbers from 1 on, as the machine tests and casts them.
-- Assumes nothing.
use mathlib.Core.Path.{◌≡◌, refl, sym, subst}
use mathlib.Core.Bool.{Bool, true, ◌&&◌, false≢true}
use Prim.Native.Nat.{◌^◌, ◌≤◌, ◌<◌}
use native.Mathlib.Omega.{arith}
use borrow.Author.Tests.{leb-true}
use lib.Dec.{T}
use lib.IntN.{ℤ, pos, negsuc, nat_abs}
use lib.Signed.{le_z, non_neg}
use mir.Syntax.{w64}
use mir.Val.{SFits, Fits, to_z, of_z}
use Rattle.numbers.proofs.Signed.{read, sized_fits}
use Rattle.numbers.proofs.Tests.{both}
use Rattle.rules.specs.Words.{up}

-- the machine's reading y of z, cast to a number without sign
pub record Cast (y z : ℤ) : Type 0 where
  pub fits : T (non_neg y) × Fits w64 (nat_abs y)
  pub is : nat_abs y ≡ up z
  pub size : nat_abs y ≡ nat_abs z
  pub some : 0 < nat_abs y

pub cast : (z : ℤ) → SFits w64 z → le_z (pos 1) z ≡ true → Cast (to_z w64 (of_z w64 z)) z
cast z fits e = subst (λ (y : ℤ). Cast y z) (sym (read fits)) (go z (sized_fits fits).size e)
  where
    go : (z : ℤ) → nat_abs z ≤ 2 ^ 63 → le_z (pos 1) z ≡ true → Cast z z
    go (pos m) s h = record { fits = (tt, record { fits = omega arith }); is = refl; size = refl; some = leb-true 1 m h }
    go (negsuc m) s h = absurd (false≢true h)

-- what the three tests of a rate say of the two numbers
pub record Tested (e d : ℤ) : Type 0 where
  pub energy : le_z (pos 1) e ≡ true
  pub distance : le_z (pos 1) d ≡ true

pub tested : (f : Bool) (e d : ℤ) → (f && le_z (pos 1) e && le_z (pos 1) d) ≡ true → Tested e d
tested f e d h =
    let (first, last) = both (f && le_z (pos 1) e) (le_z (pos 1) d) h in
    record { energy = (both f (le_z (pos 1) e) first).1; distance = last }
