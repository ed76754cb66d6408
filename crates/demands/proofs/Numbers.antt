-- The number of what is said: by the number of a refusal, and along a chain of refusals.
-- Assumes nothing.
use mathlib.Core.Bool.{Bool, true, false, cond}
use mathlib.Core.Path.{◌≡◌, refl}
use Prim.Native.Nat.{ℕ}
use Rattle.rules.specs.Words.{unless}

-- along a chain of refusals
pub unless_number : {A : Type 0} (number : A → ℕ) (refusal : A) (t : Bool) (rest : A) → number (unless refusal t rest) ≡ unless (number refusal) t (number rest)
unfolding unless
unless_number number refusal true rest = refl
unless_number number refusal false rest = refl

-- what holds of the number of each answer in a chain of refusals holds of the number of the chain
module _ (P : ℕ → Type 0) {A : Type 0} (number : A → ℕ) where
  pub along : {x : A} (t : Bool) {rest : A} → P (number x) → P (number rest) → P (number (unless x t rest))
  unfolding unless
  along true h g = g
  along false h g = h

  pub either : (t : Bool) (x y : A) → P (number x) → P (number y) → P (number (cond t x y))
  either true x y h g = h
  either false x y h g = g
