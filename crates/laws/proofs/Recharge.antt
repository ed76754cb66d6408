-- The recharge figure in two divisions, neither of which sees the whole product.
-- Assumes nothing.
use mathlib.Core.Path.{◌≡◌, ap, sym, ◌∙◌}
use Prim.Native.Nat.{ℕ, ◌+◌, ◌*◌, ◌/◌, ◌%◌, ◌≤◌, ◌<◌}
use native.Mathlib.Nat.{add-mul-div_right, div-add-mod', div-div-eq-div-mul, div-le_of_le-mul, le_of_lt, mod-lt, mul_comm, mul-le-mul_right}
use native.Mathlib.Omega.{arith}
use Rattle.rules.specs.Closing.{recharge}

module _ (E A r : ℕ) (moved : 0 < r) where
  -- the first division, by the range r: the remainder of E by r is divided, its quotient is only multiplied
  pub by_parts : E % r * (A * 1000000) / r + E / r * (A * 1000000) ≡ E * A * 1000000 / r
  by_parts =
      let y = A * 1000000 in
      let whole : E % r * y + E / r * y * r ≡ E * A * 1000000 = omega (arith, ap (λ (t : ℕ). t * y) (div-add-mod' E r)) in
      sym (add-mul-div_right (E % r * y) (E / r * y) moved) ∙ ap (λ (t : ℕ). t / r) whole

  -- the divided part stays small
  pub part_small : E % r * (A * 1000000) / r ≤ A * 1000000
  part_small = div-le_of_le-mul r (mul-le-mul_right (A * 1000000) (le_of_lt (mod-lt E moved)))

-- the second division, by EF, leaves the recharge figure
pub twice : (E EF A r : ℕ) → E * A * 1000000 / r / EF ≡ recharge E EF A r
twice E EF A r = div-div-eq-div-mul (E * A * 1000000) r EF ∙ ap (λ (t : ℕ). E * A * 1000000 / t) (mul_comm r EF)
