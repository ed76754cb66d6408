-- Integers within bounds.
-- Assumes nothing.
use Rattle.std.specs.Prelude.{List, ℕ, suc, ◌≤◌, ℤ, pos, negsuc, nat_abs, get_or}

abbrev pub down : ℤ → ℕ
down (pos n) = 0
down (negsuc n) = suc n

-- z lies within n either way
pub record Sized (n : ℕ) (z : ℤ) : Type 0 where
  pub size : nat_abs z ≤ n

-- so does every number of l
abbrev pub Small : ℕ → List ℤ → Type 0
Small n l = (k : ℕ) → Sized n (get_or l k (pos 0))
