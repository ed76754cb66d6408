-- The first k of n equal elements, lent: k of them.
-- Assumes nothing.
use mathlib.Core.Path.{◌≡◌, sym}
use Prim.Native.Nat.{ℕ, ◌≤◌}
use native.Mathlib.Omega.{arith}
use lib.ListN.{length, take, replicate, length-replicate}
use lib.Seq.{length-take-le}

pub lent : {A : Type 0} (n : ℕ) (z : A) (k : ℕ) → k ≤ n → k ≡ length (take k (replicate n z))
lent n z k h = sym (length-take-le k (replicate n z) (omega (arith, length-replicate n z)))
