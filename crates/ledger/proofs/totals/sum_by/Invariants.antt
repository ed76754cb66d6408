-- `ledger::totals::sum_by` meets its contract. The loop's invariant: the sum is that of the numbers passed.
use mathlib.Core.List.{List}
use mathlib.Core.Path.{◌≡◌}
use Prim.Native.Nat.{ℕ, ◌+◌, ◌*◌}
use lib.IntN.{ℤ}
use Rattle.rules.specs.Words.{sumℤ}
use Rattle.ledger.specs.Row.{at}
use Rattle.ledger.proofs.totals.sum_by.Given as goal

-- the numbers from place a on, by strides of d
abbrev pub from : List ℤ → ℕ → ℕ → ℕ → ℤ
from l a d k = at l (a + d * k)

abbrev pub invariant-loop-k : goal.invariant-loop-k
invariant-loop-k l = l.sum ≡ sumℤ (from l.ledger l.a l.d) l.k
