-- `ledger::totals::energy_from` meets its contract. The loop's invariant: the sum is that of the cycles from a up to c.
use mathlib.Core.List.{List}
use mathlib.Core.Path.{◌≡◌}
use Prim.Native.Nat.{ℕ, ◌+◌, ◌-◌}
use lib.IntN.{ℤ}
use Rattle.rules.specs.Words.{sumℤ}
use Rattle.ledger.specs.Row.{energy_in}
use Rattle.ledger.proofs.totals.energy_from.Given as goal

-- the energies of the cycles from a on
abbrev pub from : List ℤ → ℕ → ℕ → ℤ
from l a k = energy_in l (a + k)

abbrev pub invariant-loop-c : goal.invariant-loop-c
invariant-loop-c l = l.sum ≡ sumℤ (from l.ledger l.a) (l.c - l.a)
