-- `consumption::gathering::gather_cycles` meets its contract. The loop's invariant: what is gathered is that of the cycles passed.
use mathlib.Core.Path.{◌≡◌}
use Rattle.consumption.specs.Figures.{gathered_in}
use Rattle.consumption.proofs.gathering.gather_cycles.Given as goal

abbrev pub invariant-loop-c : goal.invariant-loop-c
invariant-loop-c l = l.g ≡ gathered_in l.ledger l.c
