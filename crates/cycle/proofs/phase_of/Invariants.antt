-- `cycle::phase_of` meets its contract. The loop's invariant: position p lies in no phase before phase k.
use Prim.Native.Nat.{◌≤◌}
use Rattle.rules.specs.Cycle.{phase_at}
use Rattle.cycle.proofs.phase_of.Given as goal

abbrev pub invariant-loop-k : goal.invariant-loop-k
invariant-loop-k l = l.k ≤ phase_at l.cycle l.p
