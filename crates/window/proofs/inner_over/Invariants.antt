-- `window::inner_over` meets its contract. The loop's invariant: `low` and `high` are the least and the greatest over the i seconds after second j.
use mathlib.Core.Path.{◌≡◌}
use Prim.Native.Nat.{◌+◌, ◌*◌, min, max}
use Rattle.rules.specs.Words.{fold}
use Rattle.rules.specs.Cycle.{point}
use Rattle.window.proofs.inner_over.Given as goal

abbrev pub invariant-loop-i : goal.invariant-loop-i
invariant-loop-i l = (l.low ≡ fold min 30000 (λ i'. 20 * point l.cycle (l.j + 1 + i')) l.i) × (l.high ≡ fold max 0 (λ i'. 20 * point l.cycle (l.j + 1 + i')) l.i)
