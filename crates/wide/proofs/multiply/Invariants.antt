-- `wide::multiply` meets its contract. The invariant: what is summed and what is still to add make the whole. Assumes nothing.
use mathlib.Core.Path.{◌≡◌}
use Prim.Native.Nat.{◌+◌, ◌*◌, ◌<◌}
use Rattle.wide.specs.Ratio.{value}
use Rattle.wide.proofs.multiply.Given as goal

abbrev pub invariant-loop-left : goal.invariant-loop-left
invariant-loop-left l = (l.acc.r < l.m) × (l.step.r < l.m) × (value l.acc l.m + value l.step l.m * l.left ≡ value l.initial.acc l.m + l.x * l.y)

abbrev pub decreases-loop-left : goal.decreases-loop-left
decreases-loop-left l = l.left
