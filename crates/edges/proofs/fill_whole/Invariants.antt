-- `edges::fill_whole` ends: each turn leaves fewer bytes to read.
use Rattle.std.proofs.Common.{◌≡◌, ◌≤◌, ◌-◌, length}
use Rattle.edges.proofs.fill_whole.Given as goal

abbrev pub invariant-loop-from : goal.invariant-loop-from
invariant-loop-from l = (l.from ≤ length l.part) × (length l.part ≡ length l.initial.part)

abbrev pub decreases-loop-from : goal.decreases-loop-from
decreases-loop-from l = length l.initial.part - l.from
