-- `edges::put` ends: each turn leaves fewer bytes to write.
use Rattle.std.proofs.Common.{◌≤◌, length}
use Rattle.edges.proofs.put.Given as goal

abbrev pub invariant-loop-rest : goal.invariant-loop-rest
invariant-loop-rest g l = length l.rest ≤ length l.text

abbrev pub decreases-loop-rest : goal.decreases-loop-rest
decreases-loop-rest g l = length l.rest
