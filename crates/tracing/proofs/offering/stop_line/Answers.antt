-- `tracing::offering::stop_line` meets its contract.
use native.Mathlib.Omega.{arith}
use Rattle.sheet.proofs.Overlaid.{nothing, wrote_most}
use Rattle.tracing.proofs.offering.stop_line.Goals as goal

pub returns-in-None : goal.returns-in-None
returns-in-None c = rw c.in-None.is (wrote_most (nothing _ _) (omega arith))

pub returns-in-Limit : goal.returns-in-Limit
returns-in-Limit c = rw c.in-Limit.is (wrote_most (nothing _ _) (omega arith))
