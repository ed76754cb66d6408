-- No doubt about `consumption`: its contract has one answer.
-- Assumes nothing.
use mathlib.Core.Path.{refl}
use Rattle.consumption.specs.contracts
use Rattle.consumption.proofs.close
use Rattle.laws.proofs.Answers.{same_closing}
use Rattle.demands.specs.Calls.{OneAnswer}
use Rattle.demands.proofs.NoDoubt.{same}

pub close_one_answer : OneAnswer contracts.close.ended close.Reads.Learnt
close_one_answer κs a r r' w w' p q = (same_closing r r' (same p q), refl)
