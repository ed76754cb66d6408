-- No doubt about `rules`: its contract has one answer, and asks nothing.
-- Assumes nothing.
use mathlib.Core.Path.{refl}
use Rattle.rules.specs.contracts
use Rattle.rules.proofs.Refusal.number
use Rattle.demands.specs.Calls.{AsksNothing, OneAnswer}
use Rattle.demands.proofs.NoDoubt.{same}

pub number_one_answer : OneAnswer contracts.Refusal.number.ended number.Reads.Learnt
number_one_answer κs a r r' w w' p q = (same p q, refl)

pub number_asks_nothing : AsksNothing contracts.Refusal.number.ended number.Reads.Asked
number_asks_nothing κs a = tt
