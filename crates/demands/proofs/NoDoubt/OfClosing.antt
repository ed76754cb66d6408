-- No doubt about `closing`: each contract has one answer, and that of the operation asks nothing.
-- Assumes nothing.
use mathlib.Core.Path.{refl}
use Rattle.closing.specs.contracts
use Rattle.closing.proofs.close
use Rattle.closing.proofs.close_on
use Rattle.laws.proofs.Answers.{same_closing}
use Rattle.demands.specs.Calls.{AsksNothing, OneAnswer}
use Rattle.demands.proofs.NoDoubt.{same}

pub close_one_answer : OneAnswer contracts.close.ended close.Reads.Learnt
close_one_answer κs a r r' w w' p q = (same_closing r r' (same p q), refl)

pub close_asks_nothing : AsksNothing contracts.close.ended close.Reads.Asked
close_asks_nothing κs a = tt

pub close_on_one_answer : OneAnswer contracts.close_on.ended close_on.Reads.Learnt
close_on_one_answer κs a r r' w w' p q = (same_closing r r' (same p q), refl)
