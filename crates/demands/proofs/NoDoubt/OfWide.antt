-- No doubt about `wide`: each contract has one answer, and those of the operations ask nothing.
-- Assumes nothing.
use mathlib.Core.Path.{refl}
use Rattle.wide.specs.contracts
use Rattle.wide.proofs.whole
use Rattle.wide.proofs.more
use Rattle.wide.proofs.muldiv
use Rattle.demands.specs.Calls.{AsksNothing, OneAnswer}
use Rattle.demands.proofs.NoDoubt.{same}

-- The divisors 0 and 2^63 and above are not excluded: they are answered Over, as is a quotient of 2^63 or above.
pub whole_one_answer : OneAnswer contracts.whole.ended whole.Reads.Learnt
whole_one_answer κs a r r' w w' p q = (same p q, refl)

pub whole_asks_nothing : AsksNothing contracts.whole.ended whole.Reads.Asked
whole_asks_nothing κs a = tt

pub more_one_answer : OneAnswer contracts.more.ended more.Reads.Learnt
more_one_answer κs a r r' w w' p q = (same p q, refl)

pub more_asks_nothing : AsksNothing contracts.more.ended more.Reads.Asked
more_asks_nothing κs a = tt

pub muldiv_one_answer : OneAnswer contracts.muldiv.ended muldiv.Reads.Learnt
muldiv_one_answer κs a r r' w w' p q = (same p q, refl)

pub muldiv_asks_nothing : AsksNothing contracts.muldiv.ended muldiv.Reads.Asked
muldiv_asks_nothing κs a = tt
