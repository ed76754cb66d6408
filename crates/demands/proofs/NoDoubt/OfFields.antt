-- No doubt about `fields`: each contract has one answer, and those of the operations ask nothing.
-- Assumes nothing.
use mathlib.Core.Path.{refl}
use Rattle.fields.specs.contracts
use Rattle.fields.proofs.front_of
use Rattle.fields.proofs.is_value
use Rattle.fields.proofs.is_number
use Rattle.fields.proofs.is_same
use Rattle.fields.proofs.Fronts.{same_front}
use Rattle.demands.specs.Calls.{AsksNothing, OneAnswer}
use Rattle.demands.proofs.NoDoubt.{same}

pub front_of_one_answer : OneAnswer contracts.front_of.ended front_of.Reads.Learnt
front_of_one_answer κs a r r' w w' p q = (same_front r r' (same p q), refl)

pub front_of_asks_nothing : AsksNothing contracts.front_of.ended front_of.Reads.Asked
front_of_asks_nothing κs a = tt

pub is_value_one_answer : OneAnswer contracts.is_value.ended is_value.Reads.Learnt
is_value_one_answer κs a r r' w w' p q = (same p q, refl)

pub is_number_one_answer : OneAnswer contracts.is_number.ended is_number.Reads.Learnt
is_number_one_answer κs a r r' w w' p q = (same p q, refl)

pub is_same_one_answer : OneAnswer contracts.is_same.ended is_same.Reads.Learnt
is_same_one_answer κs a r r' w w' p q = (same p q, refl)
