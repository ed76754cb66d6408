-- No doubt about `values`: each contract has one answer, and those of the operations ask nothing.
-- Assumes nothing.
use mathlib.Core.Path.{refl}
use Rattle.values.specs.contracts
use Rattle.values.proofs.is_tolerable
use Rattle.values.proofs.is_moment
use Rattle.values.proofs.is_transfer_in
use Rattle.values.proofs.is_charge
use Rattle.values.proofs.are_amounts
use Rattle.values.proofs.is_between
use Rattle.values.proofs.is_sample
use Rattle.values.proofs.moment_of
use Rattle.values.proofs.are_stretches
use Rattle.values.proofs.is_method
use Rattle.demands.specs.Calls.{AsksNothing, OneAnswer}
use Rattle.demands.proofs.NoDoubt.{same}

pub is_tolerable_one_answer : OneAnswer contracts.is_tolerable.ended is_tolerable.Reads.Learnt
is_tolerable_one_answer κs a r r' w w' p q = (same p q, refl)

pub is_tolerable_asks_nothing : AsksNothing contracts.is_tolerable.ended is_tolerable.Reads.Asked
is_tolerable_asks_nothing κs a = tt

pub is_moment_one_answer : OneAnswer contracts.is_moment.ended is_moment.Reads.Learnt
is_moment_one_answer κs a r r' w w' p q = (same p q, refl)

pub is_moment_asks_nothing : AsksNothing contracts.is_moment.ended is_moment.Reads.Asked
is_moment_asks_nothing κs a = tt

pub is_transfer_in_one_answer : OneAnswer contracts.is_transfer_in.ended is_transfer_in.Reads.Learnt
is_transfer_in_one_answer κs a r r' w w' p q = (same p q, refl)

pub is_transfer_in_asks_nothing : AsksNothing contracts.is_transfer_in.ended is_transfer_in.Reads.Asked
is_transfer_in_asks_nothing κs a = tt

pub is_charge_one_answer : OneAnswer contracts.is_charge.ended is_charge.Reads.Learnt
is_charge_one_answer κs a r r' w w' p q = (same p q, refl)

pub is_charge_asks_nothing : AsksNothing contracts.is_charge.ended is_charge.Reads.Asked
is_charge_asks_nothing κs a = tt

pub are_amounts_one_answer : OneAnswer contracts.are_amounts.ended are_amounts.Reads.Learnt
are_amounts_one_answer κs a r r' w w' p q = (same p q, refl)

pub are_amounts_asks_nothing : AsksNothing contracts.are_amounts.ended are_amounts.Reads.Asked
are_amounts_asks_nothing κs a = tt

pub is_between_one_answer : OneAnswer contracts.is_between.ended is_between.Reads.Learnt
is_between_one_answer κs a r r' w w' p q = (same p q, refl)

pub is_between_asks_nothing : AsksNothing contracts.is_between.ended is_between.Reads.Asked
is_between_asks_nothing κs a = tt

pub is_sample_one_answer : OneAnswer contracts.is_sample.ended is_sample.Reads.Learnt
is_sample_one_answer κs a r r' w w' p q = (same p q, refl)

pub is_sample_asks_nothing : AsksNothing contracts.is_sample.ended is_sample.Reads.Asked
is_sample_asks_nothing κs a = tt

pub moment_of_one_answer : OneAnswer contracts.moment_of.ended moment_of.Reads.Learnt
moment_of_one_answer κs a r r' w w' p q = (same p q, refl)

pub moment_of_asks_nothing : AsksNothing contracts.moment_of.ended moment_of.Reads.Asked
moment_of_asks_nothing κs a = tt

pub are_stretches_one_answer : OneAnswer contracts.are_stretches.ended are_stretches.Reads.Learnt
are_stretches_one_answer κs a r r' w w' p q = (same p q, refl)

pub are_stretches_asks_nothing : AsksNothing contracts.are_stretches.ended are_stretches.Reads.Asked
are_stretches_asks_nothing κs a = tt

pub is_method_one_answer : OneAnswer contracts.is_method.ended is_method.Reads.Learnt
is_method_one_answer κs a r r' w w' p q = (same p q, refl)

pub is_method_asks_nothing : AsksNothing contracts.is_method.ended is_method.Reads.Asked
is_method_asks_nothing κs a = tt
