-- No doubt about `cycle`: each contract has one answer, and those of the operations ask nothing.
-- Assumes nothing.
use mathlib.Core.Path.{refl}
use Rattle.cycle.specs.contracts
use Rattle.cycle.proofs.is_cycle
use Rattle.cycle.proofs.end_of
use Rattle.cycle.proofs.point_of
use Rattle.cycle.proofs.seconds_of
use Rattle.cycle.proofs.phase_of
use Rattle.demands.specs.Calls.{AsksNothing, OneAnswer}
use Rattle.demands.proofs.NoDoubt.{same}

pub is_cycle_one_answer : OneAnswer contracts.is_cycle.ended is_cycle.Reads.Learnt
is_cycle_one_answer κs a r r' w w' p q = (same p q, refl)

pub is_cycle_asks_nothing : AsksNothing contracts.is_cycle.ended is_cycle.Reads.Asked
is_cycle_asks_nothing κs a = tt

pub end_of_one_answer : OneAnswer contracts.end_of.ended end_of.Reads.Learnt
end_of_one_answer κs a r r' w w' p q = (same p q, refl)

pub seconds_of_one_answer : OneAnswer contracts.seconds_of.ended seconds_of.Reads.Learnt
seconds_of_one_answer κs a r r' w w' p q = (same p q, refl)

pub phase_of_one_answer : OneAnswer contracts.phase_of.ended phase_of.Reads.Learnt
phase_of_one_answer κs a r r' w w' p q = (same p q, refl)

pub point_of_one_answer : OneAnswer contracts.point_of.ended point_of.Reads.Learnt
point_of_one_answer κs a r r' w w' p q = (same p q, refl)
