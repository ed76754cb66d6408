-- No doubt about `state`: each contract has one answer, and those of the operations ask nothing.
-- Assumes nothing.
use mathlib.Core.Path.{refl}
use Rattle.laws.proofs.Answers.{same_refused}
use Rattle.state.specs.contracts
use Rattle.state.proofs.ground_refusal
use Rattle.state.proofs.start_refusal
use Rattle.state.proofs.sample_refusal
use Rattle.state.proofs.ends_of
use Rattle.state.proofs.last_cycle
use Rattle.state.proofs.cycles_of
use Rattle.state.proofs.with_method
use Rattle.state.proofs.closed_of
use Rattle.state.proofs.beside_of
use Rattle.demands.specs.Calls.{AsksNothing, OneAnswer}
use Rattle.demands.proofs.NoDoubt.{same}

pub ground_refusal_one_answer : OneAnswer contracts.ground_refusal.ended ground_refusal.Reads.Learnt
ground_refusal_one_answer κs a r r' w w' p q = (same_refused r r' (same p q), refl)

pub ground_refusal_asks_nothing : AsksNothing contracts.ground_refusal.ended ground_refusal.Reads.Asked
ground_refusal_asks_nothing κs a = tt

pub start_refusal_one_answer : OneAnswer contracts.start_refusal.ended start_refusal.Reads.Learnt
start_refusal_one_answer κs a r r' w w' p q = (same_refused r r' (same p q), refl)

pub start_refusal_asks_nothing : AsksNothing contracts.start_refusal.ended start_refusal.Reads.Asked
start_refusal_asks_nothing κs a = tt

pub sample_refusal_one_answer : OneAnswer contracts.sample_refusal.ended sample_refusal.Reads.Learnt
sample_refusal_one_answer κs a r r' w w' p q = (same_refused r r' (same p q), refl)

pub sample_refusal_asks_nothing : AsksNothing contracts.sample_refusal.ended sample_refusal.Reads.Asked
sample_refusal_asks_nothing κs a = tt

pub ends_of_one_answer : OneAnswer contracts.ends_of.ended ends_of.Reads.Learnt
ends_of_one_answer κs a r r' w w' p q = (same p q, refl)

pub last_cycle_one_answer : OneAnswer contracts.last_cycle.ended last_cycle.Reads.Learnt
last_cycle_one_answer κs a r r' w w' p q = (same p.0 q.0, refl)

pub cycles_of_one_answer : OneAnswer contracts.cycles_of.ended cycles_of.Reads.Learnt
cycles_of_one_answer κs a r r' w w' p q = (same p.0 q.0, refl)

pub with_method_one_answer : OneAnswer contracts.with_method.ended with_method.Reads.Learnt
with_method_one_answer κs a r r' w w' p q = (same p q, refl)

pub with_method_asks_nothing : AsksNothing contracts.with_method.ended with_method.Reads.Asked
with_method_asks_nothing κs a = tt

pub closed_of_one_answer : OneAnswer contracts.closed_of.ended closed_of.Reads.Learnt
closed_of_one_answer κs a r r' w w' p q = (same p q, refl)

pub closed_of_asks_nothing : AsksNothing contracts.closed_of.ended closed_of.Reads.Asked
closed_of_asks_nothing κs a = tt

pub beside_of_one_answer : OneAnswer contracts.beside_of.ended beside_of.Reads.Learnt
beside_of_one_answer κs a r r' w w' p q = (same p q, refl)
