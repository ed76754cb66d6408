-- No doubt about `step`: each contract has one answer, and those of the operations ask nothing.
-- Assumes nothing.
use mathlib.Core.Path.{refl, ap}
use Rattle.step.specs.contracts
use Rattle.step.proofs.with_taken
use Rattle.step.proofs.going_at
use Rattle.step.proofs.take_one
use Rattle.demands.specs.Calls.{AsksNothing, OneAnswer}
use Rattle.demands.proofs.NoDoubt.{same}

pub with_taken_one_answer : OneAnswer contracts.with_taken.ended with_taken.Reads.Learnt
with_taken_one_answer κs a r r' w w' p q = (same p q, refl)

pub with_taken_asks_nothing : AsksNothing contracts.with_taken.ended with_taken.Reads.Asked
with_taken_asks_nothing κs a = tt

pub going_at_one_answer : OneAnswer contracts.going_at.ended going_at.Reads.Learnt
going_at_one_answer κs a r r' w w' p q = (same p q, refl)

pub take_one_one_answer : OneAnswer contracts.take_one.ended take_one.Reads.Learnt
take_one_one_answer κs a r r' w w' p q = (ap (λ y. y.answer) (same p q), λ i. (tt, (tt, (tt, (tt, (tt, ((same p q i).memory.ledger, ((same p q i).memory.map, (tt, tt)))))))))
