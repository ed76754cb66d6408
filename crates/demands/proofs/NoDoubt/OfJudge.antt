-- No doubt about `judge`: each contract has one answer, and those of the operations ask nothing.
-- Assumes nothing.
use mathlib.Core.Path.{refl, ap}
use Rattle.judge.specs.contracts
use Rattle.judge.proofs.start
use Rattle.judge.proofs.sample
use Rattle.judge.proofs.block
use Rattle.judge.proofs.shown
use Rattle.judge.proofs.totals
use Rattle.judge.proofs.sums_of
use Rattle.laws.specs.Answers.{Said}
use Rattle.state.specs.declared.Run.{Run}
use Rattle.state.specs.State.{Left}
use Rattle.laws.proofs.Answers.{same_answer}
use Rattle.demands.specs.Calls.{AsksNothing, OneAnswer}
use Rattle.demands.proofs.NoDoubt.{same}

pub start_one_answer : OneAnswer contracts.start.ended start.Reads.Learnt
start_one_answer κs a r r' w w' p q = (same_answer r r' (ap (λ (y : Left (Said Run)). y.answer) (same p q)), λ i. (tt, (tt, (tt, ((same p q i).memory.ledger, ((same p q i).memory.map, tt))))))

pub start_asks_nothing : AsksNothing contracts.start.ended start.Reads.Asked
start_asks_nothing κs a = tt

pub sample_one_answer : OneAnswer contracts.sample.ended sample.Reads.Learnt
sample_one_answer κs a r r' w w' p q = (same_answer r r' (ap (λ (y : Left (Said Run)). y.answer) (same p q)), λ i. (tt, (tt, ((same p q i).memory.ledger, ((same p q i).memory.map, (tt, tt))))))

pub sample_asks_nothing : AsksNothing contracts.sample.ended sample.Reads.Asked
sample_asks_nothing κs a = tt

pub block_one_answer : OneAnswer contracts.block.ended block.Reads.Learnt
block_one_answer κs a r r' w w' p q = (same_answer r r' (ap (λ (y : Left (Said Run)). y.answer) (same p q)), λ i. (tt, (tt, ((same p q i).memory.ledger, ((same p q i).memory.map, (tt, (tt, tt)))))))

pub block_asks_nothing : AsksNothing contracts.block.ended block.Reads.Asked
block_asks_nothing κs a = tt

pub shown_one_answer : OneAnswer contracts.shown.ended shown.Reads.Learnt
shown_one_answer κs a r r' w w' p q = (same_answer r r' (same p q), refl)

pub shown_asks_nothing : AsksNothing contracts.shown.ended shown.Reads.Asked
shown_asks_nothing κs a = tt

pub totals_one_answer : OneAnswer contracts.totals.ended totals.Reads.Learnt
totals_one_answer κs a r r' w w' p q = (same_answer r r' (same p q), refl)

pub totals_asks_nothing : AsksNothing contracts.totals.ended totals.Reads.Asked
totals_asks_nothing κs a = tt

pub sums_of_one_answer : OneAnswer contracts.sums_of.ended sums_of.Reads.Learnt
sums_of_one_answer κs a r r' w w' p q = (same p q, refl)
