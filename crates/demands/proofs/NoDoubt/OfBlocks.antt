-- No doubt about `blocks`: each contract has one answer, and those of the operations ask nothing.
-- Assumes nothing.
use mathlib.Core.Path.{refl, ap}
use Rattle.laws.proofs.Answers.{same_refused}
use Rattle.blocks.specs.contracts
use Rattle.blocks.proofs.is_block
use Rattle.blocks.proofs.block_refusal
use Rattle.blocks.proofs.are_samples
use Rattle.blocks.proofs.numbered_refusal
use Rattle.blocks.proofs.take_block
use Rattle.blocks.proofs.sample_at
use Rattle.demands.specs.Calls.{AsksNothing, OneAnswer}
use Rattle.demands.proofs.NoDoubt.{same}

pub is_block_one_answer : OneAnswer contracts.is_block.ended is_block.Reads.Learnt
is_block_one_answer κs a r r' w w' p q = (same p q, refl)

pub is_block_asks_nothing : AsksNothing contracts.is_block.ended is_block.Reads.Asked
is_block_asks_nothing κs a = tt

pub block_refusal_one_answer : OneAnswer contracts.block_refusal.ended block_refusal.Reads.Learnt
block_refusal_one_answer κs a r r' w w' p q = (same_refused r r' (same p q), refl)

pub block_refusal_asks_nothing : AsksNothing contracts.block_refusal.ended block_refusal.Reads.Asked
block_refusal_asks_nothing κs a = tt

pub are_samples_one_answer : OneAnswer contracts.are_samples.ended are_samples.Reads.Learnt
are_samples_one_answer κs a r r' w w' p q = (same p q, refl)

pub numbered_refusal_one_answer : OneAnswer contracts.numbered_refusal.ended numbered_refusal.Reads.Learnt
numbered_refusal_one_answer κs a r r' w w' p q = (same_refused r r' (same p q), refl)

pub take_block_one_answer : OneAnswer contracts.take_block.ended take_block.Reads.Learnt
take_block_one_answer κs a r r' w w' p q = (ap (λ y. y.answer) (same p q), λ i. (tt, (tt, (tt, (tt, ((same p q i).memory.ledger, ((same p q i).memory.map, (tt, tt))))))))

pub sample_at_one_answer : OneAnswer contracts.sample_at.ended sample_at.Reads.Learnt
sample_at_one_answer κs a r r' w w' p q = (same p q, refl)
