-- No doubt about `figures`: each contract has one answer, and those of the operations ask nothing.
-- Assumes nothing.
use mathlib.Core.Path.{refl}
use Rattle.laws.proofs.Answers.{same_answer}
use Rattle.figures.specs.contracts
use Rattle.figures.proofs.figures_of
use Rattle.figures.proofs.figures_on
use Rattle.demands.specs.Calls.{AsksNothing, OneAnswer}
use Rattle.demands.proofs.NoDoubt.{same}

pub figures_of_one_answer : OneAnswer contracts.figures_of.ended figures_of.Reads.Learnt
figures_of_one_answer κs a r r' w w' p q = (same_answer r r' (same p q), refl)

pub figures_of_asks_nothing : AsksNothing contracts.figures_of.ended figures_of.Reads.Asked
figures_of_asks_nothing κs a = tt

pub figures_on_one_answer : OneAnswer contracts.figures_on.ended figures_on.Reads.Learnt
figures_on_one_answer κs a r r' w w' p q = (same p q, refl)
