-- No doubt about `intake`: each contract has one answer, and those of the operations ask nothing.
-- Assumes nothing.
use mathlib.Core.Path.{refl}
use Rattle.intake.specs.contracts
use Rattle.intake.proofs.take_record
use Rattle.intake.proofs.turns.goes_on
use Rattle.intake.proofs.turns.has_failed
use Rattle.demands.specs.Calls.{AsksNothing, OneAnswer}
use Rattle.demands.proofs.NoDoubt.{same}

pub goes_on_one_answer : OneAnswer contracts.turns.goes_on.ended goes_on.Reads.Learnt
goes_on_one_answer κs a r r' w w' p q = (same p q, refl)

pub goes_on_asks_nothing : AsksNothing contracts.turns.goes_on.ended goes_on.Reads.Asked
goes_on_asks_nothing κs a = tt

pub has_failed_one_answer : OneAnswer contracts.turns.has_failed.ended has_failed.Reads.Learnt
has_failed_one_answer κs a r r' w w' p q = (same p q, refl)

pub has_failed_asks_nothing : AsksNothing contracts.turns.has_failed.ended has_failed.Reads.Asked
has_failed_asks_nothing κs a = tt

pub take_record_asks_nothing : AsksNothing contracts.take_record.ended take_record.Reads.Asked
take_record_asks_nothing κs a = tt
