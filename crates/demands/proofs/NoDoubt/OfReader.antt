-- No doubt about `reader`: each contract has one answer, and those of the operations ask nothing.
-- Assumes nothing.
use mathlib.Core.Path.{refl, ap}
use Rattle.reader.specs.contracts
use Rattle.reader.proofs.blank
use Rattle.reader.proofs.open
use Rattle.reader.proofs.reading_of
use Rattle.reader.proofs.read
use Rattle.reader.proofs.read_fields
use Rattle.reader.proofs.read_all
use Rattle.reader.proofs.ended
use Rattle.state.specs.State.{Left}
use Rattle.opening.specs.Answers.{OpenLeft}
use Rattle.opening.proofs.Readied.{same_opened}
use Rattle.reading.specs.declared.Reading.{Reading}
use Rattle.reading.specs.Answers.{ReadSaid, AllSaid}
use Rattle.reader.proofs.Endings.{same_read, same_all}
use Rattle.laws.proofs.Answers.{same_answer}
use Rattle.demands.specs.Calls.{AsksNothing, OneAnswer}
use Rattle.demands.proofs.NoDoubt.{same}

pub blank_one_answer : OneAnswer contracts.blank.ended blank.Reads.Learnt
blank_one_answer κs a r r' w w' p q = (same p q, refl)

pub blank_asks_nothing : AsksNothing contracts.blank.ended blank.Reads.Asked
blank_asks_nothing κs a = tt

pub open_one_answer : OneAnswer contracts.open.ended open.Reads.Learnt
open_one_answer κs a r r' w w' p q = (same_opened r r' (ap (λ (y : OpenLeft). y.answer) (same p q)), λ i. (tt, (tt, ((same p q i).room, ((same p q i).memory.ledger, ((same p q i).memory.map, tt))))))

pub open_asks_nothing : AsksNothing contracts.open.ended open.Reads.Asked
open_asks_nothing κs a = tt

pub reading_of_one_answer : OneAnswer contracts.reading_of.ended reading_of.Reads.Learnt
reading_of_one_answer κs a r r' w w' p q = (same p q, refl)

pub reading_of_asks_nothing : AsksNothing contracts.reading_of.ended reading_of.Reads.Asked
reading_of_asks_nothing κs a = tt

pub read_one_answer : OneAnswer contracts.read.ended read.Reads.Learnt
read_one_answer κs a r r' w w' p q = (same_read r r' (ap (λ (y : Left (ReadSaid Reading)). y.answer) (same p q)), λ i. (tt, (tt, (tt, ((same p q i).memory.ledger, ((same p q i).memory.map, tt))))))

pub read_asks_nothing : AsksNothing contracts.read.ended read.Reads.Asked
read_asks_nothing κs a = tt

pub read_fields_one_answer : OneAnswer contracts.read_fields.ended read_fields.Reads.Learnt
read_fields_one_answer κs a r r' w w' p q = (same_all r r' (ap (λ (y : Left (AllSaid Reading)). y.answer) (same p q)), λ i. (tt, (tt, (tt, ((same p q i).memory.ledger, ((same p q i).memory.map, tt))))))

pub read_all_one_answer : OneAnswer contracts.read_all.ended read_all.Reads.Learnt
read_all_one_answer κs a r r' w w' p q = (same_all r r' (ap (λ (y : Left (AllSaid Reading)). y.answer) (same p q)), λ i. (tt, (tt, (tt, ((same p q i).memory.ledger, ((same p q i).memory.map, tt))))))

pub read_all_asks_nothing : AsksNothing contracts.read_all.ended read_all.Reads.Asked
read_all_asks_nothing κs a = tt

pub ended_one_answer : OneAnswer contracts.ended.ended ended.Reads.Learnt
ended_one_answer κs a r r' w w' p q = (same_answer r r' (same p q), refl)

pub ended_asks_nothing : AsksNothing contracts.ended.ended ended.Reads.Asked
ended_asks_nothing κs a = tt
