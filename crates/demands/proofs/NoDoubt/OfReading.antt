-- No doubt about `reading`: each contract has one answer, and those of the operations ask nothing.
-- Assumes nothing.
use mathlib.Core.Path.{refl, ap}
use Rattle.laws.proofs.Answers.{same_refused}
use Rattle.reading.specs.contracts
use Rattle.reading.proofs.read_refusal
use Rattle.reading.proofs.with_along
use Rattle.reading.proofs.along_at
use Rattle.reading.proofs.one_field
use Rattle.reading.proofs.all_fields
use Rattle.state.specs.State.{Left}
use Rattle.reading.specs.declared.Along.{Along}
use Rattle.reading.specs.Answers.{ReadSaid, AllSaid}
use Rattle.reading.proofs.Answered.{same_stepped, same_passage}
use Rattle.demands.specs.Calls.{AsksNothing, OneAnswer}
use Rattle.demands.proofs.NoDoubt.{same}

pub read_refusal_one_answer : OneAnswer contracts.read_refusal.ended read_refusal.Reads.Learnt
read_refusal_one_answer κs a r r' w w' p q = (same_refused r r' (same p q), refl)

pub read_refusal_asks_nothing : AsksNothing contracts.read_refusal.ended read_refusal.Reads.Asked
read_refusal_asks_nothing κs a = tt

pub with_along_one_answer : OneAnswer contracts.with_along.ended with_along.Reads.Learnt
with_along_one_answer κs a r r' w w' p q = (same p q, refl)

pub with_along_asks_nothing : AsksNothing contracts.with_along.ended with_along.Reads.Asked
with_along_asks_nothing κs a = tt

pub along_at_one_answer : OneAnswer contracts.along_at.ended along_at.Reads.Learnt
along_at_one_answer κs a r r' w w' p q = (same p q, refl)

pub one_field_one_answer : OneAnswer contracts.one_field.ended one_field.Reads.Learnt
one_field_one_answer κs a r r' w w' p q = (same_stepped r r' (ap (λ (y : Left (ReadSaid Along)). y.answer) (same p q)), λ i. (tt, (tt, (tt, (tt, ((same p q i).memory.ledger, ((same p q i).memory.map, (tt, tt))))))))

pub all_fields_one_answer : OneAnswer contracts.all_fields.ended all_fields.Reads.Learnt
all_fields_one_answer κs a r r' w w' p q = (same_passage r r' (ap (λ (y : Left (AllSaid Along)). y.answer) (same p q)), λ i. (tt, (tt, (tt, (tt, ((same p q i).memory.ledger, ((same p q i).memory.map, (tt, tt))))))))
