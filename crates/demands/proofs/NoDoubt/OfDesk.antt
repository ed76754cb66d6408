-- No doubt about `desk`: each contract has one answer, and those of the operations ask nothing.
-- Assumes nothing.
use mathlib.Core.Path.{refl, ap}
use Rattle.laws.proofs.Answers.{same_refused}
use Rattle.desk.specs.Feeding.{FedSaid, Consumed}
use Rattle.desk.specs.contracts
use Rattle.desk.proofs.empty
use Rattle.desk.proofs.feed_on
use Rattle.desk.proofs.desk_refusal
use Rattle.desk.proofs.feed
use Rattle.desk.proofs.Grounds.{same_fed}
use Rattle.demands.specs.Calls.{AsksNothing, OneAnswer}
use Rattle.demands.proofs.NoDoubt.{same}

-- the answer of what a call leaves
abbrev answer_of : Consumed → FedSaid
answer_of y = record { outcome = y.outcome; used = y.used; desk = y.laid.desk }

pub empty_one_answer : OneAnswer contracts.empty.ended empty.Reads.Learnt
empty_one_answer κs a r r' w w' p q = (same p q, refl)

pub empty_asks_nothing : AsksNothing contracts.empty.ended empty.Reads.Asked
empty_asks_nothing κs a = tt

pub feed_on_one_answer : OneAnswer contracts.feed_on.ended feed_on.Reads.Learnt
feed_on_one_answer κs a r r' w w' p q = (same_fed r r' (ap answer_of (same p q)), λ i. (tt, (tt, ((same p q i).laid.room, ((same p q i).laid.memory.ledger, ((same p q i).laid.memory.map, tt))))))

pub desk_refusal_one_answer : OneAnswer contracts.desk_refusal.ended desk_refusal.Reads.Learnt
desk_refusal_one_answer κs a r r' w w' p q = (same_refused r r' (same p q), refl)

pub desk_refusal_asks_nothing : AsksNothing contracts.desk_refusal.ended desk_refusal.Reads.Asked
desk_refusal_asks_nothing κs a = tt

pub feed_one_answer : OneAnswer contracts.feed.ended feed.Reads.Learnt
feed_one_answer κs a r r' w w' p q = (same_fed r r' (ap answer_of (same p q)), λ i. (tt, (tt, ((same p q i).laid.room, ((same p q i).laid.memory.ledger, ((same p q i).laid.memory.map, tt))))))

pub feed_asks_nothing : AsksNothing contracts.feed.ended feed.Reads.Asked
feed_asks_nothing κs a = tt
