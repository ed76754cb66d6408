-- No doubt about `prints`: each contract has one answer, and those of the operations ask nothing.
-- Assumes nothing.
use Rattle.prints.specs.contracts
use Rattle.prints.proofs.refuse
use Rattle.prints.proofs.close
use Rattle.demands.specs.Calls.{AsksNothing, OneAnswer}
use Rattle.demands.proofs.NoDoubt.{same}

pub refuse_one_answer : OneAnswer contracts.refuse.ended refuse.Reads.Learnt
refuse_one_answer κs a r r' w w' p q = (same p.0 q.0, λ i. (tt, (tt, (same p.1 q.1 i, tt))))

pub refuse_asks_nothing : AsksNothing contracts.refuse.ended refuse.Reads.Asked
refuse_asks_nothing κs a = tt

pub close_one_answer : OneAnswer contracts.close.ended close.Reads.Learnt
close_one_answer κs a r r' w w' p q = (same p.0 q.0, λ i. (tt, (tt, (tt, (tt, (tt, (same p.1 q.1 i, tt)))))))

pub close_asks_nothing : AsksNothing contracts.close.ended close.Reads.Asked
close_asks_nothing κs a = tt
