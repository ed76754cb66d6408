-- No doubt about `tracing`: each contract has one answer, and those of the operations ask nothing.
-- Assumes nothing.
use Rattle.tracing.specs.contracts
use Rattle.tracing.proofs.trace_close
use Rattle.demands.specs.Calls.{AsksNothing, OneAnswer}
use Rattle.demands.proofs.NoDoubt.{same}

pub trace_close_one_answer : OneAnswer contracts.trace_close.ended trace_close.Reads.Learnt
trace_close_one_answer κs a r r' w w' p q = (same p.0 q.0, λ i. (tt, (tt, (tt, (tt, (tt, (tt, (same p.1 q.1 i, tt))))))))

pub trace_close_asks_nothing : AsksNothing contracts.trace_close.ended trace_close.Reads.Asked
trace_close_asks_nothing κs a = tt
