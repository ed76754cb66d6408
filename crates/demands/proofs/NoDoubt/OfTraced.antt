-- No doubt about `traced`: its operation asks nothing.
-- Assumes nothing.
use Rattle.traced.specs.contracts
use Rattle.traced.proofs.trace_record
use Rattle.demands.specs.Calls.{AsksNothing}

pub trace_record_asks_nothing : AsksNothing contracts.trace_record.ended trace_record.Reads.Asked
trace_record_asks_nothing κs a = tt
