-- No doubt about `walk`: its operation asks nothing.
-- Assumes nothing.
use Rattle.walk.specs.contracts
use Rattle.walk.proofs.whole.list_record
use Rattle.demands.specs.Calls.{AsksNothing}

pub list_record_asks_nothing : AsksNothing contracts.whole.list_record.ended list_record.Reads.Asked
list_record_asks_nothing κs a = tt
