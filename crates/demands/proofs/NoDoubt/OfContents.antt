-- No doubt about `contents`: each contract has one answer, and those of the operations ask nothing.
-- Assumes nothing.
use mathlib.Core.Path.{refl}
use Rattle.contents.proofs.Brought.{said_once}
use Rattle.contents.specs.contracts
use Rattle.contents.proofs.content_of
use Rattle.demands.specs.Calls.{OneAnswer}
use Rattle.demands.proofs.NoDoubt.{same}

pub content_of_one_answer : OneAnswer contracts.content_of.ended content_of.Reads.Learnt
content_of_one_answer κs a r r' w w' p q = (said_once a.1.1.1.1.1.0.now r r' (same p q), refl)
