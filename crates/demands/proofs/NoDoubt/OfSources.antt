-- No doubt about `sources`: each contract has one answer, and those of the operations ask nothing.
-- Assumes nothing.
use mathlib.Core.Path.{refl}
use Rattle.sources.specs.contracts
use Rattle.sources.proofs.phase_on
use Rattle.sources.proofs.row_on
use Rattle.sources.proofs.outside_on
use Rattle.sources.proofs.stretch_m
use Rattle.sources.proofs.stretch_e
use Rattle.sources.proofs.stop_on
use Rattle.demands.specs.Calls.{OneAnswer}
use Rattle.demands.proofs.NoDoubt.{same}

pub phase_on_one_answer : OneAnswer contracts.phase_on.ended phase_on.Reads.Learnt
phase_on_one_answer κs a r r' w w' p q = (same p q, refl)

pub row_on_one_answer : OneAnswer contracts.row_on.ended row_on.Reads.Learnt
row_on_one_answer κs a r r' w w' p q = (same p.0 q.0, refl)

pub outside_on_one_answer : OneAnswer contracts.outside_on.ended outside_on.Reads.Learnt
outside_on_one_answer κs a r r' w w' p q = (same p q, refl)

pub stretch_m_one_answer : OneAnswer contracts.stretch_m.ended stretch_m.Reads.Learnt
stretch_m_one_answer κs a r r' w w' p q = (same p q, refl)

pub stretch_e_one_answer : OneAnswer contracts.stretch_e.ended stretch_e.Reads.Learnt
stretch_e_one_answer κs a r r' w w' p q = (same p q, refl)

pub stop_on_one_answer : OneAnswer contracts.stop_on.ended stop_on.Reads.Learnt
stop_on_one_answer κs a r r' w w' p q = (same p.0 q.0, refl)
