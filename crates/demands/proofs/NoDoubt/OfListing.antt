-- No doubt about `listing`: each contract has one answer, and those of the operations ask nothing.
-- Assumes nothing.
use mathlib.Core.Path.{refl}
use Rattle.listing.specs.contracts
use Rattle.listing.proofs.lines.cycle_line
use Rattle.listing.proofs.lines.tolerances_line
use Rattle.listing.proofs.refused.refused_field
use Rattle.listing.proofs.list_fields
use Rattle.listing.proofs.passing.pass_fields
use Rattle.demands.specs.Calls.{OneAnswer}
use Rattle.demands.proofs.NoDoubt.{same}

pub cycle_line_one_answer : OneAnswer contracts.lines.cycle_line.ended cycle_line.Reads.Learnt
cycle_line_one_answer κs a r r' w w' p q = (same p.place q.place, λ i. (same p.bytes q.bytes i, (tt, (tt, tt))))

pub tolerances_line_one_answer : OneAnswer contracts.lines.tolerances_line.ended tolerances_line.Reads.Learnt
tolerances_line_one_answer κs a r r' w w' p q = (same p.place q.place, λ i. (same p.bytes q.bytes i, (tt, (tt, tt))))

pub refused_field_one_answer : OneAnswer contracts.refused.refused_field.ended refused_field.Reads.Learnt
refused_field_one_answer κs a r r' w w' p q = (same p.place q.place, λ i. (same p.bytes q.bytes i, (tt, (tt, (tt, (tt, (tt, tt)))))))

pub list_fields_one_answer : OneAnswer contracts.list_fields.ended list_fields.Reads.Learnt
list_fields_one_answer κs a r r' w w' p q = ((λ i. record { spot = same p.0 q.0 i; next = same p.1.place q.1.place i }), λ i. (tt, (tt, (same p.1.bytes q.1.bytes i, tt))))

pub pass_fields_one_answer : OneAnswer contracts.passing.pass_fields.ended pass_fields.Reads.Learnt
pass_fields_one_answer κs a r r' w w' p q = (same p q, refl)
