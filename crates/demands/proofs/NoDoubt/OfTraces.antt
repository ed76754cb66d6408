-- No doubt about `traces`: each contract has one answer, and those of the operations ask nothing.
-- Assumes nothing.
use Rattle.traces.specs.contracts
use Rattle.traces.proofs.heading.method_line
use Rattle.traces.proofs.heading.fields_line
use Rattle.traces.proofs.heading.stop_at_cycle
use Rattle.traces.proofs.heading.stop_in_e
use Rattle.traces.proofs.heading.plan_lines
use Rattle.traces.proofs.parts.phase_line
use Rattle.traces.proofs.parts.row_line
use Rattle.traces.proofs.parts.stretch_line
use Rattle.traces.proofs.closing.sum_lines
use Rattle.traces.proofs.closing.weight_line
use Rattle.traces.proofs.closing.charge_line
use Rattle.demands.specs.Calls.{OneAnswer}
use Rattle.demands.proofs.NoDoubt.{same}

pub method_line_one_answer : OneAnswer contracts.heading.method_line.ended method_line.Reads.Learnt
method_line_one_answer κs a r r' w w' p q = (same p.place q.place, λ i. (same p.bytes q.bytes i, (tt, (tt, tt))))

pub fields_line_one_answer : OneAnswer contracts.heading.fields_line.ended fields_line.Reads.Learnt
fields_line_one_answer κs a r r' w w' p q = (same p.place q.place, λ i. (same p.bytes q.bytes i, (tt, (tt, (tt, (tt, tt))))))

pub stop_at_cycle_one_answer : OneAnswer contracts.heading.stop_at_cycle.ended stop_at_cycle.Reads.Learnt
stop_at_cycle_one_answer κs a r r' w w' p q = (same p.place q.place, λ i. (same p.bytes q.bytes i, (tt, (tt, (tt, tt)))))

pub stop_in_e_one_answer : OneAnswer contracts.heading.stop_in_e.ended stop_in_e.Reads.Learnt
stop_in_e_one_answer κs a r r' w w' p q = (same p.place q.place, λ i. (same p.bytes q.bytes i, (tt, tt)))

pub plan_lines_one_answer : OneAnswer contracts.heading.plan_lines.ended plan_lines.Reads.Learnt
plan_lines_one_answer κs a r r' w w' p q = (same p.place q.place, λ i. (same p.bytes q.bytes i, (tt, (tt, (tt, (tt, (tt, tt)))))))

pub phase_line_one_answer : OneAnswer contracts.parts.phase_line.ended phase_line.Reads.Learnt
phase_line_one_answer κs a r r' w w' p q = (same p.place q.place, λ i. (same p.bytes q.bytes i, (tt, (tt, (tt, (tt, tt))))))

pub row_line_one_answer : OneAnswer contracts.parts.row_line.ended row_line.Reads.Learnt
row_line_one_answer κs a r r' w w' p q = (same p.place q.place, λ i. (same p.bytes q.bytes i, (tt, (tt, (tt, (tt, tt))))))

pub stretch_line_one_answer : OneAnswer contracts.parts.stretch_line.ended stretch_line.Reads.Learnt
stretch_line_one_answer κs a r r' w w' p q = (same p.place q.place, λ i. (same p.bytes q.bytes i, (tt, (tt, (tt, tt)))))

pub sum_lines_one_answer : OneAnswer contracts.closing.sum_lines.ended sum_lines.Reads.Learnt
sum_lines_one_answer κs a r r' w w' p q = (same p.place q.place, λ i. (same p.bytes q.bytes i, (tt, (tt, (tt, (tt, (tt, (tt, tt))))))))

pub weight_line_one_answer : OneAnswer contracts.closing.weight_line.ended weight_line.Reads.Learnt
weight_line_one_answer κs a r r' w w' p q = (same p.place q.place, λ i. (same p.bytes q.bytes i, (tt, (tt, (tt, (tt, tt))))))

pub charge_line_one_answer : OneAnswer contracts.closing.charge_line.ended charge_line.Reads.Learnt
charge_line_one_answer κs a r r' w w' p q = (same p.place q.place, λ i. (same p.bytes q.bytes i, (tt, (tt, tt))))
