-- No doubt about `ledger`: each contract has one answer, and those of the operations ask nothing.
-- Assumes nothing.
use mathlib.Core.Path.{refl}
use Rattle.ledger.specs.contracts
use Rattle.ledger.proofs.whole.is_bounded
use Rattle.ledger.proofs.row.add_interval
use Rattle.ledger.proofs.row.add_outside
use Rattle.ledger.proofs.totals.energy_in
use Rattle.ledger.proofs.totals.distance_in
use Rattle.ledger.proofs.totals.energy_from
use Rattle.ledger.proofs.totals.energy_all
use Rattle.ledger.proofs.totals.outside_all
use Rattle.ledger.proofs.whole.clear_ledger
use Rattle.demands.specs.Calls.{AsksNothing, OneAnswer}
use Rattle.demands.proofs.NoDoubt.{same}

pub is_bounded_one_answer : OneAnswer contracts.whole.is_bounded.ended is_bounded.Reads.Learnt
is_bounded_one_answer κs a r r' w w' p q = (same p q, refl)

pub is_bounded_asks_nothing : AsksNothing contracts.whole.is_bounded.ended is_bounded.Reads.Asked
is_bounded_asks_nothing κs a = tt

pub add_interval_one_answer : OneAnswer contracts.row.add_interval.ended add_interval.Reads.Learnt
add_interval_one_answer κs a r r' w w' p q = (refl, λ i. (same p q i, (tt, (tt, (tt, tt)))))

pub add_outside_one_answer : OneAnswer contracts.row.add_outside.ended add_outside.Reads.Learnt
add_outside_one_answer κs a r r' w w' p q = (same p.0 q.0, λ i. (same p.1 q.1 i, (tt, (tt, tt))))

pub energy_in_one_answer : OneAnswer contracts.totals.energy_in.ended energy_in.Reads.Learnt
energy_in_one_answer κs a r r' w w' p q = (same p q, refl)

pub distance_in_one_answer : OneAnswer contracts.totals.distance_in.ended distance_in.Reads.Learnt
distance_in_one_answer κs a r r' w w' p q = (same p q, refl)

pub energy_from_one_answer : OneAnswer contracts.totals.energy_from.ended energy_from.Reads.Learnt
energy_from_one_answer κs a r r' w w' p q = (same p q, refl)

pub energy_all_one_answer : OneAnswer contracts.totals.energy_all.ended energy_all.Reads.Learnt
energy_all_one_answer κs a r r' w w' p q = (same p q, refl)

pub outside_all_one_answer : OneAnswer contracts.totals.outside_all.ended outside_all.Reads.Learnt
outside_all_one_answer κs a r r' w w' p q = (same p q, refl)

pub clear_ledger_one_answer : OneAnswer contracts.whole.clear_ledger.ended clear_ledger.Reads.Learnt
clear_ledger_one_answer κs a r r' w w' p q = (refl, λ i. (same p q i, tt))
