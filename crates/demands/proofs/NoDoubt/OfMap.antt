-- No doubt about `map`: each contract has one answer, and those of the operations ask nothing.
-- Assumes nothing.
use mathlib.Core.Path.{refl}
use Rattle.map.specs.contracts
use Rattle.map.proofs.is_set
use Rattle.map.proofs.mark_if
use Rattle.map.proofs.clear_map
use Rattle.map.proofs.open_map
use Rattle.map.proofs.count_marks
use Rattle.demands.specs.Calls.{AsksNothing, OneAnswer}
use Rattle.demands.proofs.NoDoubt.{same}

pub is_set_one_answer : OneAnswer contracts.is_set.ended is_set.Reads.Learnt
is_set_one_answer κs a r r' w w' p q = (same p q, refl)

pub is_set_asks_nothing : AsksNothing contracts.is_set.ended is_set.Reads.Asked
is_set_asks_nothing κs a = tt

pub mark_if_one_answer : OneAnswer contracts.mark_if.ended mark_if.Reads.Learnt
mark_if_one_answer κs a r r' w w' p q = (refl, λ i. (same p q i, (tt, (tt, tt))))

pub clear_map_one_answer : OneAnswer contracts.clear_map.ended clear_map.Reads.Learnt
clear_map_one_answer κs a r r' w w' p q = (refl, λ i. (same p q i, tt))

pub open_map_one_answer : OneAnswer contracts.open_map.ended open_map.Reads.Learnt
open_map_one_answer κs a r r' w w' p q = (refl, λ i. (same p q i, (tt, tt)))

pub count_marks_one_answer : OneAnswer contracts.count_marks.ended count_marks.Reads.Learnt
count_marks_one_answer κs a r r' w w' p q = (same p.0 q.0, refl)
