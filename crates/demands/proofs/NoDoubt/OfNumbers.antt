-- No doubt about `numbers`: each contract has one answer, and those of the operations ask nothing.
-- Assumes nothing.
use mathlib.Core.Path.{refl}
use Rattle.numbers.specs.contracts
use Rattle.numbers.proofs.smaller
use Rattle.numbers.proofs.larger
use Rattle.numbers.proofs.less
use Rattle.numbers.proofs.wide
use Rattle.numbers.proofs.pair
use Rattle.numbers.proofs.signed16
use Rattle.numbers.proofs.signed64
use Rattle.numbers.proofs.read16
use Rattle.numbers.proofs.read32
use Rattle.numbers.proofs.read64
use Rattle.demands.specs.Calls.{AsksNothing, OneAnswer}
use Rattle.demands.proofs.NoDoubt.{same}

pub smaller_one_answer : OneAnswer contracts.smaller.ended smaller.Reads.Learnt
smaller_one_answer κs a r r' w w' p q = (same p q, refl)

pub smaller_asks_nothing : AsksNothing contracts.smaller.ended smaller.Reads.Asked
smaller_asks_nothing κs a = tt

pub larger_one_answer : OneAnswer contracts.larger.ended larger.Reads.Learnt
larger_one_answer κs a r r' w w' p q = (same p q, refl)

pub larger_asks_nothing : AsksNothing contracts.larger.ended larger.Reads.Asked
larger_asks_nothing κs a = tt

pub less_one_answer : OneAnswer contracts.less.ended less.Reads.Learnt
less_one_answer κs a r r' w w' p q = (same p q, refl)

pub less_asks_nothing : AsksNothing contracts.less.ended less.Reads.Asked
less_asks_nothing κs a = tt

pub wide_one_answer : OneAnswer contracts.wide.ended wide.Reads.Learnt
wide_one_answer κs a r r' w w' p q = (same p q, refl)

pub wide_asks_nothing : AsksNothing contracts.wide.ended wide.Reads.Asked
wide_asks_nothing κs a = tt

pub pair_one_answer : OneAnswer contracts.pair.ended pair.Reads.Learnt
pair_one_answer κs a r r' w w' p q = (same p q, refl)

pub pair_asks_nothing : AsksNothing contracts.pair.ended pair.Reads.Asked
pair_asks_nothing κs a = tt

pub signed16_one_answer : OneAnswer contracts.signed16.ended signed16.Reads.Learnt
signed16_one_answer κs a r r' w w' p q = (same p q, refl)

pub signed16_asks_nothing : AsksNothing contracts.signed16.ended signed16.Reads.Asked
signed16_asks_nothing κs a = tt

pub signed64_one_answer : OneAnswer contracts.signed64.ended signed64.Reads.Learnt
signed64_one_answer κs a r r' w w' p q = (same p q, refl)

pub signed64_asks_nothing : AsksNothing contracts.signed64.ended signed64.Reads.Asked
signed64_asks_nothing κs a = tt

pub read16_one_answer : OneAnswer contracts.read16.ended read16.Reads.Learnt
read16_one_answer κs a r r' w w' p q = (same p q, refl)

pub read32_one_answer : OneAnswer contracts.read32.ended read32.Reads.Learnt
read32_one_answer κs a r r' w w' p q = (same p q, refl)

pub read64_one_answer : OneAnswer contracts.read64.ended read64.Reads.Learnt
read64_one_answer κs a r r' w w' p q = (same p q, refl)
