-- No doubt about `paperwhelk`: each contract has one answer, and those of the operations ask nothing.
-- Assumes nothing.
use mathlib.Core.Path.{refl}
use Rattle.paperwhelk.specs.contracts
use Rattle.paperwhelk.proofs.verdict.paperwhelk_verdict
use Rattle.paperwhelk.proofs.sheets.paperwhelk_sheet
use Rattle.demands.specs.Calls.{AsksNothing, OneAnswer}
use Rattle.demands.proofs.NoDoubt.{same}

pub paperwhelk_verdict_one_answer : OneAnswer contracts.verdict.paperwhelk_verdict.ended paperwhelk_verdict.Reads.Learnt
paperwhelk_verdict_one_answer κs a r r' w w' p q = (same p q, refl)

pub paperwhelk_verdict_asks_nothing : AsksNothing contracts.verdict.paperwhelk_verdict.ended paperwhelk_verdict.Reads.Asked
paperwhelk_verdict_asks_nothing κs a = tt

pub paperwhelk_sheet_one_answer : OneAnswer contracts.sheets.paperwhelk_sheet.ended paperwhelk_sheet.Reads.Learnt
paperwhelk_sheet_one_answer κs a r r' w w' p q = (same p.0 q.0, λ i. (tt, (same p.1.0 q.1.0 i, tt)))

pub paperwhelk_sheet_asks_nothing : AsksNothing contracts.sheets.paperwhelk_sheet.ended paperwhelk_sheet.Reads.Asked
paperwhelk_sheet_asks_nothing κs a = tt
