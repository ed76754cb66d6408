-- No doubt about `sheet`: each contract has one answer, and those of the operations ask nothing.
-- Assumes nothing.
use Rattle.sheet.specs.contracts
use Rattle.sheet.proofs.sheet_lines
use Rattle.sheet.proofs.refusal_line
use Rattle.sheet.proofs.text.put_text
use Rattle.sheet.proofs.text.put_number
use Rattle.sheet.proofs.text.put_signed
use Rattle.sheet.proofs.lines.text_line
use Rattle.sheet.proofs.lines.number_line
use Rattle.sheet.proofs.lines.signed_line
use Rattle.sheet.proofs.lines.end_line
use Rattle.sheet.proofs.lines.refused_line
use Rattle.sheet.proofs.lines.recharge_line
use Rattle.demands.specs.Calls.{AsksNothing, OneAnswer}
use Rattle.demands.proofs.NoDoubt.{same}

pub sheet_lines_one_answer : OneAnswer contracts.sheet_lines.ended sheet_lines.Reads.Learnt
sheet_lines_one_answer κs a r r' w w' p q = (same p.0 q.0, λ i. (tt, (same p.1 q.1 i, tt)))

pub sheet_lines_asks_nothing : AsksNothing contracts.sheet_lines.ended sheet_lines.Reads.Asked
sheet_lines_asks_nothing κs a = tt

pub refusal_line_one_answer : OneAnswer contracts.refusal_line.ended refusal_line.Reads.Learnt
refusal_line_one_answer κs a r r' w w' p q = (same p.0 q.0, λ i. (tt, (tt, (same p.1 q.1 i, tt))))

pub refusal_line_asks_nothing : AsksNothing contracts.refusal_line.ended refusal_line.Reads.Asked
refusal_line_asks_nothing κs a = tt

pub put_text_one_answer : OneAnswer contracts.text.put_text.ended put_text.Reads.Learnt
put_text_one_answer κs a r r' w w' p q = (same p.place q.place, λ i. (same p.bytes q.bytes i, (tt, (tt, (tt, tt)))))

pub put_number_one_answer : OneAnswer contracts.text.put_number.ended put_number.Reads.Learnt
put_number_one_answer κs a r r' w w' p q = (same p.place q.place, λ i. (same p.bytes q.bytes i, (tt, (tt, (tt, tt)))))

pub put_signed_one_answer : OneAnswer contracts.text.put_signed.ended put_signed.Reads.Learnt
put_signed_one_answer κs a r r' w w' p q = (same p.place q.place, λ i. (same p.bytes q.bytes i, (tt, (tt, (tt, tt)))))

pub text_line_one_answer : OneAnswer contracts.lines.text_line.ended text_line.Reads.Learnt
text_line_one_answer κs a r r' w w' p q = (same p.place q.place, λ i. (same p.bytes q.bytes i, (tt, (tt, (tt, tt)))))

pub number_line_one_answer : OneAnswer contracts.lines.number_line.ended number_line.Reads.Learnt
number_line_one_answer κs a r r' w w' p q = (same p.place q.place, λ i. (same p.bytes q.bytes i, (tt, (tt, (tt, tt)))))

pub signed_line_one_answer : OneAnswer contracts.lines.signed_line.ended signed_line.Reads.Learnt
signed_line_one_answer κs a r r' w w' p q = (same p.place q.place, λ i. (same p.bytes q.bytes i, (tt, (tt, (tt, tt)))))

pub end_line_one_answer : OneAnswer contracts.lines.end_line.ended end_line.Reads.Learnt
end_line_one_answer κs a r r' w w' p q = (same p.place q.place, λ i. (same p.bytes q.bytes i, (tt, (tt, (tt, tt)))))

pub refused_line_one_answer : OneAnswer contracts.lines.refused_line.ended refused_line.Reads.Learnt
refused_line_one_answer κs a r r' w w' p q = (same p.place q.place, λ i. (same p.bytes q.bytes i, (tt, (tt, tt))))

pub recharge_line_one_answer : OneAnswer contracts.lines.recharge_line.ended recharge_line.Reads.Learnt
recharge_line_one_answer κs a r r' w w' p q = (same p.place q.place, λ i. (same p.bytes q.bytes i, (tt, (tt, tt))))
