-- `sheet::text::put_text` meets its contract.
use native.Mathlib.Omega.{arith}
use Rattle.sheet.proofs.Overlaid.{wrote_byte}
use Rattle.sheet.proofs.text.put_text.Goals as goal

pub returns : goal.returns
returns c = wrote_byte _ c.put-end.ensures (omega arith) (omega arith)
