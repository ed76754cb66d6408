-- `sheet::lines::number_line` meets its contract.
use native.Mathlib.Omega.{arith}
use Rattle.rules.specs.Text.{line}
use Rattle.sheet.proofs.Overlaid.{wrote_then, wrote_most}
use Rattle.sheet.proofs.lines.number_line.Goals as goal

pub returns : goal.returns
unfolding line
returns c =
    wrote_most (wrote_then c.put_text-next.ensures c.put_number.ensures (omega arith)) (omega arith)
