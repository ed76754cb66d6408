-- `sheet::sheets::closed_lines` meets its contract: three lines.
use native.Mathlib.Omega.{arith}
use Rattle.rules.specs.Text.{closed_lines}
use Rattle.sheet.proofs.Overlaid.{wrote_then, wrote_most}
use Rattle.sheet.proofs.sheets.closed_lines.Goals as goal

pub returns : goal.returns
unfolding closed_lines
returns c =
    wrote_most
    (wrote_then (wrote_then c.number_line-first.ensures c.number_line-second.ensures (omega arith)) c.recharge_line.ensures (omega arith))
    (omega arith)
