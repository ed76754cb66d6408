-- `sheet::sheets::head_lines` meets its contract: three lines.
use native.Mathlib.Omega.{arith}
use Rattle.rules.specs.Text.{head_lines}
use Rattle.sheet.proofs.Overlaid.{wrote_then, wrote_most}
use Rattle.sheet.proofs.sheets.head_lines.Goals as goal

pub returns : goal.returns
unfolding head_lines
returns c =
    wrote_most (wrote_then (wrote_then c.text_line-run.ensures c.end_line-next.ensures (omega arith)) c.number_line.ensures (omega arith)) (omega arith)
