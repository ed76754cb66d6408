-- `sheet::lines::end_line` meets its contract: the word `end`, and a line for each end.
use native.Mathlib.Omega.{arith}
use Rattle.rules.specs.Text.{end_line}
use Rattle.sheet.proofs.Overlaid.{wrote_then, wrote_most}
use Rattle.sheet.proofs.lines.end_line.Goals as goal

pub returns-in-None : goal.returns-in-None
unfolding end_line
returns-in-None c =
    rw c.in-None.is (wrote_most (wrote_then c.put_text-next.ensures c.number_line.ensures (omega arith)) (omega arith))

pub returns-in-Stop : goal.returns-in-Stop
unfolding end_line
returns-in-Stop c =
    rw c.in-Stop.is (wrote_most (wrote_then c.put_text-next.ensures c.number_line-in-Stop.ensures (omega arith)) (omega arith))

pub returns-in-Limit : goal.returns-in-Limit
unfolding end_line
returns-in-Limit c =
    rw c.in-Limit.is (wrote_most (wrote_then c.put_text-next.ensures c.number_line-in-Limit.ensures (omega arith)) (omega arith))
