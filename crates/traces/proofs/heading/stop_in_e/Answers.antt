-- `traces::opening::stop_in_e` meets its contract.
use native.Mathlib.Omega.{arith}
use Rattle.sheet.proofs.Overlaid.{wrote_then, wrote_most}
use Rattle.traces.proofs.heading.stop_in_e.Goals as goal

pub returns : goal.returns
returns c =
    let second = c in
    let first = second in
    wrote_most (wrote_then first.put_text-next.ensures second.text_line.ensures (omega arith)) (omega arith)
