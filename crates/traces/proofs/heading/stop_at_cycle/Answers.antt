-- `traces::opening::stop_at_cycle` meets its contract.
use native.Mathlib.Omega.{arith}
use Rattle.sheet.proofs.Overlaid.{wrote_then, wrote_most}
use Rattle.traces.proofs.heading.stop_at_cycle.Goals as goal

pub returns : goal.returns
returns c =
    let fourth = c in
    let third = fourth in
    let second = third in
    let first = second in
    wrote_most (wrote_then (wrote_then (wrote_then first.put_text-word.ensures second.put_text-name.ensures (omega arith)) third.put_number-next.ensures (omega arith)) fourth.number_line.ensures (omega arith)) (omega arith)
