-- `traces::opening::plan_lines` meets its contract.
use native.Mathlib.Omega.{arith}
use Rattle.rules.specs.Trace.{plan_lines}
use Rattle.sheet.proofs.Overlaid.{wrote_then, wrote_most}
use Rattle.traces.proofs.heading.plan_lines.Goals as goal

pub returns : goal.returns
unfolding plan_lines
returns c =
    let fourth = c in
    let third = fourth in
    let second = third in
    let first = second in
    wrote_most (wrote_then (wrote_then (wrote_then first.text_line-run.ensures second.method_line-driven.ensures (omega arith)) third.cycle_line-next.ensures (omega arith)) fourth.tolerances_line.ensures (omega arith)) (omega arith)
