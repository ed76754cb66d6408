-- `tracing::behind::figure_lines` meets its contract.
use native.Mathlib.Omega.{arith}
use Rattle.sheet.proofs.Overlaid.{wrote_then, wrote_most}
use Rattle.tracing.specs.Traced.{figures_on}
use Rattle.tracing.proofs.behind.figure_lines.Goals as goal

pub returns : goal.returns
unfolding figures_on
returns c =
    let fifth = c in
    let fourth = fifth in
    let third = fourth in
    let second = third in
    let first = second in
    wrote_most (wrote_then (wrote_then (wrote_then (wrote_then first.weight_lines-weights.ensures second.number_line-weighted.ensures (omega arith)) third.number_line-range.ensures (omega arith)) fourth.charge_line-next.ensures (omega arith)) fifth.recharge_line.ensures (omega arith)) (omega arith)
