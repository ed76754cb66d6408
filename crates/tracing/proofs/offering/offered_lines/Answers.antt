-- `tracing::offering::offered_lines` meets its contract.
use native.Mathlib.Omega.{arith}
use Rattle.sheet.proofs.Overlaid.{wrote_then, wrote_most}
use Rattle.tracing.specs.Traced.{offered_on}
use Rattle.tracing.proofs.offering.offered_lines.Goals as goal

pub returns : goal.returns
unfolding offered_on
returns c =
    let fourth = c in
    let third = fourth in
    let second = third in
    let first = second in
    wrote_most (wrote_then (wrote_then (wrote_then first.fields_line-first.ensures second.number_line-second.ensures (omega arith)) third.end_line-third.ensures (omega arith)) fourth.stop_line.ensures (omega arith)) (omega arith)
