-- `traces::closing::sum_lines` meets its contract.
use mathlib.Core.Path.{ap}
use native.Mathlib.Omega.{arith}
use lib.IntN.{ℤ}
use Rattle.numbers.proofs.Signed.{read}
use Rattle.rules.specs.Text.{signed, line}
use Rattle.rules.specs.Trace.{sum_text}
use Rattle.sheet.proofs.Overlaid.{wrote_then, wrote_most, wrote_is}
use Rattle.traces.proofs.closing.sum_lines.Goals as goal

pub returns : goal.returns
unfolding sum_text
returns c =
    let fifth = c in
    let fourth = fifth in
    let third = fourth in
    let second = third in
    let first = second in
    let s = first in
    let outside = wrote_is second.signed_line-second.ensures (ap (λ (z : ℤ). line _ (signed z)) (read s.ranges.outside)) in
    let drawn = wrote_is third.signed_line-third.ensures (ap (λ (z : ℤ). line _ (signed z)) (read s.ranges.drawn)) in
    let whole = wrote_is fifth.signed_line.ensures (ap (λ (z : ℤ). line _ (signed z)) (read s.ranges.whole)) in
    wrote_most (wrote_then (wrote_then (wrote_then (wrote_then first.number_line-first.ensures outside (omega arith)) drawn (omega arith)) fourth.amounts_line-fourth.ensures (omega arith)) whole (omega arith)) (omega arith)
