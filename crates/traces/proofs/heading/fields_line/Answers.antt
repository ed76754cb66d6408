-- `traces::opening::fields_line` meets its contract.
use native.Mathlib.Omega.{arith}
use Rattle.rules.specs.Trace.{fields_line}
use Rattle.sheet.proofs.Overlaid.{wrote_then, wrote_most}
use Rattle.traces.proofs.heading.fields_line.Goals as goal

pub returns : goal.returns
unfolding fields_line
returns c =
    let fifth = c in
    let fourth = fifth in
    let third = fourth in
    let second = third in
    let first = second in
    wrote_most (wrote_then (wrote_then (wrote_then (wrote_then first.put_text-word.ensures second.put_number-next.ensures (omega arith)) third.put_text-name.ensures (omega arith)) fourth.put_number-last.ensures (omega arith)) fifth.number_line.ensures (omega arith)) (omega arith)
