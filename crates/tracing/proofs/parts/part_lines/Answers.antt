-- `tracing::parts::part_lines` meets its contract.
use mathlib.Core.Path.{ap}
use native.Mathlib.Omega.{arith}
use Rattle.rules.specs.Words.{spell}
use Rattle.rules.specs.Trace.{stretch_line}
use Rattle.sheet.proofs.Overlaid.{wrote_then, wrote_most, wrote_is}
use Rattle.tracing.specs.Traced.{parts_on}
use Rattle.tracing.proofs.parts.part_lines.Goals as goal

pub returns : goal.returns
unfolding parts_on
returns c =
    let third = c in
    let second = third in
    let first = second in
    let in_e = first in
    let M = wrote_is second.stretch_line-next.ensures (ap (stretch_line (spell "M")) in_e.stretch_m-in_m.ensures) in
    let E = wrote_is third.stretch_line.ensures (ap (stretch_line (spell "E")) in_e.stretch_e-in_e.ensures) in
    wrote_most (wrote_then (wrote_then first.all_cycles-cycles.ensures M (omega arith)) E (omega arith)) (omega arith)
