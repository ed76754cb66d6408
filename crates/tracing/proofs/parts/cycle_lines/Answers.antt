-- `tracing::parts::cycle_lines` meets its contract: the row of a cycle is the ledger's.
use mathlib.Core.Path.{◌∙◌}
use native.Mathlib.Omega.{arith}
use mir.Syntax.{w64}
use Rattle.numbers.proofs.Signed.{read}
use Rattle.rules.specs.Trace.{row_line}
use Rattle.sheet.proofs.Overlaid.{wrote_then, wrote_most, wrote_is}
use Rattle.tracing.specs.Traced.{cycle_at}
use Rattle.tracing.proofs.Lines.{row_part_lem}
use Rattle.tracing.proofs.parts.cycle_lines.Goals as goal

pub returns : goal.returns
unfolding cycle_at
returns c =
    let second = c in
    let first = second in
    let outside = first in
    let row = outside in
    let s = row in
    let a = s.args in
    let row_is = row.row_on-g.ensures.value ∙ row_part_lem a.run a.ledger.now a.c s.requires.4 in
    let outside_is = read {w = w64} (record { sfits = outside.outside_on-outside.type_inv }) ∙ outside.outside_on-outside.ensures in
    wrote_most (wrote_then first.phase_lines-next.ensures (wrote_is second.row_line.ensures (λ i. row_line a.c (row_is i) (outside_is i))) (omega arith)) (omega arith)
