-- `tracing::parts::phase_lines` meets its contract.
use mathlib.Core.Path.{refl, ap}
use native.Mathlib.Omega.{arith}
use borrow.Author.Rules.{rules}
use Rattle.rules.specs.Trace.{phase_line}
use Rattle.sheet.proofs.Overlaid.{wrote_most, wrote_is}
use Rattle.listing.proofs.Texts.{none_in_turn, more_in_turn}
use Rattle.tracing.specs.Traced.{phase_at}
use Rattle.tracing.proofs.parts.phase_lines.Goals as goal

pub loop-k-init : goal.loop-k-init
loop-k-init c =
    let a = c.args in
    (refl, none_in_turn (phase_at a.run a.cycle.now a.ledger.now a.c) a.out.now a.at)

pub loop-k-preserved : goal.loop-k-preserved
loop-k-preserved c =
    let call = c in
    let part = call in
    let at = part in
    let a = at.args in
    let text = ap (phase_line a.c at.loop-k.k) part.phase_on-g.ensures in
    (search rules, wrote_most (more_in_turn (phase_at a.run a.cycle.now a.ledger.now a.c) at.loop-k.k at.loop-k.invariant.1 (wrote_is call.phase_line-next.ensures text) (omega arith)) (omega arith))
