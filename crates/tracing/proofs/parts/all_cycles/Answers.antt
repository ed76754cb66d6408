-- `tracing::parts::all_cycles` meets its contract.
use mathlib.Core.Path.{refl}
use native.Mathlib.Omega.{arith}
use borrow.Author.Rules.{rules}
use Rattle.sheet.proofs.Overlaid.{wrote_most}
use Rattle.listing.proofs.Texts.{none_in_turn, more_in_turn}
use Rattle.tracing.specs.Traced.{cycle_at}
use Rattle.tracing.proofs.parts.all_cycles.Goals as goal

pub loop-c-init : goal.loop-c-init
loop-c-init c =
    let a = c.args in
    (refl, none_in_turn (cycle_at a.run a.cycle.now a.ledger.now) a.out.now a.at)

pub loop-c-preserved : goal.loop-c-preserved
loop-c-preserved c =
    let call = c in
    let at = call in
    let a = at.args in
    (search rules, wrote_most (more_in_turn (cycle_at a.run a.cycle.now a.ledger.now) at.loop-c.c at.loop-c.invariant.1 call.cycle_lines-next.ensures (omega arith)) (omega arith))
