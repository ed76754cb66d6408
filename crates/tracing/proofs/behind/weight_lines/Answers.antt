-- `tracing::behind::weight_lines` meets its contract.
use mathlib.Core.Path.{refl}
use Prim.Native.Nat.{◌*◌}
use native.Mathlib.Omega.{arith}
use borrow.Author.Rules.{rules}
use Rattle.rules.specs.Trace.{weight_text}
use Rattle.sheet.proofs.Overlaid.{wrote_most, wrote_is}
use Rattle.listing.proofs.Texts.{none_in_turn, more_in_turn}
use Rattle.tracing.specs.Traced.{weight_at}
use Rattle.tracing.proofs.behind.weight_lines.Goals as goal

pub loop-c-init : goal.loop-c-init
loop-c-init c =
    let a = c.args in
    (refl, none_in_turn (weight_at a.ledger.now a.whole a.n) a.out.now a.at)

pub loop-c-preserved : goal.loop-c-preserved
loop-c-preserved c =
    let call = c in
    let num = call in
    let at = num in
    let den = at.saturating_sub.ensures in
    let a = at.args in
    (search rules, wrote_most (more_in_turn (weight_at a.ledger.now a.whole a.n) at.loop-c.c at.loop-c.invariant.1 (wrote_is call.weight_line-next.ensures (λ i. weight_text at.loop-c.c (num.weight_in-num.ensures i) (a.whole * den i))) (omega arith)) (omega arith))
