-- `intake::parts::read_through` meets its contract and ends: each turn begins where the one before stood, and one that goes on leaves fewer bytes to read.
use mathlib.Core.Path.{refl, sym, ◌∙◌}
use native.Mathlib.Omega.{arith}
use Rattle.intake.proofs.Coming.{nothing_yet, on_again, all_came}
use Rattle.intake.proofs.Untested.{stood_steady}
use Rattle.intake.proofs.parts.read_through.Goals as goal

pub loop-turn-init : goal.loop-turn-init
loop-turn-init c = (omega arith, (refl, (refl, (refl, refl))), nothing_yet _ _ _ _ _ _ c.empty.ensures, omega arith)

pub read_once-turn-requires : goal.read_once-turn-requires
read_once-turn-requires c =
    let at = c in
    (at.loop-turn.invariant.0, at.loop-turn.invariant.3, omega (arith, at.loop-turn.invariant.1.0, at.requires), omega arith, stood_steady _ _ _ _ _ _ _ _ _ _ _ _ at.loop-turn.invariant.2)

pub returns-then-not-goes_on : goal.returns-then-not-goes_on
returns-then-not-goes_on c = (c.read_once-turn.ensures.leads _ _ c.loop-turn.invariant.2).stood

pub loop-turn-smaller : goal.loop-turn-smaller
loop-turn-smaller c =
    let f = c in
    f.read_once-turn.ensures.goes.falls (sym f.goes_on.ensures ∙ c.if-not-goes_on.false)

pub returns : goal.returns
returns c = all_came _ _ _ _ _ _ _ _ _ _ c.loop-turn.invariant.2

pub loop-turn-preserved : goal.loop-turn-preserved
loop-turn-preserved c =
    let f = c in
    let k = f.read_once-turn.auto in
    let i = f.loop-turn.invariant in
    let e = f.read_once-turn.ensures in
    let on = sym f.goes_on.ensures ∙ c.if-not-goes_on.false in (
      e.goes.short on,
      (k.buffer ∙ i.1.0, (k.room ∙ i.1.1.0, (k.ledger ∙ i.1.1.1.0, k.map ∙ i.1.1.1.1))),
      on_again _ _ _ _ _ _ _ on (e.leads _ _ i.2).stood,
      omega (arith, e.goes.within, k.buffer),
    )
