-- `walk::passing::pass_through` meets its contract.
use mathlib.Core.Path.{refl, sym, ◌∙◌}
use native.Mathlib.Omega.{arith}
use Rattle.walk.proofs.Going.{going_none, going_ready, shows_on, going_on_lem}
use Rattle.walk.proofs.passing.pass_through.Goals as goal

pub loop-walk-init : goal.loop-walk-init
loop-walk-init c = let s = c in ((refl, (refl, (refl, refl))), record { text = _; going = going_none _ _ _ _ _ _ c.begin-walk.ensures (omega (arith, s.ranges.most)) })

pub pass_on-walk-requires : goal.pass_on-walk-requires
pass_on-walk-requires c = let at = c in let s = at in going_ready at.loop-walk.invariant.1.going (omega arith) (omega (arith, at.loop-walk.invariant.0.0, s.requires))

pub returns-then-not-goes_on : goal.returns-then-not-goes_on
returns-then-not-goes_on c = let t = c in record { text = _; shows = shows_on c.loop-walk.invariant.1.going t.pass_on-walk.result _ t.pass_on-walk.ensures.adds }

pub loop-walk-smaller : goal.loop-walk-smaller
loop-walk-smaller c =
    let f = c in
    omega (arith, f.pass_on-walk.ensures.goes.0.falls (sym f.goes_on.ensures ∙ c.if-not-goes_on.false))

pub loop-walk-preserved : goal.loop-walk-preserved
loop-walk-preserved c =
    let f = c in
    let t = f in
    let k = t.pass_on-walk.auto in
    let i = f.loop-walk.invariant in (
      (k.buffer ∙ i.0.0, (k.room ∙ i.0.1.0, (k.ledger ∙ i.0.1.1.0, k.map ∙ i.0.1.1.1))),
      record { text = _; going = going_on_lem i.1.going t.pass_on-walk.result _ t.pass_on-walk.ensures.adds (sym f.goes_on.ensures ∙ c.if-not-goes_on.false) t.pass_on-walk.ensures.goes.0 k.buffer t.pass_on-walk.ensures.goes.1 },
    )

pub returns : goal.returns
returns c = record { text = _; shows = c.loop-walk.invariant.1.going.shows }
