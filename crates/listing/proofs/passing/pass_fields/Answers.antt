-- `listing::passing::pass_fields` meets its contract.
use mathlib.Core.Path.{sym, ap}
use native.Mathlib.Omega.{arith}
use Rattle.rules.specs.Listing.{Listed}
use Rattle.listing.proofs.Walking.{behind_more, behind_end}
use Rattle.listing.proofs.passing.pass_fields.Goals as goal

pub loop-x-preserved : goal.loop-x-preserved
loop-x-preserved c =
    let a = c.args in
    record { text = _; behind = behind_more a.spot a.input.now c.loop-x.invariant.behind c.in-Some.ensures }

pub overflow_add-used : goal.overflow_add-used
overflow_add-used c = omega (arith, (loop-x-preserved c).behind.within, c.well_formed.1.0.0)

pub loop-x-smaller : goal.loop-x-smaller
loop-x-smaller c = omega (arith, (loop-x-preserved c).behind.within, c.in-Some.ensures.least)

pub returns : goal.returns
returns c =
    let a = c.args in
    ap (λ (x : Listed). x.spot) (sym (behind_end a.spot a.input.now c.loop-x.invariant.behind c.in_default.ensures))
