-- `listing::passing::pass_one` meets its contract.
use mathlib.Core.Path.{sym, ap, ◌∙◌}
use native.Mathlib.Omega.{arith}
use Rattle.std.specs.Prelude.{None, Ok}
use Rattle.std.proofs.Common.{rules, ◌≡◌}
use Rattle.laws.proofs.Answers.{ok_is}
use Rattle.laws.proofs.Tags.{sizes}
use Rattle.fields.proofs.Fronts.{Whole, said_whole, said_incomplete, said_impossible}
use Rattle.listing.specs.Lines.{front_used, front_spot}
use Rattle.listing.proofs.Fronted.{at_incomplete, at_impossible, counts_less}
use Rattle.listing.proofs.passing.pass_one.Goals as goal

pub returns-in_default : goal.returns-in_default
returns-in_default c =
    let is : c.front_of.result ≡ Ok None = search rules in
    let none = at_incomplete c.args.input.now c.args.spot (said_incomplete _ c.front_of.ensures is) in
    sym none.used

pub returns-in_default-2 : goal.returns-in_default-2
returns-in_default-2 c =
    let none = at_impossible c.args.input.now c.args.spot (said_impossible _ _ c.front_of.ensures c.in_default.is).0 in
    sym none.used

pub overflow_add-front : goal.overflow_add-front
overflow_add-front c = let w : Whole c.args.input.now c.in-Ok-Some.front.tag c.in-Ok-Some.front.size = said_whole _ _ c.front_of.ensures (ok_is c.in-Ok-Some.is c.in-Ok-Some.field-0-is) in omega (arith, (sizes _ _ w.allowed).most, w.size)

pub spot_after-requires : goal.spot_after-requires
spot_after-requires c = let w : Whole c.args.input.now c.in-Ok-Some.front.tag c.in-Ok-Some.front.size = said_whole _ _ c.front_of.ensures (ok_is c.in-Ok-Some.is c.in-Ok-Some.field-0-is) in let s = c in (w.allowed, counts_less s.requires (omega (arith, w.size, w.long)))

pub overflow_add-result : goal.overflow_add-result
overflow_add-result c = let w : Whole c.args.input.now c.in-Ok-Some.front.tag c.in-Ok-Some.front.size = said_whole _ _ c.front_of.ensures (ok_is c.in-Ok-Some.is c.in-Ok-Some.field-0-is) in omega (arith, (sizes _ _ w.allowed).most, w.size)

pub returns : goal.returns
returns c =
    let w : Whole c.args.input.now c.in-Ok-Some.front.tag c.in-Ok-Some.front.size = said_whole _ _ c.front_of.ensures (ok_is c.in-Ok-Some.is c.in-Ok-Some.field-0-is) in
    let p = c.args.spot in
    record { used = omega (arith, w.size, ap front_used w.is); spot = c.spot_after.ensures ∙ ap (front_spot p) (sym w.is); least = omega arith }

pub slice_bounds-spot_after-end : goal.slice_bounds-spot_after-end
slice_bounds-spot_after-end c =
    let w : Whole c.args.input.now c.in-Ok-Some.front.tag c.in-Ok-Some.front.size = said_whole _ _ c.front_of.ensures (ok_is c.in-Ok-Some.is c.in-Ok-Some.field-0-is) in
    w.long
