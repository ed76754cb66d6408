-- `listing::list_one` meets its contract.
use mathlib.Core.Path.{refl, sym, ap, ◌∙◌}
use native.Mathlib.Omega.{arith}
use Rattle.std.specs.Prelude.{None, Ok, Err}
use Rattle.std.proofs.Common.{rules, ◌≡◌}
use Rattle.laws.proofs.Answers.{ok_is}
use Rattle.laws.proofs.Tags.{sizes}
use Rattle.fields.proofs.Fronts.{Whole, said_whole, said_incomplete, said_impossible}
use Rattle.sheet.proofs.Overlaid.{wrote_is}
use Rattle.listing.specs.Lines.{front_used, front_spot, front_text}
use Rattle.listing.proofs.Fronted.{at_incomplete, at_impossible, counts_less}
use Rattle.listing.proofs.list_one.Goals as goal

pub returns-in_default : goal.returns-in_default
returns-in_default c =
    let is : c.front_of.result ≡ Ok None = search rules in
    let none = at_incomplete c.args.input.now c.args.spot (said_incomplete _ c.front_of.ensures is) in
    (sym none.used, refl)

pub returns-in_default-2 : goal.returns-in_default-2
returns-in_default-2 c =
    let none = at_impossible c.args.input.now c.args.spot (said_impossible _ _ c.front_of.ensures c.in_default.is).0 in
    (sym none.used, refl)

pub overflow_add-value : goal.overflow_add-value
overflow_add-value c = let w : Whole c.args.input.now c.in-Ok-Some.front.tag c.in-Ok-Some.front.size = said_whole _ _ c.front_of.ensures (ok_is c.in-Ok-Some.is c.in-Ok-Some.field-0-is) in omega (arith, (sizes _ _ w.allowed).most, w.size)

pub list_whole-requires : goal.list_whole-requires
list_whole-requires c = let w : Whole c.args.input.now c.in-Ok-Some.front.tag c.in-Ok-Some.front.size = said_whole _ _ c.front_of.ensures (ok_is c.in-Ok-Some.is c.in-Ok-Some.field-0-is) in let s = c in (w.allowed, s.requires.0, counts_less s.requires.1 (omega (arith, w.size, w.long)))

pub returns : goal.returns
returns c =
    let call = c in
    let w : Whole c.args.input.now c.in-Ok-Some.front.tag c.in-Ok-Some.front.size = said_whole _ _ c.front_of.ensures (ok_is c.in-Ok-Some.is c.in-Ok-Some.field-0-is) in
    let p = call.args.spot in
    let known = call.list_whole.ensures.used_value in
    let written = call.list_whole.ensures.wrote in (
      record { used = known.0 ∙ ap front_used (sym w.is); spot = known.1 ∙ ap (front_spot p) (sym w.is); least = omega (arith, known.0) },
      wrote_is written (ap (front_text p) (sym w.is)),
    )

pub slice_bounds-value-end : goal.slice_bounds-value-end
slice_bounds-value-end c =
    let w : Whole c.args.input.now c.in-Ok-Some.front.tag c.in-Ok-Some.front.size = said_whole _ _ c.front_of.ensures (ok_is c.in-Ok-Some.is c.in-Ok-Some.field-0-is) in
    w.long
