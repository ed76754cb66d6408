-- `reader::open` meets its contract: the room and the opening are tested, then what stands at the front is answered.
use mathlib.Core.Path.{refl, sym, ◌∙◌}
use native.Mathlib.Omega.{arith}
use Rattle.rules.specs.Numbered.{number}
use Rattle.laws.proofs.Tags.{sizes}
use Rattle.fields.proofs.Fronts.{Whole, said_whole, said_incomplete, said_impossible}
use Rattle.laws.specs.Answers.{refuses}
use Rattle.laws.proofs.Answers.{numbered, ok_is}
use Rattle.state.specs.State.{lent}
use Rattle.opening.proofs.Starting.{ground_refuses, ground_passes}
use Rattle.reader.proofs.open.Goals as goal
use Rattle.reader.proofs.open.Goals.{In-Ok-Some}

whole : (c : In-Ok-Some) → Whole c.args.input.now c.in-Ok-Some.front.tag c.in-Ok-Some.front.size
whole c = said_whole _ _ c.front_of.ensures (ok_is c.in-Ok-Some.is c.in-Ok-Some.field-0-is)

pub returns-in-Err : goal.returns-in-Err
returns-in-Err c =
    let a = c.args in
    ground_refuses a.opening a.room.now a.ledger.now a.map.now a.input.now c.in-Err.ensures (numbered c.in-Err.refusal) (c.refused_at.ensures.said number)

pub overflow_add-front : goal.overflow_add-front
overflow_add-front c = let w = whole (goal.at.overflow_add-front c).In-Ok-Some in omega (arith, (sizes _ _ w.allowed).most, w.size)

pub slice_bounds-open_whole-end : goal.slice_bounds-open_whole-end
slice_bounds-open_whole-end c = (whole (goal.at.slice_bounds-open_whole-end c).In-Ok-Some).long

pub open_whole-requires : goal.open_whole-requires
open_whole-requires c =
    let known = c in
    ((whole (goal.at.open_whole-requires c).In-Ok-Some).allowed, sym c.in_default.ensures)

pub returns-in-Ok-None : goal.returns-in-Ok-None
returns-in-Ok-None c =
    let front = c in
    let a = front.args in
    ground_passes a.opening a.room.now a.ledger.now a.map.now a.input.now (sym c.in_default.ensures)
    (said_incomplete _ front.front_of.ensures (ok_is c.in-Ok-None.is c.in-Ok-None.field-0-is)) refl

pub returns-in-Err-front_of : goal.returns-in-Err-front_of
returns-in-Err-front_of c =
    let a = c.args in
    let (none, eight) = said_impossible _ _ c.front_of.ensures c.in-Err-front_of.is in
    ground_passes a.opening a.room.now a.ledger.now a.map.now a.input.now (sym c.in_default.ensures) none
    (λ i. record { answer = (c.refused_at-in-Err-front_of.ensures.said number ∙ (λ j. record { says = refuses (eight j); opening = a.opening })) i; room = a.room.now; memory = lent a.ledger.now a.map.now })

pub returns-in-Ok-Some : goal.returns-in-Ok-Some
returns-in-Ok-Some c =
    let taken = c in
    let known = taken in
    let a = known.args in
    ground_passes a.opening a.room.now a.ledger.now a.map.now a.input.now (sym c.in_default.ensures) (whole (goal.at.returns-in-Ok-Some c).In-Ok-Some).is taken.open_whole.ensures
