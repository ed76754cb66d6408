-- `reading::one_field` meets its contract: what stands at the front is answered, and a whole field is taken.
use native.Mathlib.Omega.{arith}
use Rattle.laws.proofs.Tags.{sizes}
use Rattle.fields.proofs.Fronts.{Whole, said_whole, said_incomplete, said_impossible}
use mathlib.Core.Path.{◌∙◌}
use Rattle.laws.proofs.Answers.{ok_is}
use Rattle.rules.specs.Numbered.{number}
use Rattle.laws.specs.Answers.{gives, refuses}
use Rattle.step.specs.Where.{with_memory}
use Rattle.reading.specs.Along.{along_of, stage_along}
use Rattle.reading.specs.Answers.{unfinished}
use Rattle.reading.proofs.Taking.{unmoved, front_taken_lem}
use Rattle.reading.proofs.one_field.Goals as goal
use Rattle.reading.proofs.one_field.Goals.{In-Ok-Some}

whole : (c : In-Ok-Some) → Whole c.args.input.now c.in-Ok-Some.front.tag c.in-Ok-Some.front.size
whole c = said_whole _ _ c.front_of.ensures (ok_is c.in-Ok-Some.is c.in-Ok-Some.field-0-is)

pub overflow_add-front : goal.overflow_add-front
overflow_add-front c = let w = whole (goal.at.overflow_add-front c).In-Ok-Some in omega (arith, (sizes _ _ w.allowed).most, w.size)

pub slice_bounds-whole_field-end : goal.slice_bounds-whole_field-end
slice_bounds-whole_field-end c = (whole (goal.at.slice_bounds-whole_field-end c).In-Ok-Some).long

pub whole_field-requires : goal.whole_field-requires
whole_field-requires c =
    let known = c in
    (known.requires, (whole (goal.at.whole_field-requires c).In-Ok-Some).allowed)

pub returns-in-Ok-None : goal.returns-in-Ok-None
returns-in-Ok-None c =
    let s = c in
    let a = s.args in
    front_taken_lem a.cycle.now a.t a.k a.ledger.now a.map.now a.me.now a.input.now (said_incomplete _ c.front_of.ensures (ok_is c.in-Ok-None.is c.in-Ok-None.field-0-is))
    (unmoved a.cycle.now a.t a.k a.ledger.now a.map.now a.me.now s.requires.kept (gives unfinished))

pub returns-in-Err : goal.returns-in-Err
returns-in-Err c =
    let a = c.args in
    let (none, eight) = said_impossible _ _ c.front_of.ensures c.in-Err.is in
    front_taken_lem a.cycle.now a.t a.k a.ledger.now a.map.now a.me.now a.input.now none
    (unmoved a.cycle.now a.t a.k a.ledger.now a.map.now a.me.now c.requires.kept (refuses (number c.in-Err.refusal))
    ∙ (λ i. record { answer = record { says = refuses (eight i); state = along_of (stage_along a.me.now a.cycle.now a.t a.k a.ledger.now a.map.now) }; memory = (with_memory a.k.taken a.ledger.now a.map.now).memory }))

pub returns-in-Ok-Some : goal.returns-in-Ok-Some
returns-in-Ok-Some c =
    let taken = c in
    let known = taken in
    let a = known.args in
    front_taken_lem a.cycle.now a.t a.k a.ledger.now a.map.now a.me.now a.input.now (whole (goal.at.returns-in-Ok-Some c).In-Ok-Some).is taken.whole_field.ensures
