-- `opening::open_start` meets its contract: the judge's answer to the start is the field's.
use mathlib.Core.Path.{sym}
use lib.Seq.{length-take-le}
use Rattle.rules.specs.Numbered.{number}
use Rattle.opening.proofs.Starting.{start_refused, start_taken}
use Rattle.opening.proofs.open_start.Goals as goal

pub slice_bounds-start-end : goal.slice_bounds-start-end
slice_bounds-start-end c = let s = c in sym (length-take-le s.args.o.cycle s.args.room.now s.requires.1)

pub with_field-requires : goal.with_field-requires
with_field-requires c = c.requires.0

pub returns-in-Err : goal.returns-in-Err
returns-in-Err c =
    let known = c in
    let start = known in
    let t = start in
    let a = t.args in
    start_refused a.o a.room.now a.ledger.now a.map.now a.v.now a.n t.tolerances_of.ensures _ start.start-answer.ensures
    known.in-Err.is (c.refused_at.ensures.said number)

pub returns-in-Ok : goal.returns-in-Ok
returns-in-Ok c =
    let known = c in
    let start = known in
    let t = start in
    let a = t.args in
    start_taken a.o a.room.now a.ledger.now a.map.now a.v.now a.n t.tolerances_of.ensures _ start.start-answer.ensures
    known.in-Ok.is c.with_field.ensures
