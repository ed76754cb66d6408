-- `opening::open_whole` meets its contract: "8, 9, then its content", by the tag.
use mathlib.Core.Bool.{true}
use mathlib.Core.Path.{◌≡◌, sym, ◌∙◌}
use native.Mathlib.Omega.{arith}
use Prim.Native.Nat.{◌≤◌}
use lib.ListN.{length}
use Rattle.rules.specs.Numbered.{number}
use Rattle.laws.proofs.Tags.{Sizes, sizes}
use Rattle.fields.specs.Fields.{has_row}
use Rattle.opening.proofs.Readied.{Ready, ground_ready}
use Rattle.opening.proofs.Starting.{no_row, out_of_order, number_opens, cycle_opens, start_opens, mark_opens}
use Rattle.opening.proofs.open_whole.Goals as goal
use Rattle.opening.proofs.open_whole.Goals.{Else-not-is_value, Start}

ready : (c : Start) → Ready c.args.o c.args.room.now
ready c = ground_ready _ _ c.requires.1

fits : (c : Start) → c.args.o.cycle ≤ length c.args.room.now
fits c = omega (arith, (ready c).room, (ready c).size)

lengths : (c : Start) → Sizes c.args.tag (length c.args.v.now)
lengths c = sizes _ _ c.requires.0

row : (c : Else-not-is_value) → has_row c.args.tag c.args.v.now ≡ true
row c = sym c.is_value.ensures ∙ c.if-not-is_value.false

pub is_value-requires : goal.is_value-requires
is_value-requires c = c.requires.0

pub returns-then-not-is_value : goal.returns-then-not-is_value
returns-then-not-is_value c =
    let t = c in
    let a = t.args in
    no_row a.o a.room.now a.ledger.now a.map.now a.v.now a.tag (sym t.is_value.ensures ∙ t.if-not-is_value.true) (c.refused_at.ensures.said number)

pub overflow_add-o : goal.overflow_add-o
overflow_add-o c = omega (arith, (ready (goal.at.overflow_add-o c).Start).few)

pub returns-then-tag-o : goal.returns-then-tag-o
returns-then-tag-o c =
    let t = c in
    let e = t in
    let s = e in
    let a = s.args in
    out_of_order a.o a.room.now a.ledger.now a.map.now a.v.now a.tag (row (goal.at.returns-then-tag-o c).Else-not-is_value) (ready (goal.at.returns-then-tag-o c).Start).few s.requires.0 t.if-tag-o.true (c.refused_at-then-tag-o.ensures.said number)

pub open_number-requires : goal.open_number-requires
open_number-requires c = let s = c in ((ready (goal.at.open_number-requires c).Start).few, (lengths (goal.at.open_number-requires c).Start).number c.in-2.is)

pub open_cycle-requires : goal.open_cycle-requires
open_cycle-requires c = let s = c in ((ready (goal.at.open_cycle-requires c).Start).few, omega (arith, (ready (goal.at.open_cycle-requires c).Start).room, (lengths (goal.at.open_cycle-requires c).Start).most))

pub open_start-requires : goal.open_start-requires
open_start-requires c =
    let m = c in
    let s = c in
    let n = (lengths (goal.at.open_start-requires c).Start).tolerances m.in-4.is in
    ((ready (goal.at.open_start-requires c).Start).few, omega (arith, (ready (goal.at.open_start-requires c).Start).room, (ready (goal.at.open_start-requires c).Start).size), omega arith)

pub with_field-requires : goal.with_field-requires
with_field-requires c = (ready (goal.at.with_field-requires c).Start).few

pub returns-in-2 : goal.returns-in-2
returns-in-2 c =
    let at = c in
    let s = c in
    let a = s.args in
    number_opens a.o a.room.now a.ledger.now a.map.now a.v.now a.tag at.if-tag-o.false (fits (goal.at.returns-in-2 c).Start) at.in-2.is c.open_number.ensures

pub returns-in-3 : goal.returns-in-3
returns-in-3 c =
    let cycle = c in
    let at = cycle in
    let s = c in
    let a = s.args in
    let e = cycle.open_cycle.ensures in
    cycle_opens a.o a.room.now a.ledger.now a.map.now a.v.now a.tag at.if-tag-o.false (fits (goal.at.returns-in-3 c).Start) at.in-3.is e.result_value e.room_after

pub returns-in-4 : goal.returns-in-4
returns-in-4 c =
    let start = c in
    let at = start in
    let s = c in
    let a = s.args in
    start_opens a.o a.room.now a.ledger.now a.map.now a.v.now a.tag at.if-tag-o.false (fits (goal.at.returns-in-4 c).Start) at.in-4.is start.open_start.ensures

pub returns-in_default : goal.returns-in_default
returns-in_default c =
    let at = c in
    let s = c in
    let a = s.args in
    let none = at.in_default.in_default-own.rest in
    mark_opens a.o a.room.now a.ledger.now a.map.now a.v.now a.tag at.if-tag-o.false (fits (goal.at.returns-in_default c).Start) (row (goal.at.returns-in_default c).Else-not-is_value) (ready (goal.at.returns-in_default c).Start).few
    none.0.0.1 none.0.1 none.1 c.with_field.ensures
