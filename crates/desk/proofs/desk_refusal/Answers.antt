-- `desk::desk_refusal` meets its contract: each return is under the tests that `desk_ground` makes.
use mathlib.Core.Path.{sym, ◌∙◌}
use lib.Seq.{length-take-le}
use Rattle.desk.specs.Feeding.{Laid, laid_of}
use Rattle.desk.proofs.Grounds.{many_fields, of_opening, no_room, of_reading}
use borrow.Author.Tests.{not-true, not-false}
use Rattle.desk.proofs.desk_refusal.Goals as goal
use Rattle.desk.proofs.desk_refusal.Goals.{Start}

abbrev laid : Start → Laid
laid s = laid_of s.args.desk s.args.room.now s.args.ledger.now s.args.map.now

pub returns-then-desk-gt-MOST_FIELDS : goal.returns-then-desk-gt-MOST_FIELDS
returns-then-desk-gt-MOST_FIELDS c = many_fields (laid (goal.at.returns-then-desk-gt-MOST_FIELDS c).Start) c.if-desk-gt-MOST_FIELDS.true

pub returns-then-not-desk : goal.returns-then-not-desk
returns-then-not-desk c =
    let few = c in
    c.open_refusal.ensures ∙ of_opening (laid (goal.at.returns-then-not-desk c).Start) few.if-desk-gt-MOST_FIELDS.false (not-true _ c.if-not-desk.true)

pub returns-then-room-size : goal.returns-then-room-size
returns-then-room-size c =
    let few = c in
    no_room (laid (goal.at.returns-then-room-size c).Start) few.if-desk-gt-MOST_FIELDS.false (not-false _ c.if-not-desk.false) c.if-room-size.true

pub slice_bounds-read_refusal-end : goal.slice_bounds-read_refusal-end
slice_bounds-read_refusal-end c =
    let room = c in
    let a = c.args in
    sym (length-take-le a.desk.opening.cycle a.room.now room.if-room-size.false)

pub returns : goal.returns
returns c =
    let room = c in
    let few = room in
    c.read_refusal.ensures ∙ of_reading (laid (goal.at.returns c).Start) few.if-desk-gt-MOST_FIELDS.false (not-false _ room.if-not-desk.false) room.if-room-size.false
