-- `desk::feed_on` meets its contract: the fields until the start are opened, and the rest is read.
use mathlib.Core.Path.{◌≡◌}
use Prim.Native.Nat.{◌+◌, ◌≤◌, ◌<◌, ◌^◌}
use native.Mathlib.Omega.{arith}
use borrow.Author.Rules.{rules}
use lib.ListN.{length}
use Rattle.desk.specs.Feeding.{Laid, laid_of, most_fields}
use Rattle.desk.proofs.Feeds.{open_size_all, then_ground, not_yet, rest_size, read_then}
use borrow.Author.Tests.{not-true, not-false}
use Rattle.desk.proofs.feed_on.Goals as goal
use Rattle.desk.proofs.feed_on.Goals.{After-open_all-x, Start}

abbrev laid : Start → Laid
laid s = laid_of s.args.desk s.args.room.now s.args.ledger.now s.args.map.now

size : (c : After-open_all-x) → (let r = c.open_all-x.result in (r.used ≤ length c.args.input.now) × (r.desk.fields ≤ most_fields + 4))
size c =
    let s = c in
    open_size_all (laid c.before.before.before.before.before.before.before.before) s.args.input.now s.requires.few c.open_all-x.ensures

room_stays : (c : After-open_all-x) → length c.open_all-x.new.room ≡ length c.args.room.now
room_stays c = search rules

pub slice_bounds-read_on-count : goal.slice_bounds-read_on-count
slice_bounds-read_on-count c = (size (goal.at.slice_bounds-read_on-count c).After-open_all-x).0

pub slice_bounds-read_on-start : goal.slice_bounds-read_on-start
slice_bounds-read_on-start c = (size (goal.at.slice_bounds-read_on-start c).After-open_all-x).0

pub shape_of-room : goal.shape_of-room
shape_of-room c =
    let e = c in
    room_stays (goal.at.shape_of-room c).After-open_all-x

pub returns-then-not-on : goal.returns-then-not-on
returns-then-not-on c =
    let x = c in
    let s = x in
    not_yet (laid (goal.at.returns-then-not-on c).Start) s.args.input.now s.requires.few x.open_all-x.ensures (not-true _ c.if-not-on.true)

pub read_on-y-requires : goal.read_on-y-requires
read_on-y-requires c =
    let e = c in
    let x = e in
    let s = x in
    ((size (goal.at.read_on-y-requires c).After-open_all-x).1, not-false _ e.if-not-on.false, then_ground (laid (goal.at.read_on-y-requires c).Start) s.args.input.now s.requires.few x.open_all-x.ensures s.requires.run_ground (not-false _ e.if-not-on.false))

pub overflow_add-result : goal.overflow_add-result
overflow_add-result c =
    let y = c in
    let x = y in
    let s = x in
    let short : length s.args.input.now < 2 ^ 64 = search rules in
    omega (arith, short, rest_size (laid (goal.at.overflow_add-result c).Start) s.args.input.now s.requires.few x.open_all-x.ensures y.read_on-y.ensures)

pub returns : goal.returns
returns c =
    let y = c in
    let e = y in
    let x = e in
    let s = x in
    read_then (laid (goal.at.returns c).Start) s.args.input.now s.requires.few x.open_all-x.ensures y.read_on-y.ensures s.requires.run_ground (not-false _ e.if-not-on.false)
