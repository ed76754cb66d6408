-- `reading::all_fields` meets its contract. The loop's invariant: the fields of the first `used` bytes are taken.
use mathlib.Core.Path.{refl}
use Prim.Native.Nat.{◌+◌, ◌≤◌, ◌<◌, ◌^◌}
use native.Mathlib.Omega.{arith}
use borrow.Author.Rules.{rules}
use lib.ListN.{length}
use Rattle.reading.proofs.Loop.{past_none, turn, turn_end, turn_size, nothing_left}
use Rattle.reading.proofs.all_fields.Goals as goal
use Rattle.reading.proofs.all_fields.Goals.{Else-n-eq0, Start}

-- an input is shorter than the machine's numbers
short : (c : Start) → length c.args.input.now < 2 ^ 64
short c = search rules

-- the bytes of the field that is taken
sized : (c : Else-n-eq0) → (let at = c.before in (3 ≤ c.bytes_of-n.result) × (at.loop-used.used + c.bytes_of-n.result ≤ length at.args.input.now))
sized c =
    let f = c.before in
    let at = f in
    turn_size at.args.me.now at.args.cycle.now at.args.t at.loop-used.invariant.2 f.one_field-x.ensures f.bytes_of-n.ensures c.if-n-eq0.false

pub loop-used-init : goal.loop-used-init
loop-used-init c =
    let s = c in
    (refl, refl, past_none s.args.me.now s.args.cycle.now s.args.t _ _ s.requires)

pub slice_bounds-one_field-count : goal.slice_bounds-one_field-count
slice_bounds-one_field-count c = c.loop-used.invariant.2.within

pub slice_bounds-one_field-start : goal.slice_bounds-one_field-start
slice_bounds-one_field-start c = c.loop-used.invariant.2.within

pub one_field-x-requires : goal.one_field-x-requires
one_field-x-requires c = c.loop-used.invariant.2.ready

pub returns-then-n-eq0 : goal.returns-then-n-eq0
returns-then-n-eq0 c =
    let f = c in
    let at = f in
    turn_end at.args.me.now at.args.cycle.now at.args.t at.loop-used.invariant.2 f.one_field-x.ensures f.bytes_of-n.ensures c.if-n-eq0.true

pub overflow_add-fields : goal.overflow_add-fields
overflow_add-fields c = omega (arith, sized (goal.at.overflow_add-fields c).Else-n-eq0, c.loop-used.invariant.2.fewer, short (goal.at.overflow_add-fields c).Start)

pub overflow_add-used : goal.overflow_add-used
overflow_add-used c = omega (arith, sized (goal.at.overflow_add-used c).Else-n-eq0, short (goal.at.overflow_add-used c).Start)

pub loop-used-smaller : goal.loop-used-smaller
loop-used-smaller c = omega (arith, sized (goal.at.loop-used-smaller c).Else-n-eq0)

pub loop-used-preserved : goal.loop-used-preserved
loop-used-preserved c =
    let f = c in
    let at = f in
    (search rules, search rules, turn at.args.me.now at.args.cycle.now at.args.t at.loop-used.invariant.2 f.one_field-x.ensures f.bytes_of-n.ensures c.if-n-eq0.false)

pub returns : goal.returns
returns c =
    let at = c in
    let within = at.loop-used.invariant.2.within in
    nothing_left at.args.me.now at.args.cycle.now at.args.t at.loop-used.invariant.2 (omega arith)
