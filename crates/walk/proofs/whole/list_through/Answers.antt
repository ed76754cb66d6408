-- `walk::whole::list_through` meets its contract.
use mathlib.Core.List.{List, ◌++◌}
use mathlib.Core.Path.{◌≡◌, refl, sym, ◌∙◌}
use Prim.Native.Nat.{ℕ, min}
use native.Mathlib.Omega.{arith}
use lib.ListN.{length, take}
use Rattle.listing.specs.Lines.{most_count}
use Rattle.desk.specs.Feeding.{laid_of, empty_desk}
use Rattle.walk.specs.Walks.{Shows}
use Rattle.intake.specs.Turns.{round_of}
use Rattle.walk.proofs.Going.{sending_none, going_ready, shown_few, shows_on, going_on_lem, gone_out}
use Rattle.walk.proofs.Recording.{finished_records, lost_records}
use Rattle.walk.proofs.whole.list_through.Goals as goal
use Rattle.walk.proofs.whole.list_through.Goals.{After-walk_on-walk}

-- the lines of the turn before have gone out, all of them, and are counted
abbrev out : After-walk_on-walk → List ℕ
out t = t.loop-walk.invariant.1.out ++ take t.loop-walk.walk.printed t.loop-walk.lines

sent_is : (t : After-walk_on-walk) → t.more_sent-sent.result ≡ min (length (out t)) most_count
sent_is t =
    let s = t.loop-walk.invariant.1 in
    let went = t in
    gone_out s.out t.loop-walk.lines t.loop-walk.walk.printed s.sent_is (omega (arith, s.printed)) went.send-went.ensures.0 t.if-went-walk.false t.more_sent-sent.ensures

-- what is shown behind the turn
shown : (t : After-walk_on-walk) → (let s = t in let w = t.walk_on-walk.result in let k = t.walk_on-walk.new in
    Shows (laid_of empty_desk s.args.room.now s.args.ledger.now s.args.map.now) s.args.most (out t ++ take w.printed k.lines) (round_of w.turn k.buffer k.room k.ledger k.map) w.spot)
shown t = shows_on t.loop-walk.invariant.1.going t.walk_on-walk.result _ t.walk_on-walk.ensures.adds

pub loop-walk-init : goal.loop-walk-init
loop-walk-init c = let s = c in ((refl, (refl, (refl, (refl, refl)))), sending_none _ _ _ _ _ _ _ c.begin-walk.ensures (omega (arith, s.ranges.most)) (omega (arith, s.requires.1)))

pub returns-then-went-walk : goal.returns-then-went-walk
returns-then-went-walk c = let at = c in let s = at.loop-walk.invariant.1 in lost_records at.loop-walk.walk at.loop-walk.lines s.out s.going.shows s.sent_is s.going.on

pub walk_on-walk-requires : goal.walk_on-walk-requires
walk_on-walk-requires c =
    let at = c in
    let s = at in
    let same = at.loop-walk.invariant.0 in
    (going_ready at.loop-walk.invariant.1.going (omega (arith, c.loop-walk-test.true)) (omega (arith, same.0, s.requires.0)), omega (arith, same.0, same.1.1.1.1, s.requires.1))

pub finish-requires : goal.finish-requires
finish-requires c =
    let t = c in
    let k = t.walk_on-walk.auto in
    record { most_line_in_bounds = (omega (arith, t.walk_on-walk.ensures.most_line_in_bounds, k.lines), omega (arith, t.walk_on-walk.ensures.goes.0.within, k.buffer)); fields_le_most_fields = shown_few (shown (goal.at.finish-requires c).After-walk_on-walk) }

pub returns-then-not-goes_on : goal.returns-then-not-goes_on
returns-then-not-goes_on c =
    let end = c in
    let t = end in
    let k = t.walk_on-walk.auto in
    finished_records t.walk_on-walk.result t.walk_on-walk.new.lines (out (goal.at.returns-then-not-goes_on c).After-walk_on-walk) (shown (goal.at.returns-then-not-goes_on c).After-walk_on-walk) (sent_is (goal.at.returns-then-not-goes_on c).After-walk_on-walk) (omega (arith, t.walk_on-walk.ensures.most_line_in_bounds, k.lines)) end.finish.ensures.value end.finish.ensures.lines_after

pub loop-walk-smaller : goal.loop-walk-smaller
loop-walk-smaller c =
    let f = c in
    let t = f in
    omega (arith, t.walk_on-walk.ensures.goes.0.falls (sym f.goes_on.ensures ∙ c.if-not-goes_on.false))

pub loop-walk-preserved : goal.loop-walk-preserved
loop-walk-preserved c =
    let f = c in
    let t = f in
    let k = t.walk_on-walk.auto in
    let i = c.loop-walk.invariant in (
      (k.buffer ∙ i.0.0, (k.room ∙ i.0.1.0, (k.ledger ∙ i.0.1.1.0, (k.map ∙ i.0.1.1.1.0, k.lines ∙ i.0.1.1.1.1)))),
      record {
        out = out (goal.at.loop-walk-preserved c).After-walk_on-walk;
        going = going_on_lem i.1.going t.walk_on-walk.result _ t.walk_on-walk.ensures.adds (sym f.goes_on.ensures ∙ c.if-not-goes_on.false) t.walk_on-walk.ensures.goes.0 k.buffer t.walk_on-walk.ensures.goes.1;
        printed = omega (arith, t.walk_on-walk.ensures.most_line_in_bounds, k.lines);
        sent_is = sent_is (goal.at.loop-walk-preserved c).After-walk_on-walk;
      },
    )

pub finish-requires-2 : goal.finish-requires-2
finish-requires-2 c = let g = c.loop-walk.invariant.1 in record { most_line_in_bounds = (g.printed, g.going.within); fields_le_most_fields = shown_few g.going.shows }

pub returns : goal.returns
returns c =
    let end = c in
    let at = end in
    let s = at.loop-walk.invariant.1 in
    finished_records at.loop-walk.walk at.loop-walk.lines s.out s.going.shows s.sent_is (omega (arith, s.printed)) end.finish-2.ensures.value end.finish-2.ensures.lines_after
