-- `desk::feed` meets its contract: 1 or 2 before all else, with nothing taken; else the desk is fed.
use mathlib.Core.Path.{sym, ap, ◌∙◌}
use Rattle.laws.proofs.Answers.{numbered}
use Rattle.desk.specs.Feeding.{FedSaid, Laid, laid_of, fed_on}
use Rattle.desk.proofs.Grounds.{ground_steady, feed_stops}
use Rattle.desk.proofs.feed.Goals as goal
use Rattle.desk.proofs.feed.Goals.{Start}

abbrev laid : Start → Laid
laid s = laid_of s.args.desk s.args.room.now s.args.ledger.now s.args.map.now

pub returns-in-Err : goal.returns-in-Err
returns-in-Err c =
    let a = c.args in
    ap (λ (f : FedSaid). fed_on f a.room.now a.ledger.now a.map.now) c.stopped.ensures
    ∙ feed_stops (laid (goal.at.returns-in-Err c).Start) a.input.now c.in-Err.ensures (numbered c.in-Err.refusal)

pub feed_on-requires : goal.feed_on-requires
feed_on-requires c =
    ground_steady (laid (goal.at.feed_on-requires c).Start) (sym c.in_default.ensures)

pub returns : goal.returns
returns c = c.feed_on.ensures
