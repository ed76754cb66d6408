-- `intake::parts::digest` meets its contract: what the desk took stands in the bytes lent, and the rest behind it.
use mathlib.Core.Path.{sym, ap}
use native.Mathlib.Omega.{arith}
use lib.ListN.{take}
use lib.Seq.{length-take-le}
use Rattle.desk.specs.Feeding.{Laid, Consumed, laid_of}
use Rattle.desk.proofs.LeftOver.{feed_used}
use Rattle.intake.proofs.Fed.{fed_turn}
use Rattle.intake.proofs.parts.digest.Goals as goal
use Rattle.intake.proofs.parts.digest.Goals.{Start}

abbrev laid : Start → Laid
laid s = laid_of s.args.desk s.args.room.now s.args.ledger.now s.args.map.now

pub slice_bounds-feed_on-end : goal.slice_bounds-feed_on-end
slice_bounds-feed_on-end c = let s = c in sym (length-take-le s.args.upto s.args.buffer.now s.requires.0)

pub overflow_sub-result : goal.overflow_sub-result
overflow_sub-result c =
    let fed = c in
    let s = fed in
    let used = ap (λ (y : Consumed). y.used) fed.feed_on-x.ensures in
    let most = feed_used (laid (goal.at.overflow_sub-result c).Start) (take s.args.upto s.args.buffer.now) in
    omega (arith, used, most, length-take-le s.args.upto s.args.buffer.now s.requires.0)

pub returns : goal.returns
returns c =
    let fed = c in
    let a = fed.args in
    fed_turn fed.feed_on-x.ensures c.turned_by.ensures a.upto a.left a.buffer.now
