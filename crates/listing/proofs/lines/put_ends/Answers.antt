-- `listing::lines::put_ends` meets its contract.
use mathlib.Core.Path.{refl}
use native.Mathlib.Omega.{arith}
use borrow.Author.Rules.{rules}
use Rattle.rules.specs.Listing.{end_of_phase}
use Rattle.sheet.proofs.Overlaid.{wrote_most, wrote_is}
use Rattle.listing.proofs.Texts.{none_in_turn, more_in_turn, end_is}
use Rattle.listing.proofs.lines.put_ends.Goals as goal

pub loop-k-init : goal.loop-k-init
loop-k-init c = let s = c in (refl, none_in_turn (end_of_phase s.args.cycle.now) s.args.out.now s.args.at)

pub loop-k-preserved : goal.loop-k-preserved
loop-k-preserved c =
    let call = c in
    let at = call in
    let s = at in
    let end = end_is s.args.cycle.now at.loop-k.k s.args.n _ _ call.end_of-end.ensures call.byte_behind.ensures s.requires.2 in
    (search rules, wrote_most (more_in_turn (end_of_phase s.args.cycle.now) at.loop-k.k at.loop-k.invariant.1 (wrote_is call.put_number-next.ensures end) (omega arith)) (omega arith))
