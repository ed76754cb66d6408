-- `ledger::whole::clear_ledger` meets its contract: `fill` leaves so many zeros in the part that it is lent.
use lib.IntN.{pos}
use Rattle.numbers.proofs.Lists.{filled}
use Rattle.rules.specs.Shown.{ledger_numbers}
use Rattle.ledger.proofs.whole.clear_ledger.Goals as goal

pub returns : goal.returns
returns c = filled (pos 0) ledger_numbers c.args.ledger.now _ c.requires (c.fill.ensures.after (λ y e. e))
