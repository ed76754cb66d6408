-- `step::lending::add_in_cycle` meets its contract: what is done to the nine numbers that are lent on is done to the ledger at their places.
use Rattle.ledger.proofs.Rows.{nine_length, nine_small, nine_interval}
use Rattle.step.proofs.lending.add_in_cycle.Goals as goal

pub add_interval-requires : goal.add_interval-requires
add_interval-requires c =
    let a = c in
    (nine_length a.args.row a.args.ledger.now a.requires.ledger_numbers_in_bounds.1 a.requires.ledger_numbers_in_bounds.0, a.requires.ledger_numbers_in_bounds.2, nine_small a.args.row a.args.ledger.now a.requires.ledger_numbers_in_bounds.1 a.requires.ledger_numbers_in_bounds.0 a.requires.by_index, a.requires.ledger_numbers_in_bounds.3, a.requires.ledger_numbers_in_bounds.4)

pub returns : goal.returns
returns c =
    let a = c in
    nine_interval a.args.row a.args.ledger.now a.requires.ledger_numbers_in_bounds.1 a.requires.ledger_numbers_in_bounds.0 a.args.phase a.args.x a.args.y a.requires.ledger_numbers_in_bounds.2 c.add_interval.ensures
