-- `step::lending::count_in_cycle` meets its contract: what is done to the nine numbers that are lent on is done to the ledger at their places.
use mathlib.Core.Path.{◌∙◌}
use Rattle.ledger.proofs.Rows.{nine_length, nine_small, nine_over, nine_outside}
use Rattle.step.proofs.lending.count_in_cycle.Goals as goal

pub add_outside-requires : goal.add_outside-requires
add_outside-requires c =
    let a = c in
    (nine_length a.args.row a.args.ledger.now a.requires.ledger_numbers_in_bounds.1 a.requires.ledger_numbers_in_bounds.0, nine_small a.args.row a.args.ledger.now a.requires.ledger_numbers_in_bounds.1 a.requires.ledger_numbers_in_bounds.0 a.requires.by_index)

pub returns : goal.returns
returns c =
    let a = c in
    let done = c.add_outside.ensures in
    record { value = done.value ∙ nine_over a.args.row a.args.ledger.now a.requires.ledger_numbers_in_bounds.1 a.requires.ledger_numbers_in_bounds.0 a.args.outside a.args.allowance; ledger_after = nine_outside a.args.row a.args.ledger.now a.requires.ledger_numbers_in_bounds.1 a.requires.ledger_numbers_in_bounds.0 a.args.outside done.row_after }
