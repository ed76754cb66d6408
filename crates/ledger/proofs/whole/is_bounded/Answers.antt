-- `ledger::whole::is_bounded` meets its contract: `all` over the 64 rows of nine is `all_below` over the 576 numbers.
use Rattle.std.proofs.Common.{rules, refl, ℕ, ◌+◌, ◌*◌, ◌∙◌}
use Rattle.std.proofs.lemmas.Iterator.{YieldsList-from_range}
use Rattle.std.proofs.lemmas.Iterator.Search.{all_from_yields_List}
use borrow.Author.Tests.{tests, le-leb}
use Rattle.rules.specs.Words.{all_below}
use Rattle.rules.specs.Bench.{most_cycles}
use Rattle.rules.specs.Shown.{in_bounds}
use Rattle.numbers.proofs.Tests.{all_range, all_rows}
use Rattle.ledger.specs.Row.{at, bounded}
use Rattle.ledger.proofs.whole.is_bounded.Goals as goal

pub returns-then-ledger-ge-LEDGER_NUMBERS : goal.returns-then-ledger-ge-LEDGER_NUMBERS
unfolding bounded
returns-then-ledger-ge-LEDGER_NUMBERS c =
    let test = λ (i : ℕ). in_bounds i (at c.args.ledger.now i) in
    let row = λ (r : ℕ). all_below 9 (λ k. test (9 * r + k)) in
    rw (le-leb _ _ c.if-ledger-ge-LEDGER_NUMBERS.true)
    (all_from_yields_List row _ _ _ c.all.ensures.ran (YieldsList-from_range 0 most_cycles most_cycles refl refl) (λ x b q k. search (rules, tests))
    ∙ all_range most_cycles row
    ∙ all_rows 9 most_cycles test)
