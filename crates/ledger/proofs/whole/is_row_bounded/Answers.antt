-- `ledger::whole::is_row_bounded` meets its contract: `all` over the numbers below 9 is `all_below`, and the bounds go by the place among the nine.
use Rattle.std.proofs.Common.{rules, arith, refl, ℕ, ◌+◌, ◌*◌, ◌%◌, ◌≡◌, ◌∙◌}
use Rattle.std.proofs.lemmas.Iterator.{YieldsList-from_range}
use Rattle.std.proofs.lemmas.Iterator.Search.{all_from_yields_List}
use borrow.Author.Tests.{tests}
use lib.IntN.{ℤ}
use Rattle.rules.specs.Shown.{in_bounds}
use Rattle.numbers.proofs.Tests.{all_range}
use Rattle.ledger.specs.Row.{at}
use Rattle.ledger.proofs.whole.is_row_bounded.Goals as goal

by_place : (c k : ℕ) (z : ℤ) → in_bounds (9 * c + k) z ≡ in_bounds k z
unfolding in_bounds
by_place c k z = let place : (9 * c + k) % 9 ≡ k % 9 = omega arith in rw place refl

pub returns : goal.returns
returns c =
    let test = λ (k : ℕ). in_bounds (9 * c.args.c + k) (at c.args.ledger.now (9 * c.args.c + k)) in
    all_from_yields_List test _ _ _ c.all.ensures.ran (YieldsList-from_range 0 9 9 refl refl)
    (λ k b q l. rw (by_place c.args.c k (at c.args.ledger.now (9 * c.args.c + k))) (search (rules, tests)))
    ∙ all_range 9 test
