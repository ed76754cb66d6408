-- `cycle::points_are_speeds` meets its contract: `all` over the numbers below n is `all_below`.
use Rattle.std.proofs.Common.{rules, arith, refl, ◌∙◌}
use Rattle.std.proofs.lemmas.Iterator.{YieldsList-from_range}
use Rattle.std.proofs.lemmas.Iterator.Search.{all_from_yields_List}
use borrow.Author.Tests.{tests}
use Rattle.rules.specs.Cycle.{is_speed}
use Rattle.numbers.proofs.Tests.{all_range}
use Rattle.cycle.proofs.points_are_speeds.Goals as goal

pub returns : goal.returns
returns c =
    let test = is_speed c.args.cycle.now in
    all_from_yields_List test _ _ _ c.all.ensures.ran (YieldsList-from_range 0 c.args.n c.args.n refl (omega arith)) (λ x b q k. search (rules, tests))
    ∙ all_range c.args.n test
