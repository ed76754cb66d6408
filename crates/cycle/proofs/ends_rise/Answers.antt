-- `cycle::ends_rise` meets its contract: `all` over the numbers below p is `all_below`.
use Rattle.std.proofs.Common.{rules, arith, refl, ◌∙◌}
use Rattle.std.proofs.lemmas.Iterator.{YieldsList-from_range}
use Rattle.std.proofs.lemmas.Iterator.Search.{all_from_yields_List}
use borrow.Author.Tests.{tests}
use Rattle.rules.specs.Cycle.{rises}
use Rattle.numbers.proofs.Tests.{all_range}
use Rattle.cycle.proofs.ends_rise.Goals as goal

pub returns : goal.returns
returns c =
    let test = rises c.args.cycle.now in
    all_from_yields_List test _ _ _ c.all.ensures.ran (YieldsList-from_range 0 c.args.p c.args.p refl (omega arith)) (λ x b q k. search (rules, tests))
    ∙ all_range c.args.p test
