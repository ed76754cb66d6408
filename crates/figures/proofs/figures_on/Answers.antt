-- `figures::figures_on` meets its contract: the sums are the judge's, and the closing is that of the same run and amounts.
use mathlib.Core.Path.{ap, ◌∙◌}
use borrow.Author.Rules.{rules}
use mir.Syntax.{w64}
use mir.Val.{SFits}
use Rattle.numbers.proofs.Signed.{read}
use Rattle.laws.proofs.Answers.{same_closing}
use Rattle.state.specs.Refusals.{beside_by, cycles_by}
use Rattle.rules.specs.Closing.{least_finished}
use Rattle.consumption.specs.Figures.{closing_on}
use Rattle.judge.specs.declared.Sums.{Sums}
use Rattle.figures.proofs.figures_on.Goals as goal
use Rattle.figures.proofs.figures_on.Goals.{After-sums_of-sums}

-- what the types say of the two signed sums
outside-fits : (c : After-sums_of-sums) → SFits w64 c.sums_of-sums.result.outside
outside-fits c = search rules

drawn_fits : (c : After-sums_of-sums) → SFits w64 c.sums_of-sums.result.drawn
drawn_fits c = search rules

pub returns : goal.returns
returns c =
    let summed = c in
    let a = summed.args in
    let reading = a.reading in
    let sums = summed.sums_of-sums.ensures in
    let outside = read (outside-fits (goal.at.returns c).After-sums_of-sums) ∙ ap (λ (x : Sums). x.outside) sums in
    let by-rules = closing_on a.ledger.now (beside_by reading.run) (least_finished reading.run.track.method) (cycles_by reading.run) reading.amounts in
    let closing = same_closing c.close_on.result by-rules c.close_on.ensures in
    let drawn = read (drawn_fits (goal.at.returns c).After-sums_of-sums) ∙ ap (λ (x : Sums). x.drawn) sums in
    λ i. record {
      vehicle = reading.vehicle;
      end = (sums i).end;
      counted = (sums i).counted;
      cycles = (sums i).cycles;
      outside = outside i;
      passed = reading.passed;
      drawn = drawn i;
      closing = closing i;
    }
