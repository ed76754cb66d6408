-- `figures::figures_of` meets its contract: the refusal of the tests before all else, or the figures.
use mathlib.Core.Path.{sym, ap, ◌∙◌}
use Rattle.numbers.proofs.Tests.{settled_taken, settled_answer}
use Rattle.laws.specs.Answers.{gives, refuses}
use Rattle.laws.proofs.Answers.{numbered}
use Rattle.figures.proofs.OfRun.{figurable}
use Rattle.figures.proofs.figures_of.Goals as goal

pub returns-in-Err : goal.returns-in-Err
returns-in-Err c = settled_answer refuses _ c.in-Err.ensures (numbered c.in-Err.refusal)

pub figures_on-requires : goal.figures_on-requires
figures_on-requires c = figurable _ _ _ _ (sym c.in_default.ensures)

pub returns : goal.returns
returns c = ap gives c.figures_on.ensures ∙ sym (settled_taken _ (sym c.in_default.ensures))
