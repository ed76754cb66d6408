-- `reading::read_refusal` meets its contract: each return is under the tests that `read_ground` makes.
use mathlib.Core.Path.{sym, ◌∙◌}
use Rattle.numbers.proofs.Tests.{pass, stop}
use Rattle.reading.specs.Answers.{read_ground}
use Rattle.reading.proofs.read_refusal.Goals as goal

pub returns-then-not-is_reading : goal.returns-then-not-is_reading
unfolding read_ground
returns-then-not-is_reading c = stop _ (sym c.is_reading.ensures ∙ c.if-not-is_reading.true)

pub returns : goal.returns
unfolding read_ground
returns c = pass 1 (sym c.is_reading.ensures ∙ c.if-not-is_reading.false) c.ground_refusal.ensures
