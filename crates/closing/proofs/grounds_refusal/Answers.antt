-- `closing::grounds_refusal` meets its contract: 1 stands before the refusals of the ground.
use mathlib.Core.Path.{sym, ◌∙◌}
use Rattle.numbers.proofs.Tests.{pass, stop}
use Rattle.closing.proofs.grounds_refusal.Goals as goal

pub returns-then-not-are_amounts : goal.returns-then-not-are_amounts
returns-then-not-are_amounts c = stop _ (sym c.are_amounts.ensures ∙ c.if-not-are_amounts.true)

pub returns : goal.returns
returns c =
    pass _ (sym c.are_amounts.ensures ∙ c.if-not-are_amounts.false) c.ground_refusal.ensures
