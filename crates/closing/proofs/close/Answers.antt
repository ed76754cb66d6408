-- `closing::close` meets its contract: a refusal of the ground stands; else the closing.
use mathlib.Core.Path.{◌≡◌, sym, ap, ◌∙◌}
use Rattle.laws.specs.Answers.{refuses}
use Rattle.laws.proofs.Answers.{numbered}
use Rattle.numbers.proofs.Tests.{settled_taken, settled_answer}
use Rattle.closing.specs.Answers.{grounds}
use Rattle.closing.proofs.Grounds.{standing, closing_after}
use Rattle.closing.proofs.close.Goals as goal

pub returns-in-Err : goal.returns-in-Err
returns-in-Err c =
    let a = c.args in
    settled_answer refuses _ (c.number.ensures ∙ c.in-Err.ensures) (λ z. numbered _ (sym c.number.ensures ∙ z))
    ∙ closing_after a.run a.amounts a.cycle.now a.ledger.now a.map.now

pub close_on-requires : goal.close_on-requires
close_on-requires c = let s = standing _ _ _ _ _ (sym c.in_default.ensures) in (s.run_ground.is_run_lem, s.amounts, s.run_ground.bounded)

pub returns : goal.returns
returns c =
    let a = c.args in
    c.close_on.ensures ∙ sym (settled_taken _ (sym c.in_default.ensures))
    ∙ closing_after a.run a.amounts a.cycle.now a.ledger.now a.map.now
