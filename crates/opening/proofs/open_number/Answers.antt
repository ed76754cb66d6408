-- `opening::open_number` meets its contract: the number is tested, then kept.
use mathlib.Core.Path.{sym, ◌∙◌}
use Prim.Native.Nat.{◌+◌}
use Rattle.rules.specs.Numbered.{number}
use Rattle.numbers.proofs.Tests.{pass, stop}
use Rattle.laws.specs.Answers.{gives}
use Rattle.opening.specs.Answers.{opens}
use Rattle.opening.proofs.open_number.Goals as goal

pub returns-then-not-is_number : goal.returns-then-not-is_number
returns-then-not-is_number c = c.refused_at.ensures.said number ∙ stop _ (sym c.is_number.ensures ∙ c.if-not-is_number.true)

pub returns : goal.returns
returns c =
    let e = c in
    let a = e.args in
    pass _ (sym e.is_number.ensures ∙ e.if-not-is_number.false)
    (λ i. record { says = gives (opens a.n); opening = record { fields = a.o.fields + 1; vehicle = c.characters_of.ensures i; cycle = a.o.cycle } })
