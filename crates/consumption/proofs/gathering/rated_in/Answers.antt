-- `consumption::gathering::rated_in` meets its contract: without a distance the rate is 0, as the quotient by 0 is.
use mathlib.Core.Path.{◌≡◌, ap, ◌∙◌}
use native.Mathlib.Omega.{arith}
use mir.Syntax.{w64}
use mir.Val.{SFits}
use Rattle.rules.specs.Words.{up}
use Rattle.numbers.proofs.Signed.{read}
use Rattle.ledger.specs.Row.{energy_in}
use Rattle.consumption.proofs.Weights.{natural, energy_most}
use Rattle.consumption.proofs.gathering.rated_in.Goals as goal
use Rattle.consumption.proofs.gathering.rated_in.Goals.{After-unwrap_or-distance, After-unwrap_or-energy}

-- the two natural numbers
energy : (c : After-unwrap_or-energy) → (let a = c.args in c.unwrap_or-energy.result ≡ up (energy_in a.ledger.now a.c))
energy c = let fits : SFits w64 c.energy_in.result = record { sfits = c.energy_in.type_inv } in
    c.unwrap_or-energy.ensures ∙ natural c.try_from.result fits (read fits) c.try_from.ensures ∙ ap up c.energy_in.ensures

pub overflow_mul-result : goal.overflow_mul-result
overflow_mul-result c =
    record { fits = omega (arith, energy (goal.at.overflow_mul-result c).After-unwrap_or-energy, energy_most c.args.ledger.now c.requires.0 c.args.c c.requires.1) }
