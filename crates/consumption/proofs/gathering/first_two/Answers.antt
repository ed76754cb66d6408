-- `consumption::gathering::first_two` meets its contract: each sum and each test is that of the first two cycles.
use mathlib.Core.Bool.{◌&&◌}
use mathlib.Core.Path.{◌≡◌, ap, ap₂, ◌∙◌}
use Prim.Native.Nat.{◌+◌}
use native.Mathlib.Omega.{arith}
use lib.Dec.{leb}
use Rattle.rules.specs.Words.{up}
use Rattle.rules.specs.Closing.{is_rate}
use Rattle.ledger.specs.Row.{energy_in}
use Rattle.consumption.specs.declared.Rated.{Rated}
use Rattle.consumption.proofs.Weights.{energy_most}
use Rattle.consumption.proofs.Gathers.{rates_two, energy_two, drawn_two, rated_two}
use Rattle.consumption.proofs.gathering.first_two.Goals as goal
use Rattle.consumption.proofs.gathering.first_two.Goals.{After-rated_in-second}

-- the two cycles
module _ (c : After-rated_in-second) where
  energy_is : c.rated_in-first.result.energy + c.rated_in-second.result.energy ≡ up (energy_in c.args.ledger.now 0) + up (energy_in c.args.ledger.now 1)
  energy_is = ap₂ (λ (x y : Rated). x.energy + y.energy) c.rated_in-first.ensures c.rated_in-second.ensures

pub overflow_add-result : goal.overflow_add-result
overflow_add-result c =
    let l = c.args.ledger.now in
    record { fits = omega (arith, energy_is (goal.at.overflow_add-result c).After-rated_in-second, energy_most l c.requires 0 (omega arith), energy_most l c.requires 1 (omega arith)) }

pub returns : goal.returns
returns c =
    let l = c.args.ledger.now in
    let one = c.rated_in-first.ensures in
    let two = c.rated_in-second.ensures in
    let energy = energy_is (goal.at.returns c).After-rated_in-second ∙ energy_two l in
    let drawn = (λ i. leb 1 (one i).energy && leb 1 (two i).energy) ∙ drawn_two l in
    let rates = ap₂ ◌&&◌ (c.is_rate.ensures ∙ ap (λ (x : Rated). is_rate x.rate) one) (c.is_rate-2.ensures ∙ ap (λ (x : Rated). is_rate x.rate) two) in
    let rated = rates ∙ rated_two l in
    λ i. record { first = one i; second = two i; rates = rates_two l i; energy = energy i; drawn = drawn i; rated = rated i }
