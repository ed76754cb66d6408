-- `consumption::gathering::with_cycle` meets its contract: each sum and each test is that of one cycle more.
use mathlib.Core.Bool.{◌&&◌}
use mathlib.Core.Path.{ap, ap₂, ◌∙◌}
use Prim.Native.Nat.{◌+◌, ◌^◌, ◌≤◌, ◌<◌}
use native.Mathlib.Omega.{arith}
use lib.Dec.{leb}
use Rattle.rules.specs.Bench.{most_cycles}
use Rattle.rules.specs.Closing.{is_rate}
use Rattle.consumption.specs.declared.Gathered.{Gathered}
use Rattle.consumption.specs.declared.Rated.{Rated}
use Rattle.consumption.proofs.Weights.{energy_most, rate_most}
use Rattle.consumption.proofs.Gathers.{gathered_energy_most, gathered_rates_most, rates_more, energy_more, drawn_more, rated_more}
use Rattle.consumption.proofs.gathering.with_cycle.Goals as goal
use Rattle.consumption.proofs.gathering.with_cycle.Goals.{After-rated_in-x}

-- what was gathered, and the cycle
module _ (c : After-rated_in-x) where
  rates_small : c.args.g.rates + c.rated_in-x.result.rate < 2 ^ 64
  rates_small =
      let l = c.args.ledger.now in
      let most : c.args.c ≤ most_cycles = omega (arith, c.requires.2) in
      let of-g = ap (λ (x : Gathered). x.rates) c.requires.3 in
      let of_c = ap (λ (x : Rated). x.rate) c.rated_in-x.ensures in
      omega (arith, of-g, of_c, gathered_rates_most l c.requires.0 c.args.c most, rate_most l c.requires.0 c.args.c c.requires.2)

  energy_small : c.args.g.energy + c.rated_in-x.result.energy < 2 ^ 64
  energy_small =
      let l = c.args.ledger.now in
      let most : c.args.c ≤ most_cycles = omega (arith, c.requires.2) in
      let of-g = ap (λ (x : Gathered). x.energy) c.requires.3 in
      let of_c = ap (λ (x : Rated). x.energy) c.rated_in-x.ensures in
      omega (arith, of-g, of_c, gathered_energy_most l c.requires.0 c.args.c most, energy_most l c.requires.0 c.args.c c.requires.2)

pub overflow_add-result : goal.overflow_add-result
overflow_add-result c = record { fits = rates_small (goal.at.overflow_add-result c).After-rated_in-x }

pub overflow_add-result-2 : goal.overflow_add-result-2
overflow_add-result-2 c = record { fits = energy_small (goal.at.overflow_add-result-2 c).After-rated_in-x }

pub returns : goal.returns
returns c =
    let a = c.args in
    let l = a.ledger.now in
    let h = c.requires.1 in
    let g = c.requires.3 in
    let x = c.rated_in-x.ensures in
    let rates = ap₂ (λ (y : Gathered) (z : Rated). y.rates + z.rate) g x ∙ rates_more l a.c h in
    let energy = ap₂ (λ (y : Gathered) (z : Rated). y.energy + z.energy) g x ∙ energy_more l a.c h in
    let drawn = (λ i. (g i).drawn && leb 1 (x i).energy) ∙ drawn_more l a.c h in
    let rated = ap₂ ◌&&◌ (ap (λ (y : Gathered). y.rated) g) (c.is_rate.ensures ∙ ap (λ (z : Rated). is_rate z.rate) x) ∙ rated_more l a.c h in
    λ i. record { first = (g i).first; second = (g i).second; rates = rates i; energy = energy i; drawn = drawn i; rated = rated i }
