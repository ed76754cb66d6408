-- `consumption::finish` meets its contract: 13 by the range, or the figures of what was gathered.
use mathlib.Core.Path.{◌≡◌, ap, ap₂, ◌∙◌}
use Prim.Native.Nat.{ℕ, ◌*◌, ◌/◌, ◌^◌, ◌≤◌, ◌<◌}
use native.Mathlib.Nat.{div-div-eq-div-mul, div-le_self, div-mul-le_self}
use native.Mathlib.Omega.{arith}
use lib.IntN.{pos, nat_abs}
use lib.Signed.{le_z}
use Rattle.rules.specs.Words.{up}
use Rattle.laws.specs.Beside.{most_whole}
use Rattle.numbers.proofs.Signed.{read}
use Rattle.numbers.proofs.Tests.{pass, stop, tests}
use Rattle.rules.specs.Closing.{range, recharge_by}
use Rattle.laws.specs.Answers.{gives, figure_said}
use Rattle.consumption.specs.Figures.{weighed_by, finished_by}
use Rattle.consumption.proofs.Weights.{Positive, positive, Cast, cast, machine}
use Rattle.consumption.proofs.finish.Goals as goal
use Rattle.consumption.proofs.finish.Goals.{After-weighted_of-weighted, Start}

-- the whole energy is a natural number
module _ (s : Start) where
  natural : Positive most_whole s.args.total
  natural = positive _ _ s.requires.weighable.2 s.requires.weighable.1

  whole : Cast (machine s.args.total) s.args.total
  whole = cast tt (read s.ranges.total) natural

-- W
found : (c : After-weighted_of-weighted) → (let a = c.args in c.weighted_of-weighted.result ≡ weighed_by a.g a.n (up a.total))
found c = let a = c.args in c.weighted_of-weighted.ensures ∙ ap (weighed_by a.g a.n) (whole c.before).is

-- the range, as the code has it and as the definition has it
abbrev R : Start → ℕ
R s = range (up s.args.total) (weighed_by s.args.g s.args.n (up s.args.total))

range-is : (c : After-weighted_of-weighted) → range (nat_abs (machine c.args.total)) c.weighted_of-weighted.result ≡ R c.before
range-is c = ap₂ range (whole c.before).is (found c)

pub returns-then-range-lt1 : goal.returns-then-range-lt1
unfolding finished_by
returns-then-range-lt1 c = stop _ (omega (tests, range-is (goal.at.returns-then-range-lt1 c).After-weighted_of-weighted))

-- a range of at most 4 × 10^15 of energy
short : (E W : ℕ) → E ≤ most_whole → range E W < 2 ^ 51
short E W h = omega (arith, div-div-eq-div-mul (5 * E) 72 W, div-le_self (5 * E / 72) W, div-mul-le_self (5 * E) 72)

pub charged-recharge-requires : goal.charged-recharge-requires
charged-recharge-requires c =
    let s = (goal.at.charged-recharge-requires c).Start in
    let E = read s.ranges.total in
    let F = read s.ranges.after in
    record {
      le_range = (c.if-range-lt1.false, short _ _ (omega (arith, (whole s).is, (natural s).most)), ap (le_z (pos 1)) E ∙ s.requires.weighable.1, rw E s.requires.weighable.2);
      sized = (rw F s.requires.sized.0, s.requires.sized.1);
    }

pub returns : goal.returns
unfolding finished_by
returns c =
    let W = found (goal.at.returns c).After-weighted_of-weighted in
    let r = range-is (goal.at.returns c).After-weighted_of-weighted in
    let E = read c.ranges.total in
    let F = read c.ranges.after in
    let recharge = c.charged-recharge.ensures ∙ (λ i. figure_said (recharge_by (E i) (r i) (F i) c.args.charge)) in
    pass _ (omega (tests, r)) (λ i. gives (record { weighted = W i; range = r i; recharge = recharge i }))
