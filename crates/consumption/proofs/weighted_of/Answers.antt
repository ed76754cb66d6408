-- `consumption::weighted_of` meets its contract: the answer of `weigh` is never over.
use mathlib.Core.Path.{sym, ◌∙◌}
use Prim.Native.Nat.{◌*◌, ◌≤◌}
use Rattle.laws.specs.Beside.{most_whole}
use native.Mathlib.Nat.{mul-le-mul}
use native.Mathlib.Omega.{arith}
use Rattle.rules.specs.Closing.{weight}
use Rattle.laws.proofs.Weighing.{weight_pos}
use Rattle.wide.proofs.Answers.{is_quotient, over_quotient}
use Rattle.consumption.proofs.weighted_of.Goals as goal

pub returns-in-Some : goal.returns-in-Some
returns-in-Some c = is_quotient _ _ _ _ (sym c.in-Some.is ∙ c.weigh.ensures)

pub returns-in-None : goal.returns-in-None
returns-in-None c =
    let g = c.requires in
    let E = c.args.total in
    let n = c.args.n in
    let size : weight E n ≤ most_whole * 62 = mul-le-mul {n₂ = most_whole} {m₂ = 62} (omega (arith, g.small)) (omega (arith, g.most)) in
    let large = over_quotient _ _ (weight_pos E n g.some g.three) (omega (arith, size)) (sym c.in-None.is ∙ c.weigh.ensures) in
    absurd (omega (arith, g.greatest, large))
