-- `consumption::divided` meets its contract: of total = a × range + b, the quotient of b's part stays small, and a's is added to it.
use mathlib.Core.Path.{ap, sym, ◌∙◌}
use Prim.Native.Nat.{ℕ, ◌+◌, ◌*◌, ◌/◌}
use native.Mathlib.Omega.{arith}
use Rattle.wide.specs.Ratio.{ratio}
use Rattle.wide.proofs.Answers.{is_quotient, over_quotient, more_is}
use Rattle.laws.proofs.Recharge.{by_parts, part_small}
use Rattle.consumption.proofs.divided.Goals as goal

pub returns : goal.returns
returns c =
    let a = c.args in
    let t = is_quotient _ _ _ _ (sym c.in_ok-t.was ∙ c.muldiv.ensures) in
    c.more.ensures
    ∙ rw c.whole.ensures (more_is _ _ _ _)
    ∙ ap (λ (n : ℕ). ratio n a.both) (ap (λ (n : ℕ). n + a.total / a.range * (a.wh * 1000000)) t ∙ by_parts a.total a.wh a.range (omega arith))

pub returns-in_err-t : goal.returns-in_err-t
returns-in_err-t c =
    let a = c.args in
    let large = over_quotient _ a.range (omega arith) (omega arith) (sym c.in_err-t.was ∙ c.muldiv.ensures) in
    let z : ⊥ = omega (arith, part_small a.total a.wh a.range (omega arith)) in
    absurd z
