-- `consumption::weigh` meets its contract: the three products are added up, exact.
use mathlib.Core.Path.{ap, ◌∙◌}
use Prim.Native.Nat.{ℕ, ◌*◌}
use native.Mathlib.Omega.{arith}
use Rattle.wide.specs.Ratio.{ratio}
use Rattle.wide.proofs.Answers.{more_is}
use Rattle.consumption.proofs.weigh.Goals as goal

pub returns : goal.returns
returns c =
    let a = c.args in
    c.more.ensures
    ∙ rw (c.more-two.ensures, c.muldiv-one.ensures, more_is, more_is) (ap (λ (n : ℕ). ratio n (a.total * a.k)) (omega arith))
