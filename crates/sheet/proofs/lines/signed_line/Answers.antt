-- `sheet::lines::signed_line` meets its contract.
use mathlib.Core.List.{[], ◌∷◌, ◌++◌}
use mathlib.Core.Path.{ap}
use native.Mathlib.Omega.{arith}
use lib.IntN.{ℤ}
use Rattle.numbers.proofs.Signed.{read}
use Rattle.rules.specs.Text.{line, signed}
use Rattle.sheet.proofs.Overlaid.{wrote_then, wrote_most, wrote_is}
use Rattle.sheet.proofs.lines.signed_line.Goals as goal

pub returns : goal.returns
unfolding line
returns c =
    let v = wrote_is c.put_signed.ensures (ap (λ (z : ℤ). signed z ++ 10 ∷ []) (read c.ranges.z)) in
    wrote_most (wrote_then c.put_text-next.ensures v (omega arith)) (omega arith)
