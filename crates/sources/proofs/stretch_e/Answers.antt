-- `sources::stretch_e` meets its contract: the state's numbers, within their limits.
use mathlib.Core.Bool.{false}
use mathlib.Core.Path.{ap, ◌∙◌}
use Prim.Native.Nat.{◌*◌}
use native.Mathlib.Omega.{arith}
use mir.Syntax.{w64}
use Rattle.sources.specs.Sources.{begun_e}
use Rattle.state.proofs.Stretches.{stretched_e}
use Rattle.state.proofs.Checked.{limits}
use Rattle.numbers.proofs.Signed.{sfits, read}
use Rattle.numbers.proofs.Whole.{of_nat}
use Rattle.sources.proofs.stretch_e.Goals as goal

pub overflow_mul-n : goal.overflow_mul-n
overflow_mul-n c = omega (arith, (limits _ c.requires).short)

pub begun_e-begun-requires : goal.begun_e-begun-requires
begun_e-begun-requires c = let g = limits _ c.requires in (omega (arith, g.short), g.method)

pub overflow_cast-result : goal.overflow_cast-result
overflow_cast-result c = sfits w64 tt (of_nat (stretched_e _ (limits _ c.requires).stretched).1)

pub returns : goal.returns
returns c =
    let g = limits _ c.requires in
    let r = c.args.run in
    let closed = c.closed_of-closed.ensures in
    let begun = c.begun_e-begun.ensures ∙ ap (begun_e r.track.method (20 * r.track.seconds)) closed in
    let energy = read (sfits w64 tt (stretched_e r g.stretched).0) in
    let distance = read (sfits w64 tt (of_nat (stretched_e r g.stretched).1)) in
    λ i. record { energy = energy i; distance = distance i; begun = begun i; finished = false }
