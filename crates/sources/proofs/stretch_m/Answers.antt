-- `sources::stretch_m` meets its contract: the state's numbers, within their limits.
use mathlib.Core.Path.{ap, ◌∙◌}
use Prim.Native.Nat.{◌*◌}
use native.Mathlib.Omega.{arith}
use mir.Syntax.{w64}
use Rattle.sources.specs.Sources.{begun_m, finished_m}
use Rattle.state.proofs.Stretches.{stretched_m}
use Rattle.state.proofs.Checked.{limits}
use Rattle.numbers.proofs.Signed.{sfits, read}
use Rattle.numbers.proofs.Whole.{of_nat}
use Rattle.sources.proofs.stretch_m.Goals as goal

pub overflow_mul-n : goal.overflow_mul-n
overflow_mul-n c = omega (arith, (limits _ c.requires).short)

pub begun_m-begun-requires : goal.begun_m-begun-requires
begun_m-begun-requires c = omega (arith, (limits _ c.requires).short)

pub finished_m-finished-requires : goal.finished_m-finished-requires
finished_m-finished-requires c = let g = limits _ c.requires in (omega (arith, g.short), g.method)

pub overflow_cast-result : goal.overflow_cast-result
overflow_cast-result c = sfits w64 tt (of_nat (stretched_m _ (limits _ c.requires).stretched).1)

pub returns : goal.returns
returns c =
    let g = limits _ c.requires in
    let r = c.args.run in
    let closed = c.closed_of-closed.ensures in
    let begun = c.begun_m-begun.ensures ∙ ap (begun_m r.track.method (20 * r.track.seconds)) closed in
    let finished = c.finished_m-finished.ensures ∙ ap (finished_m r.track.method (20 * r.track.seconds)) closed in
    let energy = read (sfits w64 tt (stretched_m r g.stretched).0) in
    let distance = read (sfits w64 tt (of_nat (stretched_m r g.stretched).1)) in
    λ i. record { energy = energy i; distance = distance i; begun = begun i; finished = finished i }
