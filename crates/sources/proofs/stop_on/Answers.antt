-- `sources::stop_on` meets its contract: in each arm the method is known, and a regular run has 64 cycles.
use mathlib.Core.Path.{ap, ◌∙◌}
use Prim.Native.Nat.{◌/◌, ◌≤◌, ◌*◌}
use native.Mathlib.Nat.{div-le_of_le-mul}
use native.Mathlib.Omega.{arith}
use Rattle.rules.specs.Bench.{most_cycles}
use Rattle.sources.specs.Sources.{row_of}
use Rattle.state.proofs.Stretches.{shortened_length}
use Rattle.state.proofs.Checked.{limits, progress_most}
use Rattle.state.specs.State.{most_by}
use Rattle.rules.specs.declared.Method.{Method}
use Rattle.sources.proofs.stop_on.Goals as goal

pub overflow_mul-n : goal.overflow_mul-n
overflow_mul-n c = omega (arith, (limits _ c.requires).short)

pub ride_stop-requires : goal.ride_stop-requires
ride_stop-requires c = omega (arith, (limits _ c.requires).long)

pub stop_around-requires : goal.stop_around-requires
stop_around-requires c = let g = limits _ c.requires in
    ((shortened_length g.method c.in-Shortened.is).1, omega (arith, g.long), omega (arith, g.short))

pub returns-in-Regular : goal.returns-in-Regular
returns-in-Regular c =
    let n = 20 * c.args.run.track.seconds in
    let g = limits _ c.requires in
    let regular = c.in-Regular.is in
    let most = ap (λ (y : Method). most_by y n) regular in
    let few = (progress_most _ _ _ _ g.progress).1 in
    let row : c.args.run.progress.counted / n ≤ most_cycles = div-le_of_le-mul n (omega (arith, most, few)) in
    record { value = c.ride_stop.ensures ∙ rw regular; cycle_le_row_e = omega (arith, ap row_of c.ride_stop.ensures) }
