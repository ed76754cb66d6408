-- `sources::begun::first_of` meets its contract: in each arm the method is known.
use Prim.Native.Nat.{◌≤◌, ◌*◌}
use native.Mathlib.Nat.{mul-le-mul}
use native.Mathlib.Omega.{arith}
use Rattle.state.proofs.Stretches.{shortened_length}
use Rattle.state.proofs.Checked.{limits}
use Rattle.rules.specs.Bench.{most_cycles, most_positions}
use Rattle.sources.proofs.begun.first_of.Goals as goal
use Rattle.sources.proofs.begun.first_of.Goals.{Start}

-- c cycles have no more positions than 64 of the longest
few : (s : Start) → s.args.c * (20 * s.args.run.track.seconds) ≤ most_cycles * most_positions
few s =
    let l : s.args.c ≤ most_cycles = omega (arith, s.requires.1) in
    let g : 20 * s.args.run.track.seconds ≤ most_positions = omega (arith, (limits _ s.requires.0).short) in
    mul-le-mul l g

pub overflow_mul-n : goal.overflow_mul-n
overflow_mul-n c = omega (arith, (limits _ c.requires.0).short)

pub overflow_mul-result : goal.overflow_mul-result
overflow_mul-result c = omega (arith, few (goal.at.overflow_mul-result c).Start)

pub first_around-requires : goal.first_around-requires
first_around-requires c =
    let g = limits _ c.requires.0 in
    ((shortened_length g.method c.in-Shortened.is).1, omega (arith, g.short))

pub returns-in-Regular : goal.returns-in-Regular
returns-in-Regular c =
    (rw c.in-Regular.is, omega (arith, few (goal.at.returns-in-Regular c).Start))
