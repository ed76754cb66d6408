-- `state::own::is_stretched` meets its contract: in each arm the method is known, and the callee tests what is asked there.
use mathlib.Core.Path.{◌≡◌, ◌∙◌}
use Prim.Native.Nat.{◌+◌, ◌*◌}
use native.Mathlib.Omega.{arith}
use lib.Dec.{ltb}
use Rattle.state.specs.State.{are_stretched, is_stretched}
use Rattle.state.proofs.Stretches.{shortened_length}
use Rattle.state.proofs.own.is_stretched.Goals as goal

pub overflow_add-end : goal.overflow_add-end
overflow_add-end c =
    omega (arith, shortened_length c.requires.1 c.in-Shortened.is)

pub returns-in-Regular : goal.returns-in-Regular
unfolding is_stretched
returns-in-Regular c = c.are_stretched.ensures ∙ rw c.in-Regular.is

pub returns-in-Shortened : goal.returns-in-Shortened
unfolding is_stretched
returns-in-Shortened c =
    let a = c.args.run in
    let two : 40 * a.track.seconds ≡ 2 * (20 * a.track.seconds) = omega arith in
    let end : 2 * (40 * a.track.seconds) + c.in-Shortened.x.length ≡ 4 * (20 * a.track.seconds) + c.in-Shortened.x.length = omega arith in
    let closed = c.closed_of-closed.ensures in
    c.are_stretched-in-Shortened.ensures
    ∙ rw c.in-Shortened.is (λ i. are_stretched a.stretched (ltb (two i) (closed i)) (ltb (end i) (closed i)) (ltb (end i) a.progress.counted))
