-- `state::cycles_of` meets its contract: no more samples count than 64 cycles have, and beside stretches there are four.
use mathlib.Core.Path.{ap, ◌∙◌}
use Prim.Native.Nat.{ℕ, ◌*◌, ◌≤◌}
use native.Mathlib.Nat.{div-le_of_le-mul}
use native.Mathlib.Omega.{arith}
use Rattle.rules.specs.declared.Method.{Method}
use Rattle.state.specs.State.{most_by}
use Rattle.state.proofs.Checked.{limits, progress_most}
use Rattle.state.proofs.Stretches.{shortened_length, finished_most}
use Rattle.state.proofs.cycles_of.Goals as goal
use Rattle.state.proofs.cycles_of.Goals.{Start}

module _ (s : Start) where
  abbrev N : ℕ
  N = 20 * s.args.run.track.seconds

  real : 1 ≤ N
  real = omega (arith, (limits _ s.requires).long)

pub overflow_mul-n : goal.overflow_mul-n
overflow_mul-n c = omega (arith, (limits _ c.requires).short)

pub finished_around-requires : goal.finished_around-requires
finished_around-requires c =
    let s = c in
    let g = limits _ s.requires in
    (real (goal.at.finished_around-requires c).Start, omega (arith, g.short), (shortened_length g.method c.in-Shortened.is).1)

pub returns-in-Regular : goal.returns-in-Regular
returns-in-Regular c =
    let s = c in
    let regular = c.in-Regular.is in
    let closed = c.closed_of-closed.ensures in
    let most = ap (λ (y : Method). most_by y (N (goal.at.returns-in-Regular c).Start)) regular in
    let few = (progress_most _ _ _ _ (limits _ s.requires).progress).1 in
    (rw (regular, closed), div-le_of_le-mul (N (goal.at.returns-in-Regular c).Start) (omega (arith, closed, most, few)))

pub returns-in-Shortened : goal.returns-in-Shortened
returns-in-Shortened c =
    let s = c in
    let closed = c.closed_of-closed in
    let few = finished_most (N (goal.at.returns-in-Shortened c).Start) c.in-Shortened.x.length (real (goal.at.returns-in-Shortened c).Start) closed.result in
    (c.finished_around.ensures ∙ rw (c.in-Shortened.is, closed.ensures), omega (arith, c.finished_around.ensures, few))

pub nonzero_div-result : goal.nonzero_div-result
nonzero_div-result c = omega (arith, (limits _ c.requires).long)
