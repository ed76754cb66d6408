-- `state::last_cycle` meets its contract: the sample last judged is one of those that can count, and beside stretches there are four cycles.
use mathlib.Core.Path.{ap, ◌∙◌}
use Prim.Native.Nat.{ℕ, ◌*◌, ◌<◌}
use native.Mathlib.Nat.{div-lt_iff_lt-mul}
use native.Mathlib.Omega.{arith}
use Rattle.rules.specs.declared.Method.{Method}
use Rattle.state.specs.State.{most_by}
use Rattle.state.proofs.Checked.{limits, judged_most}
use Rattle.state.proofs.Stretches.{shortened_length, last_most}
use Rattle.state.proofs.last_cycle.Goals as goal
use Rattle.state.proofs.last_cycle.Goals.{In-Regular, Start}

module _ (s : Start) where
  abbrev N : ℕ
  N = 20 * s.args.run.track.seconds

  real : 0 < N
  real = omega (arith, (limits _ s.requires.2).long)

pub overflow_mul-n : goal.overflow_mul-n
overflow_mul-n c = omega (arith, (limits _ c.requires.2).short)

pub last_around-requires : goal.last_around-requires
last_around-requires c =
    let s = c in
    let g = limits _ s.requires.2 in
    (real (goal.at.last_around-requires c).Start, omega (arith, g.short), (shortened_length g.method c.in-Shortened.is).1)

pub returns-in-Regular : goal.returns-in-Regular
returns-in-Regular c =
    let regular = c.in-Regular.is in
    let last = c.last_judged-last.ensures in
    let n = N (goal.at.returns-in-Regular c).Start in
    let long = real (goal.at.returns-in-Regular c).Start in
    let most = ap (λ (y : Method). most_by y n) regular in
    let few = judged_most c.args.run.progress.end _ _ _ (limits _ c.requires.2).progress (omega (arith, most, long)) in
    (rw (regular, last, c.requires.1), (div-lt_iff_lt-mul long).1 (omega (arith, last, most, few)))

pub returns-in-Shortened : goal.returns-in-Shortened
returns-in-Shortened c =
    let s = c in
    let last = c.last_judged-last in
    let few = last_most (N (goal.at.returns-in-Shortened c).Start) c.in-Shortened.x.length (real (goal.at.returns-in-Shortened c).Start) last.result in
    (c.last_around.ensures ∙ rw (c.in-Shortened.is, last.ensures, s.requires.1), omega (arith, c.last_around.ensures, few))

pub nonzero_div-result : goal.nonzero_div-result
nonzero_div-result c = omega (arith, (limits _ c.requires.2).long)
