-- `step::places::ridden_at` meets its contract: row and position are quotient and remainder by the number of positions.
use mathlib.Core.Path.{◌≡◌, ap, ◌∙◌}
use Prim.Native.Nat.{ℕ, ◌*◌, ◌/◌, ◌%◌, ◌<◌}
use native.Mathlib.Nat.{mod-lt, div-le_self}
use native.Mathlib.Omega.{arith}
use Rattle.rules.specs.Cycle.{positions, phase_at}
use Rattle.laws.proofs.Sound.{Sound, sound, real}
use Rattle.step.proofs.places.ridden_at.Goals as goal
use Rattle.step.proofs.places.ridden_at.Goals.{After-seconds_of-n, Start}

good : (c : Start) → Sound c.args.cycle.now
good c = sound _ c.requires

-- the number of positions, as the code has it
same : (c : After-seconds_of-n) → 20 * c.seconds_of-n.result ≡ positions c.args.cycle.now
same c = ap (λ (n : ℕ). 20 * n) c.seconds_of-n.ensures

more : (c : After-seconds_of-n) → 0 < 20 * c.seconds_of-n.result
more c = omega (arith, same c, real (good c.before.before.before))

pub seconds_of-n-requires : goal.seconds_of-n-requires
seconds_of-n-requires c = let s = good (goal.at.seconds_of-n-requires c).Start in omega arith

pub overflow_mul-n : goal.overflow_mul-n
overflow_mul-n c = let s = good (goal.at.overflow_mul-n c).Start in omega (arith, same (goal.at.overflow_mul-n c).After-seconds_of-n)

pub overflow_cast-result : goal.overflow_cast-result
overflow_cast-result c = omega (arith, div-le_self c.args.i (20 * c.seconds_of-n.result))

pub phase_of-requires : goal.phase_of-requires
phase_of-requires c =
    let start = c in
    (start.requires, rw (same (goal.at.phase_of-requires c).After-seconds_of-n) (mod-lt start.args.i (real (good (goal.at.phase_of-requires c).Start))))

pub returns : goal.returns
returns c =
    let start = c in
    let b = start.args.cycle.now in
    let i = start.args.i in
    let e = same (goal.at.returns c).After-seconds_of-n in
    λ k. record { row = i / e k; position = i % e k; phase = (c.phase_of.ensures ∙ ap (λ (n : ℕ). phase_at b (i % n)) e) k }

pub nonzero_rem-position : goal.nonzero_rem-position
nonzero_rem-position c = more (goal.at.nonzero_rem-position c).After-seconds_of-n

pub nonzero_div-result : goal.nonzero_div-result
nonzero_div-result c = more (goal.at.nonzero_div-result c).After-seconds_of-n
