-- `step::places::shortened_at` meets its contract: before M, in M, behind it, in E.
use mathlib.Core.Path.{sym, ap, ◌∙◌}
use native.Mathlib.Omega.{arith}
use Rattle.laws.proofs.Sound.{Sound, sound}
use Rattle.laws.proofs.Shortened.{stand_early, stand_M, stand_late, stand_E}
use Rattle.step.specs.Where.{next_at}
use Rattle.step.proofs.places.shortened_at.Goals as goal
use Rattle.step.proofs.places.shortened_at.Goals.{Start}

good : (c : Start) → Sound c.args.cycle.now
good c = sound _ c.requires.0

pub seconds_of-two-requires : goal.seconds_of-two-requires
seconds_of-two-requires c = let s = good (goal.at.seconds_of-two-requires c).Start in omega arith

pub overflow_mul-two : goal.overflow_mul-two
overflow_mul-two c = let s = good (goal.at.overflow_mul-two c).Start in omega arith

pub returns-then-j-two : goal.returns-then-j-two
returns-then-j-two c =
    let start = c in
    let b = start.args.cycle.now in
    c.ridden_at.ensures ∙ ap (next_at b) (sym (stand_early b start.args.m start.args.j (omega arith)))

pub overflow_add-two : goal.overflow_add-two
overflow_add-two c = let s = good (goal.at.overflow_add-two c).Start in omega arith

pub returns-then-j-two-2 : goal.returns-then-j-two-2
returns-then-j-two-2 c =
    let start = c in
    let b = start.args.cycle.now in
    c.beside_at.ensures ∙ ap (next_at b) (sym (stand_M b start.args.m start.args.j (omega arith) (omega arith)))

pub overflow_mul-two-2 : goal.overflow_mul-two-2
overflow_mul-two-2 c = let s = good (goal.at.overflow_mul-two-2 c).Start in omega arith

pub overflow_add-two-2 : goal.overflow_add-two-2
overflow_add-two-2 c = let s = good (goal.at.overflow_add-two-2 c).Start in omega arith

pub returns-then-j-two-3 : goal.returns-then-j-two-3
returns-then-j-two-3 c =
    let start = c in
    let b = start.args.cycle.now in
    c.ridden_at-then-j-two-3.ensures ∙ ap (next_at b) (sym (stand_late b start.args.m start.args.j (omega arith) (omega arith)))

pub returns : goal.returns
returns c =
    let start = c in
    let b = start.args.cycle.now in
    c.beside_at-2.ensures ∙ ap (next_at b) (sym (stand_E b start.args.m start.args.j (omega arith)))
