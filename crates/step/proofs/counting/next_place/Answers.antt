-- `step::counting::next_place` meets its contract: the next sample stands at the next position of the cycle, or is looked for.
use mathlib.Core.Path.{◌≡◌, sym, ap, ◌∙◌}
use Prim.Native.Nat.{◌<◌}
use native.Mathlib.Omega.{arith}
use Rattle.rules.specs.Cycle.{phase_at}
use Rattle.rules.specs.Regular.{cycle_of, position_of}
use Rattle.rules.specs.Shortened.{row_of}
use Rattle.rules.specs.Bench.{most_positions}
use Rattle.laws.specs.Beside.{stand_of, place_of}
use Rattle.laws.proofs.Sound.{Sound, sound}
use Rattle.step.proofs.Standing.{place_phase, Riding, position_is, row_is, phase_is, position_most, rides}
use Rattle.step.proofs.Placing.{next_within}
use Rattle.step.proofs.counting.next_place.Goals as goal
use Rattle.step.proofs.counting.next_place.Goals.{Start}

-- the sound cycle, and where the run stands, at the entry
module _ (c : Start) where
  good : Sound c.args.cycle.now
  good = sound _ c.requires.0.sound

  riding : Riding c.args.cycle.now c.args.y c.args.g.progress.counted
  riding = rides c.args.cycle.now good c.args.w c.args.y c.args.g c.requires.0.stands c.requires.1

  at_place : c.args.g.position ≡ place_of c.args.cycle.now (stand_of c.args.cycle.now c.args.y c.args.g.progress.counted)
  at_place = position_is c.args.cycle.now good c.args.w c.args.y c.args.g c.requires.0.stands

  at_position : c.args.g.position ≡ position_of c.args.cycle.now riding.place
  at_position = at_place ∙ ap (place_of c.args.cycle.now) riding.is

  at_row : c.args.g.row ≡ cycle_of c.args.cycle.now riding.place
  at_row =
      row_is c.args.cycle.now good c.args.w c.args.y c.args.g c.requires.0.stands ∙ ap (row_of c.args.cycle.now) riding.is

  at_phase : c.args.g.phase ≡ phase_at c.args.cycle.now c.args.g.position
  at_phase =
      phase_is c.args.cycle.now good c.args.w c.args.y c.args.g c.requires.0.stands
      ∙ place_phase c.args.cycle.now good (stand_of c.args.cycle.now c.args.y c.args.g.progress.counted)
      ∙ ap (phase_at c.args.cycle.now) (sym at_place)

  small_position : c.args.g.position < most_positions
  small_position = position_most c.args.cycle.now good c.args.w c.args.y c.args.g c.requires.0.stands

pub overflow_add-position : goal.overflow_add-position
overflow_add-position c = omega (arith, small_position (goal.at.overflow_add-position c).Start)

pub seconds_of-requires : goal.seconds_of-requires
seconds_of-requires c = let s = good (goal.at.seconds_of-requires c).Start in omega arith

pub overflow_mul-seconds_of : goal.overflow_mul-seconds_of
overflow_mul-seconds_of c = let s = good (goal.at.overflow_mul-seconds_of c).Start in omega arith

pub overflow_add-result : goal.overflow_add-result
overflow_add-result c = omega (arith, small_position (goal.at.overflow_add-result c).Start)

pub next_phase-requires : goal.next_phase-requires
next_phase-requires c =
    let start = c in
    (start.requires.0.sound, omega arith, at_phase (goal.at.next_phase-requires c).Start)

pub returns-then-position-seconds_of : goal.returns-then-position-seconds_of
returns-then-position-seconds_of c =
    let start = c in
    next_within start.args.cycle.now (good (goal.at.returns-then-position-seconds_of c).Start) start.args.y start.args.g.progress.counted (riding (goal.at.returns-then-position-seconds_of c).Start)
    (omega (arith, at_position (goal.at.returns-then-position-seconds_of c).Start)) _ _ _ (at_row (goal.at.returns-then-position-seconds_of c).Start) (at_position (goal.at.returns-then-position-seconds_of c).Start) c.next_phase.ensures
