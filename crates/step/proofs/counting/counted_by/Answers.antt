-- `step::counting::counted_by` meets its contract: all is worked out anew, or only the ends of the window move.
use mathlib.Core.Path.{◌≡◌, sym, ap, ◌∙◌}
use Prim.Native.Nat.{◌+◌, ◌<◌}
use native.Mathlib.Omega.{arith}
use Rattle.rules.specs.Bench.{most_positions}
use Rattle.laws.proofs.Sound.{Sound, sound}
use Rattle.window.specs.declared.Window.{Window}
use Rattle.window.specs.Moving.{window_of}
use Rattle.step.proofs.Standing.{position_is, window_is, until_is, position_most}
use Rattle.step.proofs.Placing.{goes_on, moved_is}
use Rattle.step.proofs.counting.counted_by.Goals as goal
use Rattle.step.proofs.counting.counted_by.Goals.{Start}

module _ (c : Start) where
  good : Sound c.args.cycle.now
  good = sound _ c.requires.0.sound

  small_position : c.args.g.position < most_positions
  small_position = position_most c.args.cycle.now good c.args.w c.args.y c.args.g c.requires.0.stands

  at_window : c.args.g.window ≡ window_of c.args.cycle.now c.args.w c.args.g.position
  at_window =
      window_is c.args.cycle.now good c.args.w c.args.y c.args.g c.requires.0.stands
      ∙ ap (window_of c.args.cycle.now c.args.w) (sym (position_is c.args.cycle.now good c.args.w c.args.y c.args.g c.requires.0.stands))

  later : c.args.g.position + 1 < c.args.g.until → c.args.g.position + 1 < c.args.g.window.until
  later h =
      let u = until_is c.args.cycle.now good c.args.w c.args.y c.args.g c.requires.0.stands in
      let e = ap (λ (x : Window). x.until) (window_is c.args.cycle.now good c.args.w c.args.y c.args.g c.requires.0.stands) in
      omega arith

pub overflow_add-position : goal.overflow_add-position
overflow_add-position c = omega (arith, small_position (goal.at.overflow_add-position c).Start)

pub shift-requires : goal.shift-requires
shift-requires c =
    let start = c in
    let near : start.args.g.position + 1 < start.args.g.until = omega arith in
    (start.requires.0.sound, goes_on start.args.cycle.now (good (goal.at.shift-requires c).Start) start.args.w start.args.y start.args.g start.requires.0.stands start.requires.1 near, at_window (goal.at.shift-requires c).Start, later (goal.at.shift-requires c).Start near)

pub overflow_add-result : goal.overflow_add-result
overflow_add-result c = omega (arith, small_position (goal.at.overflow_add-result c).Start)

pub returns : goal.returns
returns c =
    let start = c in
    rw c.counted_one.ensures
    (moved_is start.args.cycle.now (good (goal.at.returns c).Start) start.args.w start.args.y start.args.g start.requires.0.stands start.requires.1 (omega arith)
    start.args.x c.shift.result c.shift.ensures)
