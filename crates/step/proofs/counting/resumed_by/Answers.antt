-- `step::counting::resumed_by` meets its contract: the window of the first position, worked out anew.
use mathlib.Core.Path.{refl}
use native.Mathlib.Omega.{arith}
use Rattle.rules.specs.Shortened.{beside}
use Rattle.laws.proofs.Sound.{Sound, sound, real}
use Rattle.step.proofs.Placing.{until_made}
use Rattle.step.proofs.counting.resumed_by.Goals as goal
use Rattle.step.proofs.counting.resumed_by.Goals.{Start}

good : (c : Start) → Sound c.args.cycle.now
good c = sound _ c.requires.0

pub window_at-window-requires : goal.window_at-window-requires
window_at-window-requires c =
    let start = c in
    (start.requires.0, start.requires.1, real (good (goal.at.window_at-window-requires c).Start))

pub until_in-requires : goal.until_in-requires
until_in-requires c = let s = good (goal.at.until_in-requires c).Start in omega arith

pub returns : goal.returns
returns c =
    let at = c in
    let start = at in
    let b = start.args.cycle.now in
    let g = start.args.g in
    let e = at.window_at-window.ensures.value in
    let u = until_made b (good (goal.at.returns c).Start) start.args.w at.window_at-window.result c.until_in.result (beside 0) e 0 refl c.until_in.ensures in
    λ i. record {
      progress = c.counted_one.ensures i;
      row = 2;
      phase = 0;
      window = e i;
      open_row = g.row;
      open_phase = g.phase;
      position = 0;
      until = u i;
    }
